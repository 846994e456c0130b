-- Off, it has no best price.
use Rattle.std.proofs.Common.{cond}
use Rattle.market.proofs.Bests.{best-at}
use Rattle.market.proofs.Pairs.{off-best}
use Rattle.market.proofs.switch.FirmSwitchShownMarket.best.Goals as goal

pub returns-else-self : goal.returns-else-self
returns-else-self g c =
    let d = c.args.side in
    let f = g.M.ShownMarket.shown c.args.self.now.market d in
    let a = off-best d f c.args.self.now.firm c.if-self.false in
    record { answer = a; first = best-at d (λ p. cond c.args.self.now.firm (f p) 0) _ a }

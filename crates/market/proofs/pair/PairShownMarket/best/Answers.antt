-- The better of the two best prices is the best of both together.
use Rattle.std.proofs.Common.{◌+◌}
use Rattle.market.proofs.Bests.{best-at}
use Rattle.market.proofs.Pairs.{pair-best-is}
use Rattle.market.proofs.pair.PairShownMarket.best.Goals as goal

pub returns : goal.returns
returns g c =
    let d = c.args.side in
    let f = g.A.ShownMarket.shown c.args.self.now.first d in
    let h = g.B.ShownMarket.shown c.args.self.now.second d in
    let a = pair-best-is d f h _ _ _ c.best.ensures.answer c.best-2.ensures.answer c.better.ensures in
    record { answer = a; first = best-at d (λ p. f p + h p) _ a }

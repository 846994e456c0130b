-- The price of an entry that stands is the best.
use Rattle.std.proofs.Common.{◌≡◌, ◌∙◌, rules}
use Rattle.market.specs.Entries.{entry_of}
use Rattle.market.proofs.Shows.{standing_price, entry-best}
use Rattle.market.proofs.single.SingleMarketShownMarket.best.Goals as goal

pub returns-clause-answer : goal.returns-clause-answer
returns-clause-answer c =
    let o = entry_of c.args.self.now c.args.side in
    let e : c.map.result ≡ standing_price o = search rules in e ∙ entry-best c.args.side o

-- Either way answers the rule's range, of which the other promises hold.
use Rattle.ranges.proofs.Opening.{opening-proper, opening-whole}
use Rattle.ranges.proofs.BestPrices.opening_range.Goals as goal

pub returns-then-is_reaching : goal.returns-then-is_reaching
returns-then-is_reaching c =
    let e = c.away_ends.ensures in
    record { rule = e; proper = opening-proper c.args.self.quotes c.args.self.away e; whole = opening-whole c.args.self.quotes c.args.self.away e }

pub returns-else-is_reaching : goal.returns-else-is_reaching
returns-else-is_reaching c =
    let e = c.wider_spread.ensures in
    record { rule = e; proper = opening-proper c.args.self.quotes c.args.self.away e; whole = opening-whole c.args.self.quotes c.args.self.away e }

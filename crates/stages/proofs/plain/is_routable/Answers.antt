-- The routable contracts of a side are those of the depth at the price.
use Rattle.std.proofs.Common.{ltb, sym, ap, ◌∙◌}
use Rattle.interest.specs.declared.Side.{Side}
use Rattle.book.specs.declared.sums.Depth.{Depth}
use Rattle.book.specs.Books.{rows_of}
use Rattle.book.specs.Ranks.{routable_at}
use Rattle.stages.proofs.plain.is_routable.Goals as goal

pub returns-in-Buy : goal.returns-in-Buy
returns-in-Buy c =
    ap (λ (d : Depth). ltb 0 d.routable_buys) c.depth_at-depth.ensures.is ∙ ap (λ (s : Side). ltb 0 (routable_at s c.args.price (rows_of c.args.book.now))) (sym c.in-Buy.is)

pub returns-in-Sell : goal.returns-in-Sell
returns-in-Sell c =
    ap (λ (d : Depth). ltb 0 d.routable_sells) c.depth_at-depth.ensures.is ∙ ap (λ (s : Side). ltb 0 (routable_at s c.args.price (rows_of c.args.book.now))) (sym c.in-Sell.is)

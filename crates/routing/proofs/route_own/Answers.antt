-- The proof of `route_own`.
use Rattle.std.proofs.Common.{rules, ℕ, ◌+◌, sym, ap, ◌∙◌, arith}
use Rattle.interest.specs.Sides.{opposite}
use Rattle.book.specs.declared.row.Row.{Row}
use Rattle.book.specs.Ranks.{of_side, total_of}
use Rattle.book.specs.Books.{rows_of}
use Rattle.routing.specs.Routes.{count_at, own_limit}
use Rattle.routing.proofs.Routing.{own-each, own-spent, routed-total}
use Rattle.routing.proofs.route_own.Goals as goal

pub route-requires-clause-prices : goal.route-requires-clause-prices
route-requires-clause-prices g c = (own_limit c.args.side, λ k p lt h. search rules)

pub returns : goal.returns
returns g c =
    let side = c.args.side in
    let f : ℕ → ℕ = λ k. count_at (g.M.ShownMarket.shown c.args.market.now (opposite side)) (own_limit side k) in
    let start = rows_of c.args.book.now in
    let r = c.route.ensures in
    let price : ℕ → ℕ = own_limit c.args.side in
    let rows = r.rows price (λ k p lt h. search rules) in
    let sent = r.sent price (λ k p lt h. search rules) in
    let R : Row → ℕ = λ x. x.routed in
    record {
      rows = rows;
      each = own-each f side 100001 start (rows_of c.route.new.book) rows;
      spent = λ i d lt can le some. omega (arith, sent, own-spent f side 100001 start (rows_of c.route.new.book) rows i d lt can (omega arith) some);
      total = ap (total_of R (of_side side)) rows ∙ routed-total f side 100001 start 100001 ∙ ap (λ (n : ℕ). total_of R (of_side side) start + n) (sym sent);
      market = r.market;
    }

-- The proof of `route_at`.
use Rattle.std.proofs.Common.{rules, ℕ, ◌+◌, sym, ap, ◌∙◌}
use Rattle.interest.specs.Sides.{opposite}
use Rattle.book.specs.declared.row.Row.{Row}
use Rattle.book.specs.Ranks.{of_side, can_route, total_of}
use Rattle.book.specs.Books.{rows_of}
use Rattle.routing.specs.Routes.{count_at}
use Rattle.routing.proofs.Routing.{sent-const, route-each, routed-total}
use Rattle.routing.proofs.route_at.Goals as goal

pub route-requires-clause-prices : goal.route-requires-clause-prices
route-requires-clause-prices g c = (λ _. c.args.price, λ k p lt h. search rules)

pub returns : goal.returns
returns g c =
    let q = count_at (g.M.ShownMarket.shown c.args.market.now (opposite c.args.side)) c.args.price in
    let start = rows_of c.args.book.now in
    let side = c.args.side in
    let r = c.route.ensures in
    let price : ℕ → ℕ = λ _. c.args.price in
    let rows = r.rows price (λ k p lt h. search rules) in
    let sent = r.sent price (λ k p lt h. search rules) in
    let R : Row → ℕ = λ x. x.routed in
    record {
      rows = rows;
      each = route-each q side c.args.upto start (rows_of c.route.new.book) rows;
      sent = sent ∙ sent-const q (can_route side) start c.args.upto;
      total = ap (total_of R (of_side side)) rows ∙ routed-total (λ _. q) side c.args.upto start c.args.upto ∙ ap (λ (n : ℕ). total_of R (of_side side) start + n) (sym sent);
      market = r.market;
    }

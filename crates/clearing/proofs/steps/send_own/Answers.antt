-- The proof of `send_own`.
use Rattle.std.proofs.Common.{◌≡◌, ℕ, ap, ◌∙◌}
use mathlib.Core.Path.{fun_ext}
use Rattle.interest.specs.declared.Side.TheVariants.{Buy, Sell}
use Rattle.book.specs.Books.{rows_of}
use Rattle.routing.specs.Routes.{count_at, own_limit, routed_rows}
use Rattle.clearing.specs.Openings.{routed_on}
use Rattle.clearing.proofs.BothSides.{counts-both, routed-sum-other}
use Rattle.clearing.proofs.steps.send_own.Goals as goal

pub returns : goal.returns
returns g c =
    let shown = g.M.ShownMarket.shown in
    let f = shown c.args.market.now in
    let start = rows_of c.args.book.now in
    let mid = rows_of c.route_own-buys.new.book in
    let end = rows_of c.route_own-sells.new.book in
    let bids : shown c.route_own-buys.new.market Buy ≡ f Buy = fun_ext c.route_own-buys.ensures.market.stays in
    let fb : ℕ → ℕ = λ k. count_at (f Sell) (own_limit Buy k) in
    let fs : ℕ → ℕ = λ k. count_at (f Buy) (own_limit Sell k) in
    let one : mid ≡ routed_rows fb Buy 100001 start = c.route_own-buys.ensures.rows in
    let two : end ≡ routed_rows fs Sell 100001 mid = c.route_own-sells.ensures.rows ∙ ap (λ (h : ℕ → ℕ). routed_rows (λ k. count_at h (own_limit Sell k)) Sell 100001 mid) bids in
    record {
      rows = two ∙ ap (routed_rows fs Sell 100001) one;
      counts = counts-both f (shown c.route_own-buys.new.market) (shown c.route_own-sells.new.market) c.route_own-buys.result c.route_own-sells.result start mid end
          c.route_own-buys.ensures.total c.route_own-sells.ensures.total
          (ap (routed_on Buy) two ∙ routed-sum-other fs Sell 100001 mid) (ap (routed_on Sell) one ∙ routed-sum-other fb Buy 100001 start)
          c.route_own-buys.ensures.market.taken c.route_own-buys.ensures.market.stays c.route_own-sells.ensures.market.taken c.route_own-sells.ensures.market.stays;
    }

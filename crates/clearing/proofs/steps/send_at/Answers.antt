-- The proof of `send_at`.
use Rattle.std.proofs.Common.{◌≡◌, ℕ, ap, ◌∙◌}
use mathlib.Core.Path.{fun_ext}
use Rattle.interest.specs.declared.Side.TheVariants.{Buy, Sell}
use Rattle.book.specs.Ranks.{ranks_at}
use Rattle.book.specs.Books.{rows_of}
use Rattle.routing.specs.Routes.{count_at, routed_rows}
use Rattle.clearing.specs.Openings.{routed_on}
use Rattle.clearing.proofs.BothSides.{counts-both, routed-sum-other}
use Rattle.clearing.proofs.steps.send_at.Goals as goal

pub returns : goal.returns
returns g c =
    let shown = g.M.ShownMarket.shown in
    let f = shown c.args.market.now in
    let start = rows_of c.args.book.now in
    let mid = rows_of c.route_at-buys.new.book in
    let end = rows_of c.route_at-sells.new.book in
    let n = c.ranks.result in
    let m = c.ranks-2.result in
    let b = c.ask-buys_at.result in
    let s = c.ask-sells_at.result in
    let bids : shown c.route_at-buys.new.market Buy ≡ f Buy = fun_ext c.route_at-buys.ensures.market.stays in
    let one : mid ≡ routed_rows (λ _. count_at (f Sell) b) Buy n start = c.route_at-buys.ensures.rows in
    let two : end ≡ routed_rows (λ _. count_at (f Buy) s) Sell m mid = c.route_at-sells.ensures.rows ∙ ap (λ (k : ℕ → ℕ). routed_rows (λ _. count_at k s) Sell m mid) bids in
    record {
      rows = λ asked gives.
          let buys = gives Buy b c.ask-buys_at.ensures in
          let sells = gives Sell s c.ask-sells_at.ensures in
          two ∙ ap (λ (x : ℕ). routed_rows (λ _. count_at (f Buy) s) Sell x mid) c.ranks-2.ensures
          ∙ ap (λ (x : ℕ). routed_rows (λ _. count_at (f Buy) x) Sell (ranks_at Sell c.args.price.cents) mid) sells
          ∙ ap (routed_rows (λ _. count_at (f Buy) (asked Sell)) Sell (ranks_at Sell c.args.price.cents))
          (one ∙ ap (λ (x : ℕ). routed_rows (λ _. count_at (f Sell) b) Buy x start) c.ranks.ensures ∙ ap (λ (x : ℕ). routed_rows (λ _. count_at (f Sell) x) Buy (ranks_at Buy c.args.price.cents) start) buys);
      counts = counts-both f (shown c.route_at-buys.new.market) (shown c.route_at-sells.new.market) c.route_at-buys.result c.route_at-sells.result start mid end
          c.route_at-buys.ensures.total c.route_at-sells.ensures.total
          (ap (routed_on Buy) two ∙ routed-sum-other (λ _. count_at (f Buy) s) Sell m mid) (ap (routed_on Sell) one ∙ routed-sum-other (λ _. count_at (f Sell) b) Buy n start)
          c.route_at-buys.ensures.market.taken c.route_at-buys.ensures.market.stays c.route_at-sells.ensures.market.taken c.route_at-sells.ensures.market.stays;
    }

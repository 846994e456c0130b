-- The steps of an opening put together.
use Rattle.std.proofs.Common.{◌≡◌, ℕ, ◌≤◌, Bool, cond, List, map, sym, ap, ◌∙◌, arith}
use mathlib.Core.Path.{fun_ext}
use Rattle.interest.specs.Bounds.{priced}
use Rattle.interest.specs.declared.Side.{Side}
use Rattle.interest.specs.Sides.{opposite}
use Rattle.market.specs.Counts.{best_of}
use Rattle.sharing.specs.declared.level.Holding.{Holding}
use Rattle.book.specs.declared.row.Row.{Row}
use Rattle.settling.specs.declared.Edges.{Edges}
use Rattle.settling.specs.Settles.{cancel_through, rested_row}
use Rattle.clearing.specs.declared.opening.Opening.{Opening}
use Rattle.clearing.specs.Openings.{priced_only, routed_on, counts_left, sent_at, better_than, filled_at, after_fill, after_price, executed, edges_of, settled, rows_after}
use Rattle.clearing.proofs.BothSides.{sent-same, fill-routed}
use Rattle.clearing.proofs.Theorems.{sent-grows}

module _ (shares : ℕ → List Holding → List ℕ) (f g : Side → ℕ → ℕ) (p v : ℕ) (start one two three : List Row)
    (e₁ : one ≡ sent_at f (better_than p) p start) (h₁ : (s : Side) (q : ℕ) → g s q ≡ counts_left f start one s q) (e₂ : two ≡ filled_at shares p v one) (e₃ : three ≡ sent_at g (λ _. p) p two) where
  same_sum : (s : Side) → routed_on s two ≡ routed_on s one
  same_sum s = ap (routed_on s) e₂ ∙ fill-routed shares p v one s

  pub price-rows : three ≡ after_price shares f p v start
  unfolding after_price after_fill
  price-rows =
      let F = filled_at shares p v (sent_at f (better_than p) p start) in
      let full : two ≡ F = e₂ ∙ ap (filled_at shares p v) e₁ in
      let shows : (s : Side) (q : ℕ) → g s q ≡ counts_left f start F s q = λ s q.
      let z : routed_on (opposite s) F ≡ routed_on (opposite s) one = ap (routed_on (opposite s)) (sym full) ∙ same_sum (opposite s) in
      omega (arith, h₁ s q, z) in
      e₃ ∙ ap (sent_at g (λ _. p) p) full ∙ sent-same g (counts_left f start F) (λ _. p) (λ _. p) p F (λ s. ap (λ (n : ℕ). cond (priced p) n 0) (shows (opposite s) p))

  pub price-counts : (k : Side → ℕ → ℕ) → ((s : Side) (q : ℕ) → k s q ≡ counts_left g two three s q) → (s : Side) (q : ℕ) → k s q ≡ counts_left f start three s q
  price-counts k h s q =
      let o = opposite s in
      let up : routed_on o start ≤ routed_on o one = omega (arith, ap (routed_on o) e₁, sent-grows f (better_than p) p start o) in
      let up₂ : routed_on o two ≤ routed_on o three = omega (arith, ap (routed_on o) e₃, sent-grows g (λ _. p) p two o) in
      omega (arith, h s q, h₁ s q, same_sum o)

-- what rests goes by the counts that are left
pub settled_is : (permitted : ℕ → Bool) (f g : Side → ℕ → ℕ) (edges : Edges) (done mid after : List Row) → ((s : Side) (q : ℕ) → g s q ≡ f s q) → mid ≡ map (cancel_through edges) done
    → after ≡ map (rested_row permitted (λ side. best_of side (g side))) mid → after ≡ settled permitted f edges done
settled_is permitted f g edges done mid after same em ea =
    let e : g ≡ f = fun_ext (λ s. fun_ext (λ q. same s q)) in
    ea ∙ ap (map (rested_row permitted (λ side. best_of side (g side)))) em ∙ ap (λ (k : Side → ℕ → ℕ). map (rested_row permitted (λ side. best_of side (k side))) (map (cancel_through edges) done)) e

pub after-is-rows : (permitted : ℕ → Bool) (shares : ℕ → List Holding → List ℕ) (counts : Side → ℕ → ℕ) (o : Opening) (rows done after : List Row) (edges : Edges)
    → done ≡ executed shares counts o.kind (priced_only o.price) o.volume rows → edges ≡ edges_of o.kind (priced_only o.price) o.range → after ≡ settled permitted (counts_left counts rows done) edges done
    → after ≡ rows_after permitted shares counts o rows
unfolding rows_after
after-is-rows permitted shares counts o rows done after edges ed ee ea =
    ea ∙ ap (λ (e : Edges). settled permitted (counts_left counts rows done) e done) ee
    ∙ ap (λ (x : List Row). settled permitted (counts_left counts rows x) (edges_of o.kind (priced_only o.price) o.range) x) ed

-- The rows of one level sent one after another.
use Rattle.std.proofs.Common.{◌≡◌, ℕ, ◌+◌, ◌-◌, ◌<◌, ◌≤◌, min, Bool, true, false, cond, ◌&&◌, eqb, List, [], ◌∷◌, ◌++◌, length, get_or, take, drop, sym, refl, ap, ◌∙◌, arith}
use Rattle.std.proofs.lemmas.Bool.{cond-true, cond-false}
use Rattle.std.proofs.lemmas.List.{at_drop_more, drop-drop, get_or-drop}
use Rattle.interest.specs.Bounds.{priced}
use Rattle.interest.specs.declared.Side.{Side}
use Rattle.interest.specs.declared.Side.TheVariants.{Buy, Sell}
use Rattle.interest.specs.Sides.{opposite}
use Rattle.market.specs.Counts.{counted}
use Rattle.sharing.specs.declared.level.Holding.{Holding}
use Rattle.sharing.specs.Totals.{total, contracts as sizes}
use Rattle.sharing.specs.InOrder.{time_shares}
use Rattle.book.specs.declared.row.Row.{Row}
use Rattle.book.specs.Rows.{sound_table}
use Rattle.book.specs.Ranks.{rank_of}
use Rattle.book.specs.Rewrites.{changed_at}
use Rattle.book.proofs.RewriteFacts.{table-rows, changed-step, passed-step, drop-changed}
use Rattle.book.proofs.RankFacts.{total-le}
use Rattle.levels.specs.Levels.{stands_at, holding_of, level_at}
use Rattle.levels.specs.Deals.{deal}
use Rattle.levels.proofs.Dealing.{level-total}
use Rattle.levels.proofs.Walking.{here-yes}
use Rattle.routing.specs.Routes.{count_at, served}

pub counted_is : (f : ℕ → ℕ) (p n : ℕ) → counted f p n ≡ min n (count_at f p)
counted_is f p n = elim (priced p) as (λ b. cond b (min n (f p)) 0 ≡ min n (cond b (f p) 0)) [ true ↦ refl | false ↦ omega arith ]

-- the count at a price after a send
pub count_less : (f g : ℕ → ℕ) (p m : ℕ) → ((q : ℕ) → g q ≡ f q - m) → count_at g p ≡ count_at f p - m
count_less f g p m h = elim (priced p) as (λ b. cond b (g p) 0 ≡ cond b (f p) 0 - m) [ true ↦ h p | false ↦ omega arith ]

pub opposite-twice : (s : Side) → opposite (opposite s) ≡ s
opposite-twice Buy = refl
opposite-twice Sell = refl

-- serving a level is dealing it out in the order of time
pub served-deal : (part : Row → Bool) (change : ℕ → Row → Row) (k : ℕ) (shares : List ℕ) (j q : ℕ) (rows : List Row) → drop j shares ≡ time_shares q (level_at part k rows) → served part change k q rows ≡ deal part change k shares j rows
served-deal part change k shares j q [] e = refl
served-deal part change k shares j q (r ∷ rows) e =
    let G : Bool → Type 0 = λ b. drop j shares ≡ time_shares q (cond b (holding_of r ∷ level_at part k rows) (level_at part k rows))
    → cond b (change (min r.left q) r ∷ served part change k (q - r.left) rows) (r ∷ served part change k q rows) ≡ cond b (change (get_or shares j 0) r ∷ deal part change k shares (j + 1) rows) (r ∷ deal part change k shares j rows) in
    elim (stands_at part k r) as G [
      | true ↦ (λ h.
          let zj : j + 0 ≡ j = omega arith in
          let head : get_or shares j 0 ≡ min r.left q = ap (λ (x : ℕ). get_or shares x 0) (sym zj) ∙ sym (get_or-drop j shares 0 0) ∙ ap (λ (xs : List ℕ). get_or xs 0 0) h in
          let tail : drop (j + 1) shares ≡ time_shares (q - r.left) (level_at part k rows) = sym (drop-drop 1 j shares) ∙ ap (λ (xs : List ℕ). drop 1 xs) h in
          cc (head, served-deal part change k shares (j + 1) (q - r.left) rows tail))
      | false ↦ (λ h. ap (λ (xs : List Row). r ∷ xs) (served-deal part change k shares j q rows h))
    ] e

-- a turn of the loop over a level's rows
module _ (part : Row → Bool) (change : ℕ → Row → Row) (k : ℕ) (rows : List Row) (i : ℕ) (d : Row) (lt : i < length rows) (q : ℕ) where
  serve-here : served part change k q (drop i rows) ≡ cond (stands_at part k (get_or rows i d)) (change (min (get_or rows i d).left q) (get_or rows i d) ∷ served part change k (q - (get_or rows i d).left) (drop (i + 1) rows)) (get_or rows i d ∷ served part change k q (drop (i + 1) rows))
  serve-here = at_drop_more (served part change k q) rows i d lt

  pub serve-yes : (n q' : ℕ) → stands_at part k (get_or rows i d) ≡ true → n ≡ min (get_or rows i d).left q → q' ≡ q - n
      → take (i + 1) (changed_at i (change n) rows) ++ served part change k q' (drop (i + 1) (changed_at i (change n) rows)) ≡ take i rows ++ served part change k q (drop i rows)
  serve-yes n q' h en eq =
      let x = get_or rows i d in
      let rest = drop (i + 1) rows in
      let less : q' ≡ q - x.left = omega arith in
      let there = serve-here ∙ cond-true (stands_at part k x) _ _ h in
      changed-step (served part change k q') i (change n) rows d lt
      ∙ ap (λ (m : ℕ). take i rows ++ (change n x ∷ served part change k m rest)) less
      ∙ ap (λ (m : ℕ). take i rows ++ (change m x ∷ served part change k (q - x.left) rest)) en
      ∙ ap (λ (xs : List Row). take i rows ++ xs) (sym there)

  pub sum-yes : (n q' : ℕ) → stands_at part k (get_or rows i d) ≡ true → n ≡ min (get_or rows i d).left q → q' ≡ q - n
      → n + min q' (total (sizes (level_at part k (drop (i + 1) (changed_at i (change n) rows))))) ≡ min q (total (sizes (level_at part k (drop i rows))))
  sum-yes n q' h en eq =
      let S : List Row → ℕ = λ xs. total (sizes (level_at part k xs)) in
      let rest : S (drop (i + 1) (changed_at i (change n) rows)) ≡ S (drop (i + 1) rows) = ap S (drop-changed i (change n) rows) in
      omega (arith, rest, ap (λ (xs : List Holding). total (sizes xs)) (here-yes part k rows i d lt h))

  pub serve-no : stands_at part k (get_or rows i d) ≡ false → take (i + 1) rows ++ served part change k q (drop (i + 1) rows) ≡ take i rows ++ served part change k q (drop i rows)
  serve-no h =
      passed-step (served part change k q) i rows d lt
      ∙ ap (λ (xs : List Row). take i rows ++ xs) (sym (serve-here ∙ cond-false (stands_at part k (get_or rows i d)) _ _ h))

pub level-fits : (part : Row → Bool) (k : ℕ) (rows : List Row) → length rows ≤ 128 → sound_table rows ≡ true → total (sizes (level_at part k rows)) ≤ 128000000
level-fits part k rows few sound = omega (arith, level-total part k rows, total-le (λ (r : Row). r.left) (λ r. omega arith) (λ r. part r && eqb (rank_of r) k) rows (table-rows rows sound))

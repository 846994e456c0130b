-- What a send leaves of each level.
use Rattle.std.proofs.Common.{◌≡◌, ℕ, suc, ◌+◌, ◌-◌, ◌<◌, ◌≤◌, min, true, false, ltb, List, length, get_or, take, drop, set, Some, sym, refl, ap, ◌∙◌, subst, inl, inr, arith}
use Rattle.std.proofs.lemmas.Bool.Decides.{nat_tests}
use Rattle.std.proofs.lemmas.Bool.{cond-true, cond-false, cases_Bool, cases_eq, and_parts, true≢false}
use Rattle.std.proofs.lemmas.List.{get_or-set_same, get_or-set_other, length-set, take_all, drop_all}
use Rattle.std.proofs.lemmas.List.Sums.{sum_by-set, get_or-le-sum_by}
use Rattle.interest.specs.Bounds.{priced}
use Rattle.interest.specs.Sides.{opposite, same_side}
use Rattle.interest.specs.declared.Side.{Side}
use Rattle.interest.specs.declared.Side.TheVariants.{Buy, Sell}
use Rattle.market.specs.declared.depth.DepthLevel.{DepthLevel}
use Rattle.market.specs.Counts.{Better, reaches, one_better, counted}
use Rattle.market.specs.Entries.{in_bounds}
use Rattle.market.specs.Levels.{level_stands, level_shows, levels_show, ahead, blank, Foremost, given, lowered}
use Rattle.market.proofs.Sends.{counted-most, reached-good, past-better}
use Rattle.market.proofs.Shows.{bounds}
use Rattle.market.specs.Depths.{level-mono}
use Rattle.market.proofs.Placed.{placed, upto, placed-le, placed_one, placed-const, ahead-placed, none_ahead, better-upto, good-upto, stands-shows, fallen-shows, lowered-less, lowered-stays, level-better, own}

-- a level that has lost some of its contracts, and none if it does not stand on the side
abbrev pub Less : Side → DepthLevel → DepthLevel → Type 0
Less d a b = (b ≡ lowered a (a.size - b.size)) × (b.size ≤ a.size) × (level_stands d a ≡ false → b.size ≡ a.size)

abbrev pub Lowered : Side → List DepthLevel → List DepthLevel → Type 0
Lowered d ls cur = (length cur ≡ length ls) × ((i : ℕ) → Less d (get_or ls i blank) (get_or cur i blank))

level-eq : (a b : DepthLevel) → a.side ≡ b.side → a.price ≡ b.price → a.size ≡ b.size → a ≡ b
level-eq a b s p n =
    ap (λ (x : Side). record { side = x; price = a.price; size = a.size }) s
    ∙ ap (λ (x : ℕ). record { side = b.side; price = x; size = a.size }) p
    ∙ ap (λ (x : ℕ). record { side = b.side; price = b.price; size = x }) n

-- where nothing has been taken
pub not-lowered : (d : Side) (ls : List DepthLevel) → Lowered d ls ls
not-lowered d ls = (refl, λ i. (level-eq (get_or ls i blank) (lowered (get_or ls i blank) ((get_or ls i blank).size - (get_or ls i blank).size)) refl refl (omega arith), omega arith, λ _. refl))

-- taking from a level that stands
less-more : (d : Side) (a b : DepthLevel) (m : ℕ) → level_stands d b ≡ true → Less d a b → Less d a (lowered b m)
less-more d a b m t u = (
  level-eq (lowered b m) (lowered a (a.size - (b.size - m))) (ap (λ (x : DepthLevel). x.side) u.0) (ap (λ (x : DepthLevel). x.price) u.0) (omega (arith, u.1)),
  omega (arith, u.1),
  λ f. absurd (true≢false (sym t ∙ ap (λ (x : DepthLevel). level_stands d x) (level-eq b a (ap (λ (x : DepthLevel). x.side) u.0) (ap (λ (x : DepthLevel). x.price) u.0) (u.2 f)) ∙ f)),
)

pub lowered-more : (d : Side) (ls cur : List DepthLevel) (k m : ℕ) → k < length cur → level_stands d (get_or cur k blank) ≡ true → Lowered d ls cur → Lowered d ls (set cur k (lowered (get_or cur k blank) m))
lowered-more d ls cur k m h t u = (
  length-set cur k (lowered (get_or cur k blank) m) ∙ u.0,
  λ i. elim (cases_eq i k) [
    | inl e ↦ subst (λ (x : ℕ). Less d (get_or ls x blank) (get_or (set cur k (lowered (get_or cur k blank) m)) x blank)) (sym e)
        (subst (λ (x : DepthLevel). Less d (get_or ls k blank) x) (sym (get_or-set_same cur k (lowered (get_or cur k blank) m) blank h)) (less-more d (get_or ls k blank) (get_or cur k blank) m t (u.1 k)))
    | inr ne ↦ subst (λ (x : DepthLevel). Less d (get_or ls i blank) x) (sym (get_or-set_other cur k i (lowered (get_or cur k blank) m) blank ne)) (u.1 i)
  ],
)

pub other-stays : (d : Side) (cur : List DepthLevel) (k m : ℕ) → k < length cur → level_stands d (get_or cur k blank) ≡ true → (p : ℕ) → levels_show (opposite d) (set cur k (lowered (get_or cur k blank) m)) p ≡ levels_show (opposite d) cur p
other-stays d cur k m h t p =
    omega (arith, sum_by-set (λ x. level_shows (opposite d) x p) cur k (lowered (get_or cur k blank) m) blank h, lowered-stays d (get_or cur k blank) m t p)

-- the counts are what goes before the place past the end
placed-all : (d : Side) (p : ℕ) (ls : List DepthLevel) → placed d (upto d (length ls) p) ls ≡ levels_show d ls p
placed-all d p ls =
    let a : levels_show d (take (length ls) ls) p ≡ levels_show d ls p = ap (λ (x : List DepthLevel). levels_show d x p) (take_all (length ls) ls (omega arith)) in
    let b : levels_show d (drop (length ls) ls) (one_better d p) ≡ 0 = ap (λ (x : List DepthLevel). levels_show d x (one_better d p)) (drop_all (length ls) ls (omega arith)) in
    let c = ahead-placed d p (length ls) ls in omega arith

module _ (d : Side) (ls cur : List DepthLevel) (sent : ℕ) (long : length cur ≡ length ls)
    (less : (i p : ℕ) → placed d (upto d i p) cur ≡ placed d (upto d i p) ls - sent) where
  pub counts-less : (p : ℕ) → levels_show d cur p ≡ levels_show d ls p - sent
  counts-less p =
      let a = placed-all d p cur in
      let b = placed-all d p ls in
      let c : placed d (upto d (length cur) p) cur ≡ placed d (upto d (length ls) p) cur = ap (λ (x : ℕ). placed d (upto d x p) cur) long in
      let e = less (length ls) p in omega arith

  -- what is taken of the foremost level is shown
  pub still-shown : (k m p : ℕ) → Foremost d cur (length cur) (Some k) → reaches d (get_or cur k blank).price p ≡ true → m ≤ (get_or cur k blank).size → m ≤ levels_show d ls p - sent
  still-shown k m p u r h =
      let l = get_or cur k blank in
      omega (arith, counts-less p, own d l u.1, level-mono d l l.price p (reached-good d l.price p r), get_or-le-sum_by (λ x. level_shows d x p) cur k blank u.0)

  -- what is not shown any more has all been sent
  pub past-foremost : (k p : ℕ) → Foremost d cur (length cur) (Some k) → reaches d (get_or cur k blank).price p ≡ false → levels_show d ls p - sent ≡ 0
  past-foremost k p u r =
      let q = (get_or cur k blank).price in
      omega (arith, counts-less p, placed-const d p cur, placed-le d (λ _. p) (upto d k q) (better-upto d k q p (past-better d q p r)) cur, none_ahead d cur k u)

next-upto : (d : Side) (i q j : ℕ) → (j ≡ i → ⊥) → upto d i q j ≡ upto d (suc i) q j
next-upto d i q j ne = grind (arith, nat_tests)

-- one level is what goes before the next place and not before its own
placed-next : (d : Side) (q i : ℕ) (ls : List DepthLevel) → i < length ls → level_shows d (get_or ls i blank) (one_better d q) ≡ 0 → placed d (upto d (suc i) q) ls ≡ placed d (upto d i q) ls + level_shows d (get_or ls i blank) q
placed-next d q i ls h z =
    let l = get_or ls i blank in
    let a = placed_one d (upto d i q) (upto d (suc i) q) ls i (next-upto d i q) h in
    let b : level_shows d l (upto d (suc i) q i) ≡ level_shows d l q = ap (λ (x : ℕ). level_shows d l x) (cond-true (ltb i (suc i)) q (one_better d q) (grind (arith, nat_tests))) in
    let c : level_shows d l (upto d i q i) ≡ level_shows d l (one_better d q) = ap (λ (x : ℕ). level_shows d l x) (cond-false (ltb i i) q (one_better d q) (grind (arith, nat_tests))) in
    omega arith

one-better : (d : Side) (q : ℕ) → 1 ≤ q → Better d (one_better d q) q
one-better Buy q h = omega arith
one-better Sell q h = omega arith

-- each level has given what the send asks of it
module _ (d : Side) (ls cur : List DepthLevel) (p n sent : ℕ) (e : priced p ≡ true) (answer : sent ≡ counted (levels_show d ls) p n) (low : Lowered d ls cur)
    (less : (i p : ℕ) → placed d (upto d i p) cur ≡ placed d (upto d i p) ls - sent) where
  gave-standing : (i : ℕ) → i < length ls → level_stands d (get_or ls i blank) ≡ true → (get_or ls i blank).size - (get_or cur i blank).size ≡ given d ls p n i
  gave-standing i h t =
      let a = get_or ls i blank in
      let b = get_or cur i blank in
      let q = a.price in
      let m = a.size - b.size in
      let ok = bounds q a.size (and_parts (same_side d a.side) (in_bounds q a.size) t).1 in
      let u = low.1 i in
      let shown : (x : ℕ) → level_shows d b x ≡ level_shows d a x - m = λ x. ap (λ (l : DepthLevel). level_shows d l x) u.0 ∙ lowered-less d a m t x in
      let z : level_shows d a (one_better d q) ≡ 0 = level-better d a (one_better d q) (one-better d q ok.0) in
      let was = placed-next d q i ls h z in
      let is = placed-next d q i cur (omega (arith, low.0)) (omega (arith, shown (one_better d q))) in
      let mine : level_shows d a q ≡ a.size = own d a t in
      let left : b.size ≡ a.size - (sent - placed d (upto d i q) ls) = omega (arith, shown q, less i q, less (suc i) q, u.1) in
      let all : sent ≡ min n (levels_show d ls p) = answer ∙ cond-true (priced p) (min n (levels_show d ls p)) 0 e in
      let part : given d ls p n i ≡ min (n - ahead d ls i q) (level_shows d a p) = cond-true (priced p) (min (n - ahead d ls i q) (level_shows d a p)) 0 e in
      let before = ahead-placed d q i ls in
      let whole = placed-const d p ls in
      elim (cases_Bool (reaches d q p)) [
        | inl r ↦
            let there : level_shows d a p ≡ a.size = stands-shows d a p t ∙ cond-true (reaches d q p) a.size 0 r in
            let room = placed-le d (upto d (suc i) q) (λ _. p) (good-upto d (suc i) q p (reached-good d q p r)) ls in omega (arith, u.1)
        | inr r ↦
            let there : level_shows d a p ≡ 0 = stands-shows d a p t ∙ cond-false (reaches d q p) a.size 0 r in
            let room = placed-le d (λ _. p) (upto d i q) (better-upto d i q p (past-better d q p r)) ls in omega (arith, u.1)
      ]

  pub gave : (i : ℕ) → i < length ls → get_or cur i blank ≡ lowered (get_or ls i blank) (given d ls p n i)
  gave i h =
      let a = get_or ls i blank in
      (low.1 i).0 ∙ ap (lowered a)
      (elim (cases_Bool (level_stands d a)) [
        | inl t ↦ gave-standing i h t
        | inr f ↦ omega (arith, (low.1 i).2 f, counted-most (level_shows d a) p (n - ahead d ls i a.price), fallen-shows d a p f)
      ])

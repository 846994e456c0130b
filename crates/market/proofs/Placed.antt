-- A send takes levels in their order: best price first, the earlier among equals. Each level is looked at at a price of its own.
use Rattle.std.proofs.Common.{◌≡◌, ℕ, zero, suc, ◌+◌, ◌-◌, ◌<◌, ◌≤◌, Bool, true, false, cond, ltb, List, [], ◌∷◌, length, get_or, take, set, Some, None, Option, sym, refl, ap, ◌∙◌, inl, inr, arith}
use Rattle.std.proofs.lemmas.Bool.Decides.{nat_tests}
use Rattle.std.proofs.lemmas.Bool.{cond-true, cond-false, cond_both, cases_Bool, cases_lt, and_parts, and_cases}
use Rattle.std.proofs.lemmas.List.Sums.{sum_by-cons}
use Rattle.std.specs.Option.{option_map}
use Rattle.interest.specs.Sides.{opposite, same_side}
use Rattle.interest.specs.declared.Side.{Side}
use Rattle.interest.specs.declared.Side.TheVariants.{Buy, Sell}
use Rattle.market.specs.declared.depth.DepthLevel.{DepthLevel}
use Rattle.market.specs.Counts.{AsGood, Better, reaches, one_better, best_of}
use Rattle.market.specs.Entries.{in_bounds, shows}
use Rattle.market.specs.Levels.{level_stands, level_shows, levels_show, ahead, blank, Before, Foremost, lowered}
use Rattle.market.proofs.Bests.{best-is}
use Rattle.market.proofs.Sends.{better-or}
use Rattle.market.proofs.Shows.{bounds, shows-there, reaches-itself}
use Rattle.market.specs.Depths.{level-mono}

-- what a level that stands shows, as it is and lowered
pub stands-shows : (d : Side) (l : DepthLevel) (p : ℕ) → level_stands d l ≡ true → level_shows d l p ≡ cond (reaches d l.price p) l.size 0
stands-shows d l p e =
    let h = and_parts (same_side d l.side) (in_bounds l.price l.size) e in
    cond-true (same_side d l.side) (shows d l.price l.size p) 0 h.0 ∙ shows-there d l.price l.size p h.1

shows-lowered : (d : Side) (price size m p : ℕ) → in_bounds price size ≡ true → shows d price (size - m) p ≡ cond (reaches d price p) (size - m) 0
shows-lowered Buy price size m p e = grind (arith, nat_tests)
shows-lowered Sell price size m p e = grind (arith, nat_tests)

lowered-shows : (d : Side) (l : DepthLevel) (m p : ℕ) → level_stands d l ≡ true → level_shows d (lowered l m) p ≡ cond (reaches d l.price p) (l.size - m) 0
lowered-shows d l m p e =
    let h = and_parts (same_side d l.side) (in_bounds l.price l.size) e in
    cond-true (same_side d l.side) (shows d l.price (l.size - m) p) 0 h.0 ∙ shows-lowered d l.price l.size m p h.1

less-there : (b : Bool) (x m : ℕ) → cond b (x - m) 0 ≡ cond b x 0 - m
less-there true x m = refl
less-there false x m = omega arith

pub lowered-less : (d : Side) (l : DepthLevel) (m : ℕ) → level_stands d l ≡ true → (p : ℕ) → level_shows d (lowered l m) p ≡ level_shows d l p - m
lowered-less d l m e p =
    let a = lowered-shows d l m p e in
    let b = stands-shows d l p e in
    let c = less-there (reaches d l.price p) l.size m in omega arith

pub fallen-shows : (d : Side) (l : DepthLevel) (p : ℕ) → level_stands d l ≡ false → level_shows d l p ≡ 0
fallen-shows d l p e =
    elim (and_cases (same_side d l.side) (in_bounds l.price l.size) e) [
      | inl s ↦ cond-false (same_side d l.side) (shows d l.price l.size p) 0 s
      | inr s ↦ cond_both (same_side d l.side) (shows d l.price l.size p) 0 (λ (x : ℕ). x ≡ 0) (λ _. cond-false (in_bounds l.price l.size) (cond (reaches d l.price p) l.size 0) 0 s) (λ _. refl)
    ]

one_side : (d s : Side) → same_side d s ≡ true → same_side (opposite d) s ≡ false
one_side Buy Buy e = refl
one_side Buy Sell e = sym e
one_side Sell Buy e = sym e
one_side Sell Sell e = refl

pub lowered-stays : (d : Side) (l : DepthLevel) (m : ℕ) → level_stands d l ≡ true → (p : ℕ) → level_shows (opposite d) (lowered l m) p ≡ level_shows (opposite d) l p
lowered-stays d l m e p =
    let s = one_side d l.side (and_parts (same_side d l.side) (in_bounds l.price l.size) e).0 in
    cond-false (same_side (opposite d) l.side) (shows (opposite d) l.price (l.size - m) p) 0 s
    ∙ sym (cond-false (same_side (opposite d) l.side) (shows (opposite d) l.price l.size p) 0 s)

pub own : (d : Side) (l : DepthLevel) → level_stands d l ≡ true → level_shows d l l.price ≡ l.size
own d l e = stands-shows d l l.price e ∙ cond-true (reaches d l.price l.price) l.size 0 (reaches-itself d l.price)

-- a level shows nothing at better prices than its own
shows-better : (d : Side) (price size p : ℕ) → Better d p price → shows d price size p ≡ 0
shows-better Buy price size p b = grind (arith, nat_tests)
shows-better Sell price size p b = grind (arith, nat_tests)

pub level-better : (d : Side) (l : DepthLevel) (p : ℕ) → Better d p l.price → level_shows d l p ≡ 0
level-better d l p b =
    cond_both (same_side d l.side) (shows d l.price l.size p) 0 (λ (x : ℕ). x ≡ 0) (λ _. shows-better d l.price l.size p b) (λ _. refl)

-- the levels one after another, the one at place j looked at at the price h j
abbrev pub placed : Side → (ℕ → ℕ) → List DepthLevel → ℕ
placed d h [] = 0
placed d h (l ∷ ls) = level_shows d l (h zero) + placed d (λ j. h (suc j)) ls

pub placed-le : (d : Side) (h k : ℕ → ℕ) → ((j : ℕ) → AsGood d (h j) (k j)) → (ls : List DepthLevel) → placed d h ls ≤ placed d k ls
placed-le d h k e [] = omega arith
placed-le d h k e (l ∷ ls) =
    omega (arith, level-mono d l (h zero) (k zero) (e zero), placed-le d (λ j. h (suc j)) (λ j. k (suc j)) (λ j. e (suc j)) ls)

placed-ext : (d : Side) (h k : ℕ → ℕ) → ((j : ℕ) → h j ≡ k j) → (ls : List DepthLevel) → placed d h ls ≡ placed d k ls
placed-ext d h k e [] = refl
placed-ext d h k e (l ∷ ls) =
    let a : level_shows d l (h zero) ≡ level_shows d l (k zero) = ap (λ (x : ℕ). level_shows d l x) (e zero) in
    omega (arith, a, placed-ext d (λ j. h (suc j)) (λ j. k (suc j)) (λ j. e (suc j)) ls)

pub placed-set : (d : Side) (h : ℕ → ℕ) (ls : List DepthLevel) (i : ℕ) (y : DepthLevel) → i < length ls → placed d h (set ls i y) + level_shows d (get_or ls i blank) (h i) ≡ placed d h ls + level_shows d y (h i)
placed-set d h [] i y e = absurd (omega arith)
placed-set d h (l ∷ ls) zero y e = omega arith
placed-set d h (l ∷ ls) (suc i) y e = omega (arith, placed-set d (λ j. h (suc j)) ls i y (omega arith))

pub placed-has : (d : Side) (h : ℕ → ℕ) (ls : List DepthLevel) (i : ℕ) → i < length ls → level_shows d (get_or ls i blank) (h i) ≤ placed d h ls
placed-has d h [] i e = absurd (omega arith)
placed-has d h (l ∷ ls) zero e = omega arith
placed-has d h (l ∷ ls) (suc i) e = omega (arith, placed-has d (λ j. h (suc j)) ls i (omega arith))

pub placed-zero : (d : Side) (h : ℕ → ℕ) (ls : List DepthLevel) → ((j : ℕ) → j < length ls → level_shows d (get_or ls j blank) (h j) ≡ 0) → placed d h ls ≡ 0
placed-zero d h [] e = refl
placed-zero d h (l ∷ ls) e = omega (arith, e zero (omega arith), placed-zero d (λ j. h (suc j)) ls (λ j k. e (suc j) (omega arith)))

-- at one place another price
pub placed_one : (d : Side) (h k : ℕ → ℕ) (ls : List DepthLevel) (i : ℕ) → ((j : ℕ) → (j ≡ i → ⊥) → h j ≡ k j) → i < length ls → placed d h ls + level_shows d (get_or ls i blank) (k i) ≡ placed d k ls + level_shows d (get_or ls i blank) (h i)
placed_one d h k [] i e l = absurd (omega arith)
placed_one d h k (x ∷ ls) zero e l =
    omega (arith, placed-ext d (λ j. h (suc j)) (λ j. k (suc j)) (λ j. e (suc j) (λ s. omega arith)) ls)
placed_one d h k (x ∷ ls) (suc i) e l =
    let a : level_shows d x (h zero) ≡ level_shows d x (k zero) = ap (λ (y : ℕ). level_shows d x y) (e zero (λ s. omega arith)) in
    omega (arith, a, placed_one d (λ j. h (suc j)) (λ j. k (suc j)) ls i (λ j ne. e (suc j) (λ s. ne (omega arith))) (omega arith))

pub placed-const : (d : Side) (p : ℕ) (ls : List DepthLevel) → placed d (λ _. p) ls ≡ levels_show d ls p
placed-const d p [] = refl
placed-const d p (l ∷ ls) = omega (arith, sum_by-cons (λ x. level_shows d x p) l ls, placed-const d p ls)

-- the price up to which the level at place j goes before those of place i at price p
abbrev pub upto : Side → ℕ → ℕ → ℕ → ℕ
upto d i p j = cond (ltb j i) p (one_better d p)

upto-none : (d : Side) (p j : ℕ) → upto d zero p j ≡ one_better d p
upto-none d p j = cond-false (ltb j zero) p (one_better d p) (grind (arith, nat_tests))

upto-suc : (d : Side) (i p j : ℕ) → upto d (suc i) p (suc j) ≡ upto d i p j
upto-suc d i p j = grind (arith, nat_tests)

pub ahead-placed : (d : Side) (p i : ℕ) (ls : List DepthLevel) → ahead d ls i p ≡ placed d (upto d i p) ls
ahead-placed d p zero ls =
    let a = placed-ext d (upto d zero p) (λ _. one_better d p) (upto-none d p) ls in
    let b = placed-const d (one_better d p) ls in omega arith
ahead-placed d p (suc i) [] = refl
ahead-placed d p (suc i) (l ∷ ls) =
    let a = placed-ext d (λ j. upto d (suc i) p (suc j)) (upto d i p) (upto-suc d i p) ls in
    let b = ahead-placed d p i ls in
    let e : level_shows d l (upto d (suc i) p zero) ≡ level_shows d l p = ap (λ (x : ℕ). level_shows d l x) (cond-true (ltb zero (suc i)) p (one_better d p) (grind (arith, nat_tests))) in
    let c = sum_by-cons (λ x. level_shows d x p) l (take i ls) in omega arith

-- a price better than that of place i, and one as good
pub better-upto : (d : Side) (i q p : ℕ) → Better d p q → (j : ℕ) → AsGood d p (upto d i q j)
better-upto Buy i q p b j = grind (arith, nat_tests)
better-upto Sell i q p b j = grind (arith, nat_tests)

pub good-upto : (d : Side) (i q p : ℕ) → AsGood d q p → (j : ℕ) → AsGood d (upto d i q j) p
good-upto Buy i q p b j = grind (arith, nat_tests)
good-upto Sell i q p b j = grind (arith, nat_tests)

-- what goes before a place at which k is not yet looked at at its price goes before k
before-upto : (d : Side) (i p k q : ℕ) → Better d (upto d i p k) q → (j : ℕ) → AsGood d (upto d i p j) (upto d k q j)
before-upto Buy i p k q b j = grind (arith, nat_tests)
before-upto Sell i p k q b j = grind (arith, nat_tests)

-- nothing is shown ahead of the foremost level
foremost-better : (d : Side) (ls : List DepthLevel) (k j : ℕ) → in_bounds (get_or ls j blank).price (get_or ls j blank).size ≡ true → Before d ls k j → Better d (upto d k (get_or ls k blank).price j) (get_or ls j blank).price
foremost-better Buy ls k j e b =
    elim (cases_lt j k) [
      | inl h ↦ let w = b.0 h in grind (arith, nat_tests)
      | inr h ↦ let w = b.1 h in grind (arith, nat_tests)
    ]
foremost-better Sell ls k j e b =
    let z = bounds (get_or ls j blank).price (get_or ls j blank).size e in
    elim (cases_lt j k) [
      | inl h ↦ let w = b.0 h in grind (arith, nat_tests)
      | inr h ↦ let w = b.1 h in grind (arith, nat_tests)
    ]

pub none_ahead : (d : Side) (ls : List DepthLevel) (k : ℕ) → Foremost d ls (length ls) (Some k) → placed d (upto d k (get_or ls k blank).price) ls ≡ 0
none_ahead d ls k u =
    placed-zero d (upto d k (get_or ls k blank).price) ls
    (λ j h. elim (cases_Bool (level_stands d (get_or ls j blank))) [
      | inl t ↦ level-better d (get_or ls j blank) (upto d k (get_or ls k blank).price j)
          (foremost-better d ls k j (and_parts (same_side d (get_or ls j blank).side) (in_bounds (get_or ls j blank).price (get_or ls j blank).size) t).1 (u.2 j h t))
      | inr f ↦ fallen-shows d (get_or ls j blank) (upto d k (get_or ls k blank).price j) f
    ])

-- so its price is the best
pub some-best-of : (d : Side) (ls : List DepthLevel) (k : ℕ) → Foremost d ls (length ls) (Some k) → Some (get_or ls k blank).price ≡ best_of d (levels_show d ls)
some-best-of d ls k u =
    let l = get_or ls k blank in
    let h = bounds l.price l.size (and_parts (same_side d l.side) (in_bounds l.price l.size) u.1).1 in
    best-is d (levels_show d ls) (Some l.price) (
      h.0,
      h.1,
      omega (arith, placed-const d l.price ls, placed-has d (λ _. l.price) ls k u.0, own d l u.1),
      λ p a b w. omega (arith, placed-const d p ls, placed-le d (λ _. p) (upto d k l.price) (better-upto d k l.price p w) ls, none_ahead d ls k u),
    )

pub nothing-shown : (d : Side) (ls : List DepthLevel) → Foremost d ls (length ls) None → (p : ℕ) → levels_show d ls p ≡ 0
nothing-shown d ls u p = sym (placed-const d p ls) ∙ placed-zero d (λ _. p) ls (λ j h. fallen-shows d (get_or ls j blank) p (u j h))

-- the price of the foremost level, if there is one, is the best
pub best-of-foremost : (d : Side) (ls : List DepthLevel) (o r : Option ℕ) → Foremost d ls (length ls) o → r ≡ option_map (λ k. (get_or ls k blank).price) o → r ≡ best_of d (levels_show d ls)
best-of-foremost d ls None r u e = e ∙ best-is d (levels_show d ls) None (λ p a b. nothing-shown d ls u p)
best-of-foremost d ls (Some k) r u e = e ∙ some-best-of d ls k u

-- taking from the foremost level lessens whatever goes before any place by as much
module _ (d : Side) (cur : List DepthLevel) (k m : ℕ) (u : Foremost d cur (length cur) (Some k)) (most : m ≤ (get_or cur k blank).size) where
  pub placed_less : (i p : ℕ) → placed d (upto d i p) (set cur k (lowered (get_or cur k blank) m)) ≡ placed d (upto d i p) cur - m
  placed_less i p =
      let l = get_or cur k blank in
      let x = upto d i p k in
      let a = placed-set d (upto d i p) cur k (lowered l m) u.0 in
      let b = lowered-less d l m u.1 x in
      let c = placed-has d (upto d i p) cur k u.0 in
      elim (better-or d x l.price) [
        | inl w ↦ let z = none_ahead d cur k u in let v = placed-le d (upto d i p) (upto d k l.price) (before-upto d i p k l.price w) cur in omega arith
        | inr w ↦ let v = level-mono d l l.price x w in let o = own d l u.1 in omega arith
      ]

-- The best price shown by the rows of a side.
use Rattle.std.proofs.Common.{◌≡◌, ℕ, zero, suc, ◌<◌, Bool, true, false, cond, ltb, lt-ltb, ◌⊎◌, List, [], ◌∷◌, length, get_or, fold, Some, None, Option, sym, refl, ap, ◌∙◌, subst, inl, inr, arith}
use Rattle.std.proofs.lemmas.Bool.{cases_Bool, ltb-true, leb-true, leb-false, cond-true, cond-false}
use Rattle.std.specs.Option.{IsSomeAnd}
use Rattle.interest.specs.declared.Side.{Side}
use Rattle.interest.specs.declared.Side.TheVariants.{Buy, Sell}
use Rattle.market.specs.Counts.{AsGood, reaches, better_of}
use Rattle.book.specs.declared.row.Row.{Row}
use Rattle.book.specs.Ranks.{of_side}
use Rattle.clearing.specs.Reports.{price_shown, best_shown, BestShown}

-- a best price is there, and as good as x
abbrev Covers : Side → ℕ → Option ℕ → Type 0
Covers side x best = IsSomeAnd best (λ q. AsGood side q x)

good-then : (side : Side) (x y z : ℕ) → AsGood side x y → AsGood side y z → AsGood side x z
good-then Buy x y z h k = omega arith
good-then Sell x y z h k = omega arith

good-same : (side : Side) (x : ℕ) → AsGood side x x
good-same Buy x = omega arith
good-same Sell x = omega arith

reached : (side : Side) (x y : ℕ) → reaches side x y ≡ true → AsGood side x y
reached Buy x y h = leb-true y x h
reached Sell x y h = leb-true x y h

passed : (side : Side) (x y : ℕ) → reaches side x y ≡ false → AsGood side y x
passed Buy x y h = let lt = leb-false y x h in omega arith
passed Sell x y h = let lt = leb-false x y h in omega arith

-- of two prices the better stays, and neither is forgotten
keeps : (side : Side) (a n : Option ℕ) (x : ℕ) → Covers side x a → Covers side x (better_of side a n)
keeps side None n x h = absurd h
keeps side (Some y) None x h = h
keeps side (Some y) (Some z) x h =
    elim (cases_Bool (reaches side y z)) [
      | inl e ↦ subst (Covers side x) (sym (cond-true (reaches side y z) (Some y) (Some z) e)) h
      | inr e ↦ subst (Covers side x) (sym (cond-false (reaches side y z) (Some y) (Some z) e)) (good-then side z y x (passed side y z e) h)
    ]

takes : (side : Side) (a : Option ℕ) (x : ℕ) → Covers side x (better_of side a (Some x))
takes side None x = good-same side x
takes side (Some y) x =
    elim (cases_Bool (reaches side y x)) [
      | inl e ↦ subst (Covers side x) (sym (cond-true (reaches side y x) (Some y) (Some x) e)) (reached side y x e)
      | inr e ↦ subst (Covers side x) (sym (cond-false (reaches side y x) (Some y) (Some x) e)) (good-same side x)
    ]

one_of : (side : Side) (a n : Option ℕ) → (better_of side a n ≡ a) ⊎ (better_of side a n ≡ n)
one_of side None n = inr refl
one_of side (Some y) None = inl refl
one_of side (Some y) (Some z) = elim (cases_Bool (reaches side y z)) [ inl e ↦ inl (cond-true (reaches side y z) _ _ e) | inr e ↦ inr (cond-false (reaches side y z) _ _ e) ]

-- the best of a price and those of the rows
abbrev with_row : Side → Option ℕ → Row → Option ℕ
with_row side a r = cond (of_side side r) (better_of side a (price_shown r)) a

abbrev best-from : Side → Option ℕ → List Row → Option ℕ
best-from side a rows = fold (with_row side) a rows

from-keeps : (side : Side) (a : Option ℕ) (rows : List Row) (x : ℕ) → Covers side x a → Covers side x (best-from side a rows)
from-keeps side a [] x h = h
from-keeps side a (r ∷ rows) x h =
    let G : Bool → Type 0 = λ b. Covers side x (cond b (better_of side a (price_shown r)) a) in
    from-keeps side (with_row side a r) rows x (elim (of_side side r) as G [ true ↦ keeps side a (price_shown r) x h | false ↦ h ])

from-covers : (side : Side) (a : Option ℕ) (rows : List Row) (i : ℕ) (d : Row) → i < length rows → of_side side (get_or rows i d) ≡ true → 0 < (get_or rows i d).shown → Covers side (get_or rows i d).shown (best-from side a rows)
from-covers side a [] i d lt h some = absurd (omega arith)
from-covers side a (r ∷ rows) zero d lt h some =
    let is : with_row side a r ≡ better_of side a (Some r.shown) = cond-true (of_side side r) (better_of side a (price_shown r)) a h ∙ ap (better_of side a) (cond-true (ltb 0 r.shown) (Some r.shown) None (lt-ltb 0 r.shown some)) in
    from-keeps side (with_row side a r) rows r.shown (subst (Covers side r.shown) (sym is) (takes side a r.shown))
from-covers side a (r ∷ rows) (suc i) d lt h some = from-covers side (with_row side a r) rows i d (omega arith) h some

abbrev Found : Side → List Row → Option ℕ → Type 0
Found side rows best = (i : ℕ) × (i < length rows) × ((d : Row) → (of_side side (get_or rows i d) ≡ true) × (price_shown (get_or rows i d) ≡ best))

from_one : (side : Side) (a : Option ℕ) (rows : List Row) → (best-from side a rows ≡ a) ⊎ Found side rows (best-from side a rows)
from_one side a [] = inl refl
from_one side a (r ∷ rows) =
    elim (from_one side (with_row side a r) rows) [
      | inl e ↦ elim (cases_Bool (of_side side r)) [
        | inl own ↦ elim (one_of side a (price_shown r)) [
          | inl f ↦ inl (e ∙ cond-true (of_side side r) _ _ own ∙ f)
          | inr f ↦ inr (0, omega arith, λ d. (own, sym (e ∙ cond-true (of_side side r) _ _ own ∙ f)))
        ]
        | inr other ↦ inl (e ∙ cond-false (of_side side r) _ _ other)
      ]
      | inr w ↦ inr (suc w.0, omega (arith, w.1), λ d. w.2 d)
    ]

shown-at : (r : Row) (q : ℕ) → price_shown r ≡ Some q → (0 < q) × (r.shown ≡ q)
shown-at r q e = elim (cases_Bool (ltb 0 r.shown)) [
  | inl on ↦ (let s : ◌≡◌ {A = Option ℕ} (Some r.shown) (Some q) = sym (cond-true (ltb 0 r.shown) (Some r.shown) None on) ∙ e in let same : r.shown ≡ q = cc in (omega (arith, ltb-true 0 r.shown on), same))
  | inr off ↦ (let s : ◌≡◌ {A = Option ℕ} None (Some q) = sym (cond-false (ltb 0 r.shown) (Some r.shown) None off) ∙ e in absurd (cc))
]

one-row : (rows : List Row) (i : ℕ) → i < length rows → Row
one-row [] i lt = absurd (omega arith)
one-row (r ∷ rows) i lt = r

pub best-told : (side : Side) (rows : List Row) → BestShown side rows (best_shown side rows)
best-told side rows = record {
  covers = λ i d lt h some. from-covers side None rows i d lt h some;
  stands = λ q e. elim (from_one side None rows) [
    | inl f ↦ (let s : ◌≡◌ {A = Option ℕ} None (Some q) = sym f ∙ e in absurd (cc))
    | inr w ↦
        let at : (d : Row) → (0 < q) × ((get_or rows w.0 d).shown ≡ q) = λ d. shown-at (get_or rows w.0 d) q ((w.2 d).1 ∙ e) in
        ((at (one-row rows w.0 w.1)).0, (w.0, w.1, λ d. ((w.2 d).0, (at d).1)))
  ];
}

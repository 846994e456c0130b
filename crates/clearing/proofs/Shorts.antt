-- What rests is shown short of every away price that is left.
use Rattle.std.proofs.Common.{◌≡◌, ℕ, ◌+◌, ◌-◌, ◌<◌, ◌≤◌, Bool, true, ltb, leb, Some, None, Option, unwrap_or, sym, ap, subst, inl, inr, arith}
use Rattle.std.proofs.lemmas.Bool.{cases_Bool, cases_lt, leb-false, cond-true, cond-false}
use Rattle.interest.specs.Bounds.{priced}
use Rattle.interest.specs.declared.Side.{Side}
use Rattle.interest.specs.declared.Side.TheVariants.{Buy, Sell}
use Rattle.interest.specs.declared.Limit.{Limit}
use Rattle.interest.specs.declared.Limit.TheVariants.{Market, At}
use Rattle.interest.specs.Sides.{opposite}
use Rattle.ladder.specs.Rungs.{least_at_or_above, greatest_at_or_below, Least, Greatest}
use Rattle.ladder.proofs.Found.{least-tells, greatest-tells, least-out, greatest-out, priced-tells}
use Rattle.market.specs.Counts.{Better, Best, best_of}
use Rattle.market.proofs.Bests.{best-tells}
use Rattle.book.specs.declared.row.Row.{Row}
use Rattle.settling.specs.declared.Resting.{Resting}
use Rattle.settling.specs.Settles.{beside, resting_at, rests_at, place_of}

-- the permitted price below an offer, and that above a bid
found_below : (P : ℕ → Bool) (p : ℕ) (o : Option ℕ) → Greatest P p o → unwrap_or o 0 ≤ p
found_below P p None h = omega arith
found_below P p (Some q) h = h.1

found-above : (P : ℕ → Bool) (p : ℕ) (o : Option ℕ) → Least P p o → 0 < unwrap_or o 0 → p ≤ unwrap_or o 0
found-above P p None h some = absurd (omega arith)
found-above P p (Some q) h some = h.0

below-offer : (P : ℕ → Bool) (a : ℕ) → 1 ≤ a → unwrap_or (greatest_at_or_below P (a - 1)) 0 < a
below-offer P a le = elim (cases_Bool (priced (a - 1))) [
  | inl e ↦ (let t = priced-tells (a - 1) e in omega (arith, found_below P (a - 1) (greatest_at_or_below P (a - 1)) (greatest-tells P (a - 1) t.0 t.1)))
  | inr e ↦ (let z : unwrap_or (greatest_at_or_below P (a - 1)) 0 ≡ 0 = ap (λ (o : Option ℕ). unwrap_or o 0) (sym (greatest-out P (a - 1) e)) in omega arith)
]

above-bid : (P : ℕ → Bool) (a : ℕ) → 0 < unwrap_or (least_at_or_above P (a + 1)) 0 → a < unwrap_or (least_at_or_above P (a + 1)) 0
above-bid P a some = elim (cases_Bool (priced (a + 1))) [
  | inl e ↦ (let t = priced-tells (a + 1) e in omega (arith, found-above P (a + 1) (least_at_or_above P (a + 1)) (least-tells P (a + 1) t.0 t.1) some))
  | inr e ↦ (let z : unwrap_or (least_at_or_above P (a + 1)) 0 ≡ 0 = ap (λ (o : Option ℕ). unwrap_or o 0) (sym (least-out P (a + 1) e)) in absurd (omega arith))
]

rest-short : (P : ℕ → Bool) (side : Side) (o : Option ℕ) (limit : Limit) (g : ℕ → ℕ) → Best (opposite side) g o → 0 < (resting_at P side o limit).shown → (q : ℕ) → priced q ≡ true → 0 < g q → Better (opposite side) (resting_at P side o limit).shown q
rest-short P side o Market g best some q hq gq = absurd (omega arith)
rest-short P side None (At x) g best some q hq gq = let t = priced-tells q hq in absurd (omega (arith, best q t.0 t.1))
rest-short P Buy (Some a) (At x) g best some q hq gq =
    let t = priced-tells q hq in
    let far : a ≤ q = elim (cases_lt q a) [ inl lt ↦ absurd (omega (arith, best.3 q t.0 t.1 lt)) | inr le ↦ le ] in
    elim (cases_Bool (leb a x)) [
      | inl e ↦ (let s : (resting_at P Buy (Some a) (At x)).shown ≡ unwrap_or (beside P Buy a) 0 = ap (λ (r : Resting). r.shown) (cond-true (leb a x) _ _ e) in omega (arith, s, below-offer P a best.0))
      | inr e ↦ (let s : (resting_at P Buy (Some a) (At x)).shown ≡ x = ap (λ (r : Resting). r.shown) (cond-false (leb a x) _ _ e) in omega (arith, s, leb-false a x e))
    ]
rest-short P Sell (Some a) (At x) g best some q hq gq =
    let t = priced-tells q hq in
    let far : q ≤ a = elim (cases_lt a q) [ inl lt ↦ absurd (omega (arith, best.3 q t.0 t.1 lt)) | inr le ↦ le ] in
    elim (cases_Bool (leb x a)) [
      | inl e ↦ (let s : (resting_at P Sell (Some a) (At x)).shown ≡ unwrap_or (beside P Sell a) 0 = ap (λ (r : Resting). r.shown) (cond-true (leb x a) _ _ e) in omega (arith, s, above-bid P a (omega (arith, s))))
      | inr e ↦ (let s : (resting_at P Sell (Some a) (At x)).shown ≡ x = ap (λ (r : Resting). r.shown) (cond-false (leb x a) _ _ e) in omega (arith, s, leb-false x a e))
    ]

pub row-short : (P : ℕ → Bool) (f : Side → ℕ → ℕ) (r : Row) → 0 < (place_of P (λ side. best_of side (f side)) r).shown → (q : ℕ) → priced q ≡ true → 0 < f (opposite r.side) q → Better (opposite r.side) (place_of P (λ side. best_of side (f side)) r).shown q
row-short P f r some q hq gq =
    let o = opposite r.side in
    let x = resting_at P r.side (best_of o (f o)) r.limit in
    elim (cases_Bool (ltb 0 r.left)) [
      | inl e ↦ (let s : place_of P (λ side. best_of side (f side)) r ≡ x = cond-true (ltb 0 r.left) x (rests_at 0 0) e in
          subst (λ (y : Resting). Better o y.shown q) (sym s) (rest-short P r.side (best_of o (f o)) r.limit (f o) (best-tells o (f o)) (subst (λ (y : Resting). 0 < y.shown) s some) q hq gq))
      | inr e ↦ (let s : (place_of P (λ side. best_of side (f side)) r).shown ≡ 0 = ap (λ (y : Resting). y.shown) (cond-false (ltb 0 r.left) x (rests_at 0 0) e) in absurd (omega arith))
    ]

-- What `greatest`, `lowest` and `highest` find.
use Rattle.std.proofs.Common.{◌≡◌, ℕ, zero, suc, ◌+◌, ◌<◌, ◌≤◌, Bool, true, false, Some, None, Option, unwrap_or, sym, refl, ap, ◌∙◌, ap₂, inl, inr, add-zero, add-suc, arith}
use Rattle.std.proofs.lemmas.Bool.{cases_lt, cases_eq, cases_Bool, both_ways}
use Rattle.std.specs.Option.{option_or}
use Rattle.std.proofs.lemmas.Option.{none-some, same_Some}
use Rattle.pricing.specs.Scan.{only, greatest, lowest, highest}

pub greatest-bound : (f : ℕ → ℕ) (low n k : ℕ) → k < n → f (low + k) ≤ greatest f low n
greatest-bound f low zero k h = omega arith
greatest-bound f low (suc n) k h = elim (cases_eq k n) [ inl e ↦ rw e (omega arith) | inr ne ↦ let l : k < n = omega arith in omega (arith, greatest-bound f low n k l) ]

pub greatest-skip : (f : ℕ → ℕ) (low n m : ℕ) → ((k : ℕ) → n ≤ k → k < n + m → f (low + k) ≡ 0) → greatest f low (n + m) ≡ greatest f low n
greatest-skip f low n zero h = ap (greatest f low) (add-zero n)
greatest-skip f low n (suc m) h =
    let last : f (low + (n + m)) ≡ 0 = h (n + m) (omega arith) (omega arith) in
    let rest : greatest f low (n + m) ≡ greatest f low n = greatest-skip f low n m (λ k a b. h k a (omega arith)) in
    rw add-suc (omega (arith, last, rest))

only-true : (t : ℕ → Bool) (p : ℕ) → t p ≡ true → only t p ≡ Some p
only-true t p e = rw e

only-false : (t : ℕ → Bool) (p : ℕ) → t p ≡ false → only t p ≡ None
only-false t p e = rw e

only-some : (t : ℕ → Bool) (p q : ℕ) → only t p ≡ Some q → (q ≡ p) × (t p ≡ true)
only-some t p q e = elim (cases_Bool (t p)) [ inl y ↦ (same_Some _ _ (sym e ∙ only-true t p y), y) | inr n ↦ absurd (none-some _ (sym (only-false t p n) ∙ e)) ]

or-none : (o : Option ℕ) → option_or o None ≡ o
or-none None = refl
or-none (Some x) = refl

-- what passed over fails the test
pub lowest-skip : (t : ℕ → Bool) (low n m : ℕ) → ((k : ℕ) → n ≤ k → k < n + m → t (low + k) ≡ false) → lowest t low (n + m) ≡ lowest t low n
lowest-skip t low n zero h = ap (lowest t low) (add-zero n)
lowest-skip t low n (suc m) h =
    let last = only-false t (low + (n + m)) (h (n + m) (omega arith) (omega arith)) in
    let rest : lowest t low (n + m) ≡ lowest t low n = lowest-skip t low n m (λ k a b. h k a (omega arith)) in
    rw add-suc (ap₂ option_or rest last ∙ or-none _)

pub highest-skip : (t : ℕ → Bool) (low n m : ℕ) → ((k : ℕ) → n ≤ k → k < n + m → t (low + k) ≡ false) → highest t low (n + m) ≡ highest t low n
highest-skip t low n zero h = ap (highest t low) (add-zero n)
highest-skip t low n (suc m) h =
    let last = only-false t (low + (n + m)) (h (n + m) (omega arith) (omega arith)) in
    let rest : highest t low (n + m) ≡ highest t low n = highest-skip t low n m (λ k a b. h k a (omega arith)) in
    rw add-suc (ap₂ option_or last rest)

pub lowest-none : (t : ℕ → Bool) (low n : ℕ) → ((k : ℕ) → k < n → t (low + k) ≡ false) → lowest t low n ≡ None
lowest-none t low zero h = refl
lowest-none t low (suc n) h = ap₂ option_or (lowest-none t low n (λ k l. h k (omega arith))) (only-false t (low + n) (h n (omega arith)))

pub highest-none : (t : ℕ → Bool) (low n : ℕ) → ((k : ℕ) → k < n → t (low + k) ≡ false) → highest t low n ≡ None
highest-none t low zero h = refl
highest-none t low (suc n) h = ap₂ option_or (only-false t (low + n) (h n (omega arith))) (highest-none t low n (λ k l. h k (omega arith)))

-- p is one of the n prices from low on, and passes
pub record Passes (t : ℕ → Bool) (low n p : ℕ) : Type 0 where
  pub from : low ≤ p
  pub below : p < low + n
  pub test : t p ≡ true

here : (t : ℕ → Bool) (low n p : ℕ) → only t (low + n) ≡ Some p → Passes t low (suc n) p
here t low n p e =
    let s = only-some t (low + n) p e in
    record { from = omega (arith, s.0); below = omega (arith, s.0); test = rw s.0 s.1 }

wider : {t : ℕ → Bool} {low n p : ℕ} → Passes t low n p → Passes t low (suc n) p
wider h = record { from = h.from; below = omega arith; test = h.test }

pub lowest-found : (t : ℕ → Bool) (low n p : ℕ) → lowest t low n ≡ Some p → Passes t low n p
lowest-found t low zero p e = absurd (none-some _ e)
lowest-found t low (suc n) p e = go (lowest t low n) refl (lowest-found t low n p)
  where
    go : (o : Option ℕ) → lowest t low n ≡ o → (lowest t low n ≡ Some p → Passes t low n p) → Passes t low (suc n) p
    go (Some x) eo ih = wider (ih (eo ∙ (sym (ap (λ y. option_or y (only t (low + n))) eo) ∙ e)))
    go None eo ih = here t low n p (sym (ap (λ y. option_or y (only t (low + n))) eo) ∙ e)

pub highest-found : (t : ℕ → Bool) (low n p : ℕ) → highest t low n ≡ Some p → Passes t low n p
highest-found t low zero p e = absurd (none-some _ e)
highest-found t low (suc n) p e = go (only t (low + n)) refl (highest-found t low n p)
  where
    go : (o : Option ℕ) → only t (low + n) ≡ o → (highest t low n ≡ Some p → Passes t low n p) → Passes t low (suc n) p
    go (Some x) eo ih = here t low n p (eo ∙ (sym (ap (λ y. option_or y (highest t low n)) eo) ∙ e))
    go None eo ih = wider (ih (sym (ap (λ y. option_or y (highest t low n)) eo) ∙ e))

-- nothing below the lowest, or above the highest, passes
pub lowest-is : (t : ℕ → Bool) (low n p : ℕ) → Passes t low n p → ((k : ℕ) → low ≤ k → k < p → t k ≡ false) → lowest t low n ≡ Some p
lowest-is t low zero p h l = absurd (omega (arith, h.from, h.below))
lowest-is t low (suc n) p h l = elim (cases_eq p (low + n)) [
  | inl e ↦ ap₂ option_or (lowest-none t low n (λ k b. l (low + k) (omega arith) (omega arith))) (only-true t (low + n) (rw (← e) h.test) ∙ ap Some (sym e))
  | inr ne ↦ ap (λ y. option_or y (only t (low + n))) (lowest-is t low n p (record { from = h.from; below = omega (arith, h.below); test = h.test }) l)
]

pub highest-is : (t : ℕ → Bool) (low n p : ℕ) → Passes t low n p → ((k : ℕ) → p < k → k < low + n → t k ≡ false) → highest t low n ≡ Some p
highest-is t low zero p h l = absurd (omega (arith, h.from, h.below))
highest-is t low (suc n) p h l = elim (cases_eq p (low + n)) [
  | inl e ↦ ap (λ y. option_or y (highest t low n)) (only-true t (low + n) (rw (← e) h.test) ∙ ap Some (sym e))
  | inr ne ↦ ap₂ option_or (only-false t (low + n) (l (low + n) (omega (arith, h.below)) (omega arith))) (highest-is t low n p (record { from = h.from; below = omega (arith, h.below); test = h.test }) (λ k a b. l k a (omega arith)))
]

-- what passes is at or above the lowest
lowest-has : (t : ℕ → Bool) (low n p : ℕ) → Passes t low n p → (a : ℕ) × (lowest t low n ≡ Some a) × (a ≤ p)
lowest-has t low zero p h = absurd (omega (arith, h.from, h.below))
lowest-has t low (suc n) p h = elim (cases_eq p (low + n)) [
  | inl e ↦ go e (lowest t low n) refl
  | inr ne ↦ let r = lowest-has t low n p (record { from = h.from; below = omega (arith, h.below); test = h.test }) in (r.0, ap (λ y. option_or y (only t (low + n))) r.1, r.2)
]
  where
    go : p ≡ low + n → (o : Option ℕ) → lowest t low n ≡ o → (a : ℕ) × (lowest t low (suc n) ≡ Some a) × (a ≤ p)
    go e (Some x) eo = (x, ap (λ y. option_or y (only t (low + n))) eo, omega (arith, (lowest-found t low n x eo).below))
    go e None eo = (p, ap (λ y. option_or y (only t (low + n))) eo ∙ (only-true t (low + n) (rw (← e) h.test) ∙ ap Some (sym e)), omega arith)

pub lowest-least : (t : ℕ → Bool) (low n a p : ℕ) → lowest t low n ≡ Some a → Passes t low n p → a ≤ p
lowest-least t low n a p e h = let r = lowest-has t low n p h in omega (arith, r.2, same_Some _ _ (sym e ∙ r.1))

-- the highest is at or above the lowest
pub both_found : (t : ℕ → Bool) (low n a : ℕ) → lowest t low n ≡ Some a → Passes t low n (unwrap_or (highest t low n) a) × (a ≤ unwrap_or (highest t low n) a)
both_found t low n a e = go (highest t low n) refl
  where
    go : (o : Option ℕ) → highest t low n ≡ o → Passes t low n (unwrap_or (highest t low n) a) × (a ≤ unwrap_or (highest t low n) a)
    go (Some z) eo = let h = highest-found t low n z eo in rw eo (h, lowest-least t low n a z e h)
    go None eo = rw eo (lowest-found t low n a e, omega arith)

-- one price more
pub lowest-miss : (t : ℕ → Bool) (low n : ℕ) → t (low + n) ≡ false → lowest t low (suc n) ≡ lowest t low n
lowest-miss t low n e = ap (option_or (lowest t low n)) (only-false t (low + n) e) ∙ or-none (lowest t low n)

pub highest-miss : (t : ℕ → Bool) (low n : ℕ) → t (low + n) ≡ false → highest t low (suc n) ≡ highest t low n
highest-miss t low n e = ap (λ y. option_or y (highest t low n)) (only-false t (low + n) e)

pub lowest-hit : (t : ℕ → Bool) (low n : ℕ) → t (low + n) ≡ true → lowest t low (suc n) ≡ option_or (lowest t low n) (Some (low + n))
lowest-hit t low n e = ap (option_or (lowest t low n)) (only-true t (low + n) e)

pub highest-hit : (t : ℕ → Bool) (low n : ℕ) → t (low + n) ≡ true → highest t low (suc n) ≡ Some (low + n)
highest-hit t low n e = ap (λ y. option_or y (highest t low n)) (only-true t (low + n) e)

-- some price has the greatest
pub greatest-attained : (f : ℕ → ℕ) (low n : ℕ) → 0 < greatest f low n → (p : ℕ) × (low ≤ p) × (p < low + n) × (f p ≡ greatest f low n)
greatest-attained f low zero h = absurd (omega arith)
greatest-attained f low (suc n) h = elim (cases_lt (greatest f low n) (f (low + n))) [
  | inl l ↦ (low + n, omega arith, omega arith, omega arith)
  | inr g ↦ let r = greatest-attained f low n (omega arith) in (r.0, r.1, omega (arith, r.2), omega (arith, r.3))
]

pub lowest-missed : (t : ℕ → Bool) (low n p : ℕ) → lowest t low n ≡ None → Passes t low n p → ⊥
lowest-missed t low n p e h = none-some _ (sym e ∙ (lowest-has t low n p h).1)

pub highest-missed : (t : ℕ → Bool) (low n p : ℕ) → highest t low n ≡ None → Passes t low n p → ⊥
highest-missed t low zero p e h = omega (arith, h.from, h.below)
highest-missed t low (suc n) p e h = elim (cases_Bool (t (low + n))) [
  | inl y ↦ none-some _ (sym e ∙ highest-hit t low n y)
  | inr no_hit ↦ elim (cases_eq p (low + n)) [
    | inl ep ↦ both_ways (t p) (rw ep no_hit) h.test
    | inr ne ↦ highest-missed t low n p (sym (highest-miss t low n no_hit) ∙ e) (record { from = h.from; below = omega (arith, h.below); test = h.test })
  ]
]

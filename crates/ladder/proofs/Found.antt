-- The least and the greatest permitted price: the definitions say what they mean, and are determined by it.
use Rattle.std.proofs.Common.{◌≡◌, ℕ, zero, suc, ◌+◌, ◌-◌, ◌<◌, ◌≤◌, Bool, true, false, Some, None, Option, sym, refl, ap, subst, inl, inr, arith}
use Rattle.std.proofs.lemmas.Bool.Decides.{nat_tests}
use Rattle.std.proofs.lemmas.Bool.{cond-true, cond-false, cond_both, cases_eq, cases_lt, both_ways}
use Rattle.interest.specs.Bounds.{priced}
use Rattle.ladder.specs.Rungs.{least_of, greatest_of, least_at_or_above, greatest_at_or_below, Least, Greatest}

pub priced-from : (p : ℕ) → 1 ≤ p → p ≤ 100000 → priced p ≡ true
priced-from p l h = grind (arith, nat_tests)

-- one more place that fails, at the low end
skip-up : (P : ℕ → Bool) (p n : ℕ) → P p ≡ false → ((j : ℕ) → suc p ≤ j → j < n → P j ≡ false) → (j : ℕ) → p ≤ j → j < n → P j ≡ false
skip-up P p n e f j l h = elim (cases_eq p j) [ inl s ↦ subst (λ (x : ℕ). P x ≡ false) s e | inr d ↦ f j (omega arith) h ]

-- and at the high end
skip-down : (P : ℕ → Bool) (p n : ℕ) → P (suc p) ≡ false → ((j : ℕ) → n < j → j ≤ p → P j ≡ false) → (j : ℕ) → n < j → j ≤ suc p → P j ≡ false
skip-down P p n e f j l h = elim (cases_eq (suc p) j) [ inl s ↦ subst (λ (x : ℕ). P x ≡ false) s e | inr d ↦ f j l (omega arith) ]

abbrev Up : (ℕ → Bool) → ℕ → ℕ → Option ℕ → Type 0
Up P n p None = (j : ℕ) → p ≤ j → j < n → P j ≡ false
Up P n p (Some q) = (p ≤ q) × (q < n) × (P q ≡ true) × ((j : ℕ) → p ≤ j → j < q → P j ≡ false)

up-skip : (P : ℕ → Bool) (n p : ℕ) (o : Option ℕ) → P p ≡ false → Up P n (suc p) o → Up P n p o
up-skip P n p None e u = skip-up P p n e u
up-skip P n p (Some q) e u = (omega arith, u.1, u.2, skip-up P p q e u.3)

up-tells : (P : ℕ → Bool) (k n p : ℕ) → n ≡ p + k → Up P n p (least_of P k p)
unfolding least_of
up-tells P zero n p e = λ j l h. absurd (omega arith)
up-tells P (suc k) n p e =
    cond_both (P p) (Some p) (least_of P k (suc p)) (λ (o : Option ℕ). Up P n p o)
    (λ t. (omega arith, omega arith, t, λ j l h. absurd (omega arith)))
    (λ f. up-skip P n p (least_of P k (suc p)) f (up-tells P k n (suc p) (omega arith)))

abbrev Down : (ℕ → Bool) → ℕ → Option ℕ → Type 0
Down P p None = (j : ℕ) → 0 < j → j ≤ p → P j ≡ false
Down P p (Some q) = (1 ≤ q) × (q ≤ p) × (P q ≡ true) × ((j : ℕ) → q < j → j ≤ p → P j ≡ false)

down-skip : (P : ℕ → Bool) (p : ℕ) (o : Option ℕ) → P (suc p) ≡ false → Down P p o → Down P (suc p) o
down-skip P p None e u = skip-down P p 0 e u
down-skip P p (Some q) e u = (u.0, omega arith, u.2, skip-down P p q e u.3)

down-tells : (P : ℕ → Bool) (p : ℕ) → Down P p (greatest_of P p)
unfolding greatest_of
down-tells P zero = λ j l h. absurd (omega arith)
down-tells P (suc k) =
    cond_both (P (suc k)) (Some (suc k)) (greatest_of P k) (λ (o : Option ℕ). Down P (suc k) o)
    (λ t. (omega arith, omega arith, t, λ j l h. absurd (omega arith)))
    (λ f. down-skip P k (greatest_of P k) f (down-tells P k))

up_least : (P : ℕ → Bool) (p : ℕ) (o : Option ℕ) → Up P 100001 p o → Least P p o
up_least P p None u = λ j l h. u j l (omega arith)
up_least P p (Some q) u = (u.0, omega arith, u.2, u.3)

down-greatest : (P : ℕ → Bool) (p : ℕ) (o : Option ℕ) → Down P p o → Greatest P p o
down-greatest P p None u = λ j l h. u j (omega arith) h
down-greatest P p (Some q) u = u

-- what the two say
pub least-tells : (P : ℕ → Bool) (p : ℕ) → 1 ≤ p → p ≤ 100000 → Least P p (least_at_or_above P p)
unfolding least_at_or_above
least-tells P p l h =
    subst (λ (o : Option ℕ). Least P p o) (sym (cond-true (priced p) (least_of P (100001 - p) p) None (priced-from p l h)))
    (up_least P p (least_of P (100001 - p) p) (up-tells P (100001 - p) 100001 p (omega arith)))

pub greatest-tells : (P : ℕ → Bool) (p : ℕ) → 1 ≤ p → p ≤ 100000 → Greatest P p (greatest_at_or_below P p)
unfolding greatest_at_or_below
greatest-tells P p l h =
    subst (λ (o : Option ℕ). Greatest P p o) (sym (cond-true (priced p) (greatest_of P p) None (priced-from p l h)))
    (down-greatest P p (greatest_of P p) (down-tells P p))

-- and that it determines them
pub least-one : (P : ℕ → Bool) (p : ℕ) (a b : Option ℕ) → Least P p a → Least P p b → a ≡ b
least-one P p None None u v = refl
least-one P p None (Some q) u v = absurd (both_ways (P q) (u q v.0 v.1) v.2)
least-one P p (Some q) None u v = absurd (both_ways (P q) (v q u.0 u.1) u.2)
least-one P p (Some q) (Some r) u v =
    elim (cases_lt q r) [
      | inl h ↦ absurd (both_ways (P q) (v.3 q u.0 h) u.2)
      | inr h ↦ elim (cases_lt r q) [
        | inl i ↦ absurd (both_ways (P r) (u.3 r v.0 i) v.2)
        | inr i ↦ ap Some (omega arith)
      ]
    ]

pub greatest-one : (P : ℕ → Bool) (p : ℕ) (a b : Option ℕ) → Greatest P p a → Greatest P p b → a ≡ b
greatest-one P p None None u v = refl
greatest-one P p None (Some q) u v = absurd (both_ways (P q) (u q v.0 v.1) v.2)
greatest-one P p (Some q) None u v = absurd (both_ways (P q) (v q u.0 u.1) u.2)
greatest-one P p (Some q) (Some r) u v =
    elim (cases_lt q r) [
      | inl h ↦ absurd (both_ways (P r) (u.3 r h v.1) v.2)
      | inr h ↦ elim (cases_lt r q) [
        | inl i ↦ absurd (both_ways (P q) (v.3 q i u.1) u.2)
        | inr i ↦ ap Some (omega arith)
      ]
    ]

pub least-is : (P : ℕ → Bool) (p : ℕ) (o : Option ℕ) → 1 ≤ p → p ≤ 100000 → Least P p o → o ≡ least_at_or_above P p
least-is P p o l h u = least-one P p o (least_at_or_above P p) u (least-tells P p l h)

pub greatest-is : (P : ℕ → Bool) (p : ℕ) (o : Option ℕ) → 1 ≤ p → p ≤ 100000 → Greatest P p o → o ≡ greatest_at_or_below P p
greatest-is P p o l h u = greatest-one P p o (greatest_at_or_below P p) u (greatest-tells P p l h)

pub least-out : (P : ℕ → Bool) (p : ℕ) → priced p ≡ false → None ≡ least_at_or_above P p
unfolding least_at_or_above
least-out P p e = sym (cond-false (priced p) (least_of P (100001 - p) p) None e)

pub greatest-out : (P : ℕ → Bool) (p : ℕ) → priced p ≡ false → None ≡ greatest_at_or_below P p
unfolding greatest_at_or_below
greatest-out P p e = sym (cond-false (priced p) (greatest_of P p) None e)

pub priced-tells : (p : ℕ) → priced p ≡ true → (1 ≤ p) × (p ≤ 100000)
priced-tells p e = grind (arith, nat_tests)

-- the same of a call's answer
pub least_at : (P : ℕ → Bool) (p : ℕ) (o : Option ℕ) → o ≡ least_at_or_above P p → priced p ≡ true → Least P p o
least_at P p o e t =
    let h = priced-tells p t in subst (λ (x : Option ℕ). Least P p x) (sym e) (least-tells P p h.0 h.1)

pub greatest-at : (P : ℕ → Bool) (p : ℕ) (o : Option ℕ) → o ≡ greatest_at_or_below P p → priced p ≡ true → Greatest P p o
greatest-at P p o e t =
    let h = priced-tells p t in subst (λ (x : Option ℕ). Greatest P p x) (sym e) (greatest-tells P p h.0 h.1)

-- where the highest price is permitted, some price at or above a price is
pub least-some : (P : ℕ → Bool) (p : ℕ) → P 100000 ≡ true → p ≤ 100000 → (o : Option ℕ) → Least P p o → (q : ℕ) × (o ≡ Some q)
least-some P p t h None u = absurd (both_ways (P 100000) (u 100000 h (omega arith)) t)
least-some P p t h (Some q) u = (q, refl)

-- What the two ladders answer.
use Rattle.std.proofs.Common.{◌≡◌, ℕ, ◌+◌, ◌*◌, ◌/◌, ◌%◌, ◌<◌, ◌≤◌, Bool, true, false, cond, ltb, Some, None, Option, ap, ◌∙◌, arith}
use Rattle.std.proofs.lemmas.Bool.Decides.{nat_tests}
use Rattle.std.proofs.lemmas.Bool.{cond_both, ltb-true, ltb-false}
use Rattle.std.specs.Int.{next_multiple_of}
use Rattle.std.specs.Option.{option_map}
use Rattle.interest.specs.Bounds.{priced}
use Rattle.ladder.specs.Rungs.{least_at_or_above, greatest_at_or_below, stepped}
use Rattle.ladder.proofs.Found.{priced-tells, least-is, greatest-is, least-out, greatest-out}

-- a price that passes is the least at or above it, and the greatest at or below it
pub here-least : (P : ℕ → Bool) (p : ℕ) → priced p ≡ true → P p ≡ true → Some p ≡ least_at_or_above P p
here-least P p e t =
    let h = priced-tells p e in
    least-is P p (Some p) h.0 h.1 (omega arith, h.1, t, λ j l m. absurd (omega arith))

pub here-greatest : (P : ℕ → Bool) (p : ℕ) → priced p ≡ true → P p ≡ true → Some p ≡ greatest_at_or_below P p
here-greatest P p e t =
    let h = priced-tells p e in
    greatest-is P p (Some p) h.0 h.1 (h.0, omega arith, t, λ j l m. absurd (omega arith))

-- on the ladder of every cent a price is its own neighbour
pub itself-least : (p : ℕ) → cond (priced p) (Some p) None ≡ least_at_or_above priced p
itself-least p =
    cond_both (priced p) (Some p) None (λ (o : Option ℕ). o ≡ least_at_or_above priced p) (λ e. here-least priced p e e) (λ e. least-out priced p e)

pub itself-greatest : (p : ℕ) → cond (priced p) (Some p) None ≡ greatest_at_or_below priced p
itself-greatest p =
    cond_both (priced p) (Some p) None (λ (o : Option ℕ). o ≡ greatest_at_or_below priced p) (λ e. here-greatest priced p e e) (λ e. greatest-out priced p e)

pub low_step : (p : ℕ) → priced p ≡ true → p < 300 → stepped p ≡ true
low_step p e h = grind (arith, nat_tests)

high-step : (p : ℕ) → 300 ≤ p → p ≤ 100000 → p % 5 ≡ 0 → stepped p ≡ true
high-step p l h e = grind (arith, nat_tests)

no_step : (p : ℕ) → 300 ≤ p → p ≤ 100000 → (p % 5 ≡ 0 → ⊥) → stepped p ≡ false
no_step p l h e = grind (arith, nat_tests)

pub step-least : (p : ℕ) → priced p ≡ true → 300 ≤ p → Some ((p + 4) / 5 * 5) ≡ least_at_or_above stepped p
step-least p e l =
    let h = priced-tells p e in
    least-is stepped p (Some ((p + 4) / 5 * 5)) h.0 h.1 (
      omega arith,
      omega arith,
      high-step ((p + 4) / 5 * 5) (omega arith) (omega arith) (omega arith),
      λ j m n. no_step j (omega arith) (omega arith) (λ z. omega arith),
    )

pub step-greatest : (p : ℕ) → priced p ≡ true → 300 ≤ p → Some (p / 5 * 5) ≡ greatest_at_or_below stepped p
step-greatest p e l =
    let h = priced-tells p e in
    greatest-is stepped p (Some (p / 5 * 5)) h.0 h.1 (
      omega arith,
      omega arith,
      high-step (p / 5 * 5) (omega arith) (omega arith) (omega arith),
      λ j m n. no_step j (omega arith) (omega arith) (λ z. omega arith),
    )

-- below 300 the price itself, from there the next multiple of 5
pub stepped-least : (p : ℕ) (o : Option ℕ) → o ≡ option_map (λ q. cond (ltb q 300) q (next_multiple_of q 5)) (cond (priced p) (Some p) None) → o ≡ least_at_or_above stepped p
stepped-least p o e =
    e ∙ cond_both (priced p) (Some p) None (λ (x : Option ℕ). option_map (λ q. cond (ltb q 300) q (next_multiple_of q 5)) x ≡ least_at_or_above stepped p)
    (λ t. cond_both (ltb p 300) p (next_multiple_of p 5) (λ (q : ℕ). Some q ≡ least_at_or_above stepped p)
    (λ l. here-least stepped p t (low_step p t (ltb-true p 300 l)))
    (λ l. let e : next_multiple_of p 5 ≡ (p + 4) / 5 * 5 = omega arith in ap Some e ∙ step-least p t (ltb-false p 300 l)))
    (λ f. least-out stepped p f)

-- below 300 the price itself, from there the multiple of 5 before it
pub stepped-greatest : (p : ℕ) (o : Option ℕ) → o ≡ option_map (λ q. cond (ltb q 300) q (q / 5 * 5)) (cond (priced p) (Some p) None) → o ≡ greatest_at_or_below stepped p
stepped-greatest p o e =
    e ∙ cond_both (priced p) (Some p) None (λ (x : Option ℕ). option_map (λ q. cond (ltb q 300) q (q / 5 * 5)) x ≡ greatest_at_or_below stepped p)
    (λ t. cond_both (ltb p 300) p (p / 5 * 5) (λ (q : ℕ). Some q ≡ greatest_at_or_below stepped p)
    (λ l. here-greatest stepped p t (low_step p t (ltb-true p 300 l)))
    (λ l. step-greatest p t (ltb-false p 300 l)))
    (λ f. greatest-out stepped p f)

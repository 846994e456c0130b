-- The least and the greatest permitted price, and the stepped ladder.
use Rattle.std.specs.Prelude.{◌≡◌, ℕ, zero, suc, ◌-◌, ◌%◌, ◌<◌, ◌≤◌, Bool, true, false, cond, ◌&&◌, ◌||◌, Some, None, Option, ◌==◌, nat_lt}
use Rattle.interest.specs.Bounds.{priced}

-- the least permitted of the k numbers from p up
unfoldable pub least_of : (ℕ → Bool) → ℕ → ℕ → Option ℕ
least_of permitted zero p = None
least_of permitted (suc k) p = cond (permitted p) (Some p) (least_of permitted k (suc p))

-- the greatest permitted of the numbers from 1 to p
unfoldable pub greatest_of : (ℕ → Bool) → ℕ → Option ℕ
greatest_of permitted zero = None
greatest_of permitted (suc k) = cond (permitted (suc k)) (Some (suc k)) (greatest_of permitted k)

unfoldable pub least_at_or_above : (ℕ → Bool) → ℕ → Option ℕ
least_at_or_above permitted p = cond (priced p) (least_of permitted (100001 - p) p) None

unfoldable pub greatest_at_or_below : (ℕ → Bool) → ℕ → Option ℕ
greatest_at_or_below permitted p = cond (priced p) (greatest_of permitted p) None

-- an answer is the least permitted price at or above p, or none is permitted there
abbrev pub Least : (ℕ → Bool) → ℕ → Option ℕ → Type 0
Least permitted p None = (j : ℕ) → p ≤ j → j ≤ 100000 → permitted j ≡ false
Least permitted p (Some q) = (p ≤ q) × (q ≤ 100000) × (permitted q ≡ true) × ((j : ℕ) → p ≤ j → j < q → permitted j ≡ false)

-- an answer is the greatest permitted price at or below p, or none is permitted there
abbrev pub Greatest : (ℕ → Bool) → ℕ → Option ℕ → Type 0
Greatest permitted p None = (j : ℕ) → 1 ≤ j → j ≤ p → permitted j ≡ false
Greatest permitted p (Some q) = (1 ≤ q) × (q ≤ p) × (permitted q ≡ true) × ((j : ℕ) → q < j → j ≤ p → permitted j ≡ false)

-- every cent below 300, the multiples of 5 from there
abbrev pub stepped : ℕ → Bool
stepped p = priced p && (nat_lt p 300 || p % 5 == 0)

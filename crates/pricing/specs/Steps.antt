-- How a walk over the permitted prices goes on.
use Rattle.std.specs.Prelude.{◌≡◌, ℕ, ◌+◌, ◌<◌, ◌≤◌, Bool, true, false, Some, None, Option}

-- from a price up to the top it comes to the least permitted one and goes on above it; where there is none it stays
abbrev pub Steps : (ℕ → Bool) → ℕ → ℕ → Option ℕ → ℕ → Type 0
Steps permitted at top None after = (after ≡ at) × ((k : ℕ) → at ≤ k → k ≤ top → permitted k ≡ false)
Steps permitted at top (Some p) after = (at ≤ p) × (p ≤ top) × (permitted p ≡ true) × ((k : ℕ) → at ≤ k → k < p → permitted k ≡ false) × (after ≡ p + 1)

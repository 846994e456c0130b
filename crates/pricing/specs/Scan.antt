-- The greatest of a number over the n prices from low up, and the lowest and the highest of them that pass a test.
use Rattle.std.specs.Prelude.{ℕ, zero, suc, ◌+◌, max, Bool, None, Option}
use Rattle.std.specs.Bool.{then_some}
use Rattle.std.specs.Option.{option_or}

abbrev pub only : (ℕ → Bool) → ℕ → Option ℕ
only test p = then_some (test p) p

abbrev pub greatest : (ℕ → ℕ) → ℕ → ℕ → ℕ
greatest f low zero = 0
greatest f low (suc n) = max (greatest f low n) (f (low + n))

abbrev pub lowest : (ℕ → Bool) → ℕ → ℕ → Option ℕ
lowest test low zero = None
lowest test low (suc n) = option_or (lowest test low n) (only test (low + n))

abbrev pub highest : (ℕ → Bool) → ℕ → ℕ → Option ℕ
highest test low zero = None
highest test low (suc n) = option_or (only test (low + n)) (highest test low n)

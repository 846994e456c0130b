-- What two markets show together, and how a send is split between them.
use Rattle.std.specs.Prelude.{◌≡◌, ℕ, ◌+◌, ◌-◌, ◌<◌, ◌≤◌}
use Rattle.interest.specs.declared.Side.{Side}
use Rattle.market.specs.Counts.{one_better}

abbrev pub together : (Side → ℕ → ℕ) → (Side → ℕ → ℕ) → Side → ℕ → ℕ
together first second d p = first d p + second d p

-- of m contracts sent on a side the first market gave x and the second y; f and g are their counts before, f' and g' after
pub record Split (d : Side) (f g f' g' : ℕ → ℕ) (m : ℕ) : Type 0 where
  pub x : ℕ
  pub y : ℕ
  pub all : x + y ≡ m
  pub first : (p : ℕ) → f' p ≡ f p - x
  pub second : (p : ℕ) → g' p ≡ g p - y
  -- where the first gave any at a price or worse, the second has none left at better prices
  pub best : (p : ℕ) → f (one_better d p) < x → g (one_better d p) ≤ y
  -- where the second gave any at a price or worse, the first has none left at that price or better
  pub turn : (p : ℕ) → g (one_better d p) < y → f p ≤ x

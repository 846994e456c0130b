-- What the levels of a depth table show, and what a send leaves of each.
use Rattle.std.specs.Prelude.{◌≡◌, ℕ, ◌+◌, ◌-◌, ◌<◌, ◌≤◌, Bool, true, false, cond, ◌&&◌, List, length, slice_index_or, take, drop, Some, None, sum_by, Option}
use Rattle.interest.specs.Sides.{same_side}
use Rattle.interest.specs.declared.Side.{Side}
use Rattle.interest.specs.declared.Side.TheVariants.{Buy}
use Rattle.market.specs.declared.depth.DepthLevel.{DepthLevel}
use Rattle.market.specs.Counts.{AsGood, Better, counted, one_better}
use Rattle.market.specs.Entries.{in_bounds, shows}

-- whether a level shows contracts on a side
abbrev pub level_stands : Side → DepthLevel → Bool
level_stands d l = same_side d l.side && in_bounds l.price l.size

-- what a level shows on a side at p
abbrev pub level_shows : Side → DepthLevel → ℕ → ℕ
level_shows d l p = cond (same_side d l.side) (shows d l.price l.size p) 0

abbrev pub levels_show : Side → List DepthLevel → ℕ → ℕ
levels_show d ls p = sum_by (λ l. level_shows d l p) ls

-- the contracts that go before those of place i at price p: of earlier levels at p or better, of the others at better prices
abbrev pub ahead : Side → List DepthLevel → ℕ → ℕ → ℕ
ahead d ls i p = levels_show d (take i ls) p + levels_show d (drop i ls) (one_better d p)

-- what is read past a table's end
abbrev pub blank : DepthLevel
blank = record { side = Buy; price = 0; size = 0 }

-- no earlier level is as good, no later one better
abbrev pub Before : Side → List DepthLevel → ℕ → ℕ → Type 0
Before d ls k j =
    (j < k → Better d (slice_index_or ls k blank).price (slice_index_or ls j blank).price)
    × (k ≤ j → AsGood d (slice_index_or ls k blank).price (slice_index_or ls j blank).price)

-- of the first n levels, the one that is taken first on a side, or none stands there
abbrev pub Foremost : Side → List DepthLevel → ℕ → Option ℕ → Type 0
Foremost d ls n None = (j : ℕ) → j < n → level_stands d (slice_index_or ls j blank) ≡ false
Foremost d ls n (Some k) =
    (k < n) × (level_stands d (slice_index_or ls k blank) ≡ true)
    × ((j : ℕ) → j < n → level_stands d (slice_index_or ls j blank) ≡ true → Before d ls k j)

-- what a level at place i gives to a send of n at p: what it shows there, as far as n goes after those ahead of it
abbrev pub given : Side → List DepthLevel → ℕ → ℕ → ℕ → ℕ
given d ls p n i = counted (level_shows d (slice_index_or ls i blank)) p (n - ahead d ls i (slice_index_or ls i blank).price)

-- a level with m contracts less
abbrev pub lowered : DepthLevel → ℕ → DepthLevel
lowered l m = record { side = l.side; price = l.price; size = l.size - m }

-- each level has lost what it gave, and nothing else of it has changed
pub record Sent (d : Side) (p n : ℕ) (before after : List DepthLevel) : Type 0 where
  pub long : length after ≡ length before
  pub each : (i : ℕ) → i < length before → slice_index_or after i blank ≡ lowered (slice_index_or before i blank) (given d before p n i)

-- the same of a table whose first 64 levels count
pub record TableSent (d : Side) (p n : ℕ) (before after : List DepthLevel) : Type 0 where
  pub counting : Sent d p n (take 64 before) (take 64 after)
  pub rest : drop 64 after ≡ drop 64 before

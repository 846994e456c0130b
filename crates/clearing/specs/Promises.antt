-- What every opening keeps to, whatever the ladder, the sharing rule and the market.
use Rattle.std.specs.Prelude.{◌≡◌, ℕ, ◌+◌, ◌-◌, ◌<◌, ◌≤◌, Bool, true, false, cond, List, length, slice_index_or, Some, None, Option}
use Rattle.interest.specs.Bounds.{priced}
use Rattle.interest.specs.declared.Side.{Side}
use Rattle.interest.specs.Sides.{opposite}
use Rattle.market.specs.Counts.{Better, one_better}
use Rattle.book.specs.declared.row.Row.{Row}
use Rattle.book.specs.Ranks.{routable_class, takes_price, interest_at, routable_at, rank_of}
use Rattle.routing.specs.Routes.{own_limit}
use Rattle.clearing.specs.declared.opening.Kind.{Kind}
use Rattle.clearing.specs.declared.opening.Opening.{Opening}
use Rattle.clearing.specs.Kinds.{routes, is_forced}
use Rattle.clearing.specs.Openings.{priced_only, traded_on}

-- the away contracts at better prices than p, for a side's rows
abbrev pub better_for : (Side → ℕ → ℕ) → ℕ → Side → ℕ
better_for counts p side = counts (opposite side) (one_better (opposite side) p)

-- p can be opened at with that volume: all better away contracts can be taken by routable ones, where the kind routes, and are none where it does not; and the volume is there besides
abbrev pub Usable : Kind → (Side → ℕ → ℕ) → ℕ → ℕ → List Row → Type 0
Usable kind counts p volume rows = (side : Side) → (better_for counts p side ≤ cond (routes kind) (routable_at side p rows) 0) × (volume + better_for counts p side ≤ interest_at side p rows)

-- each side trades the volume
abbrev pub TradesVolume : (Side → ℕ → ℕ) → Opening → List Row → List Row → Type 0
TradesVolume counts o before after = (p : ℕ) → priced_only o.price ≡ Some p → Usable o.kind counts p o.volume before → (side : Side) → traded_on side after ≡ traded_on side before + o.volume

abbrev pub takes_opening : Option ℕ → Row → Bool
takes_opening None r = false
takes_opening (Some p) r = takes_price r.side p r.limit

-- a row trades only if there is a price and its limit takes it
abbrev pub TradesWithin : Opening → List Row → List Row → Type 0
TradesWithin o before after = (i : ℕ) (d : Row) → i < length before → (slice_index_or before i d).traded < (slice_index_or after i d).traded → takes_opening (priced_only o.price) (slice_index_or before i d) ≡ true

-- where a row trades, every contract of a better level on its side was traded or routed
abbrev pub BestFirst : List Row → List Row → Type 0
BestFirst before after = (i j : ℕ) (d : Row) → i < length before → j < length before → (slice_index_or before j d).side ≡ (slice_index_or before i d).side → rank_of (slice_index_or before j d) < rank_of (slice_index_or before i d)
    → (slice_index_or before i d).traded < (slice_index_or after i d).traded → ((slice_index_or after j d).left ≡ 0) × ((slice_index_or after j d).cancelled ≡ (slice_index_or before j d).cancelled)

-- the away market is left with nothing better than the price
abbrev pub NothingBetter : (Side → ℕ → ℕ) → Opening → List Row → (Side → ℕ → ℕ) → Type 0
NothingBetter counts o before left = (p : ℕ) → priced_only o.price ≡ Some p → Usable o.kind counts p o.volume before → (side : Side) (q : ℕ) → Better side q p → left side q ≡ 0

-- where the kind routes, a routable row that takes the price keeps or loses a contract only if the away market is left with none at the price or better
abbrev pub SpentAt : Opening → List Row → List Row → (Side → ℕ → ℕ) → Type 0
SpentAt o before after left = (p : ℕ) → priced_only o.price ≡ Some p → routes o.kind ≡ true → (i : ℕ) (d : Row) → i < length before → routable_class (slice_index_or before i d).class ≡ true → takes_price (slice_index_or before i d).side p (slice_index_or before i d).limit ≡ true
    → 0 < (slice_index_or after i d).left + ((slice_index_or after i d).cancelled - (slice_index_or before i d).cancelled) → left (opposite (slice_index_or before i d).side) p ≡ 0

-- in a forced opening without a price, a routable row keeps or loses a contract only if the away market is left with none at its limit or better
abbrev pub SpentOwn : Opening → List Row → List Row → (Side → ℕ → ℕ) → Type 0
SpentOwn o before after left = priced_only o.price ≡ None → is_forced o.kind ≡ true → (i : ℕ) (d : Row) → i < length before → routable_class (slice_index_or before i d).class ≡ true
    → 0 < (slice_index_or after i d).left + ((slice_index_or after i d).cancelled - (slice_index_or before i d).cancelled) → left (opposite (slice_index_or before i d).side) (own_limit (slice_index_or before i d).side (rank_of (slice_index_or before i d))) ≡ 0

-- where the kind does not route, the away market stays as it was
abbrev pub Quiet : Opening → (Side → ℕ → ℕ) → (Side → ℕ → ℕ) → Type 0
Quiet o counts left = routes o.kind ≡ false → (side : Side) (q : ℕ) → left side q ≡ counts side q

-- no row is shown at or through an away price that is left
abbrev pub RestsShort : List Row → (Side → ℕ → ℕ) → Type 0
RestsShort after left = (i : ℕ) (d : Row) → i < length after → 0 < (slice_index_or after i d).shown → (q : ℕ) → priced q ≡ true → 0 < left (opposite (slice_index_or after i d).side) q → Better (opposite (slice_index_or after i d).side) (slice_index_or after i d).shown q

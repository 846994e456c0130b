-- What is cancelled and where the rest rests, row by row.
use Rattle.std.specs.Prelude.{ℕ, ◌+◌, ◌-◌, ◌≤◌, Bool, cond, Some, None, Option, nat_lt}
use Rattle.std.specs.Option.{unwrap_or}
use Rattle.interest.specs.declared.Side.{Side}
use Rattle.interest.specs.declared.Side.TheVariants.{Buy, Sell}
use Rattle.interest.specs.declared.Limit.{Limit}
use Rattle.interest.specs.declared.Limit.TheVariants.{Market, At}
use Rattle.interest.specs.Sides.{opposite}
use Rattle.ladder.specs.Rungs.{least_at_or_above, greatest_at_or_below}
use Rattle.market.specs.Counts.{reaches}
use Rattle.book.specs.declared.row.Row.{Row}
use Rattle.book.specs.Ranks.{through_price}
use Rattle.book.specs.Rewrites.{cancel_row, rest_row}
use Rattle.settling.specs.declared.Edges.{Edges}
use Rattle.settling.specs.declared.Resting.{Resting}

abbrev pub edge_of : Edges → Side → ℕ
edge_of e Buy = e.buys
edge_of e Sell = e.sells

-- what is left is cancelled if it is market, or limited beyond the edge
abbrev pub cancel_through : Edges → Row → Row
cancel_through edges r = cond (through_price r.side (edge_of edges r.side) r.limit) (cancel_row r) r

-- the permitted price next to an away price, short of it: the greatest below an offer, the least above a bid
abbrev pub beside : (ℕ → Bool) → Side → ℕ → Option ℕ
beside permitted Buy a = greatest_at_or_below permitted (a - 1)
beside permitted Sell a = least_at_or_above permitted (a + 1)

abbrev pub InBounds : Option ℕ → Type 0
InBounds None = Unit {0}
InBounds (Some a) = a ≤ 100000

abbrev pub rests_at : ℕ → ℕ → Resting
rests_at works seen = record { working = works; shown = seen }

-- where a row of a limit rests: there, or, if it reaches the away price, working at that and shown beside it, at 0 where no price is
abbrev pub resting_at : (ℕ → Bool) → Side → Option ℕ → Limit → Resting
resting_at permitted side away Market = rests_at 0 0
resting_at permitted side None (At x) = rests_at x x
resting_at permitted side (Some a) (At x) = cond (reaches (opposite side) a x) (rests_at a (unwrap_or (beside permitted side a) 0)) (rests_at x x)

-- with nothing left, at 0 and 0
abbrev pub place_of : (ℕ → Bool) → (Side → Option ℕ) → Row → Resting
place_of permitted away r = cond (nat_lt 0 r.left) (resting_at permitted r.side (away (opposite r.side)) r.limit) (rests_at 0 0)

abbrev pub rested_row : (ℕ → Bool) → (Side → Option ℕ) → Row → Row
rested_row permitted away r = rest_row (place_of permitted away r).working (place_of permitted away r).shown r

-- What an opening makes of the rows and of what the away market shows.
use Rattle.std.specs.Prelude.{◌≡◌, ℕ, ◌-◌, Bool, cond, List, map, Some, None, Option}
use Rattle.interest.specs.Bounds.{priced}
use Rattle.interest.specs.declared.Side.{Side}
use Rattle.interest.specs.declared.Side.TheVariants.{Buy, Sell}
use Rattle.interest.specs.Sides.{opposite}
use Rattle.market.specs.Counts.{one_better, best_of}
use Rattle.sharing.specs.declared.level.Holding.{Holding}
use Rattle.book.specs.declared.row.Row.{Row}
use Rattle.book.specs.Ranks.{of_side, total_of, ranks_at}
use Rattle.ranges.specs.declared.Range.{Range}
use Rattle.filling.specs.Fills.{filled_rows}
use Rattle.routing.specs.Routes.{count_at, own_limit, routed_rows}
use Rattle.settling.specs.declared.Edges.{Edges}
use Rattle.settling.specs.Settles.{cancel_through, rested_row}
use Rattle.clearing.specs.declared.opening.Kind.{Kind}
use Rattle.clearing.specs.declared.opening.Opening.{Opening}
use Rattle.clearing.specs.declared.price.Price.{Price}
use Rattle.clearing.specs.Kinds.{routes, is_forced}

-- a price out of bounds is none
abbrev pub priced_only : Option ℕ → Option ℕ
priced_only None = None
priced_only (Some p) = cond (priced p) (Some p) None

abbrev pub told_price : Option Price → Option ℕ
told_price None = None
told_price (Some p) = Some p.cents

-- what is answered of each side is its price
abbrev pub AnswersBySide : (Side → ℕ → Type 0) → (Side → ℕ) → Type 0
AnswersBySide answers price = (side : Side) (p : ℕ) → answers side p → p ≡ price side

-- a step taken for each side; the sides do not touch each other
abbrev pub both_sides : (Side → List Row → List Row) → List Row → List Row
both_sides step rows = step Sell (step Buy rows)

-- the contracts that a side's rows have traded, routed and cancelled
abbrev pub traded_on : Side → List Row → ℕ
traded_on side rows = total_of (λ (r : Row). r.traded) (of_side side) rows

abbrev pub routed_on : Side → List Row → ℕ
routed_on side rows = total_of (λ (r : Row). r.routed) (of_side side) rows

abbrev pub cancelled_on : Side → List Row → ℕ
cancelled_on side rows = total_of (λ (r : Row). r.cancelled) (of_side side) rows

-- what the away market shows once the rows have come from `before` to `after`: its counts less what the rows on the other side have sent
abbrev pub counts_left : (Side → ℕ → ℕ) → List Row → List Row → Side → ℕ → ℕ
counts_left counts before after side p = counts side p - (routed_on (opposite side) after - routed_on (opposite side) before)

-- the away market is left with just that
abbrev pub CountsLeft : (Side → ℕ → ℕ) → (Side → ℕ → ℕ) → List Row → List Row → Type 0
CountsLeft counts left before after = (side : Side) (q : ℕ) → left side q ≡ counts_left counts before after side q

-- the routable rows that take p, each side's sent at its own price
abbrev pub sent_at : (Side → ℕ → ℕ) → (Side → ℕ) → ℕ → List Row → List Row
sent_at counts ask p rows = both_sides (λ side. routed_rows (λ _. count_at (counts (opposite side)) (ask side)) side (ranks_at side p)) rows

-- a step better than p for a side's rows: buys are sent to offers below it, sells to bids above it
abbrev pub better_than : ℕ → Side → ℕ
better_than p side = one_better (opposite side) p

-- the volume filled on each side, among the rows that take p
abbrev pub filled_at : (ℕ → List Holding → List ℕ) → ℕ → ℕ → List Row → List Row
filled_at shares p volume rows = both_sides (λ side. filled_rows shares side (ranks_at side p) volume) rows

-- all better prices, then the volume, then what the away market still shows at the price
unfoldable pub after_fill : (ℕ → List Holding → List ℕ) → (Side → ℕ → ℕ) → ℕ → ℕ → List Row → List Row
after_fill shares counts p volume rows = filled_at shares p volume (sent_at counts (better_than p) p rows)

unfoldable pub after_price : (ℕ → List Holding → List ℕ) → (Side → ℕ → ℕ) → ℕ → ℕ → List Row → List Row
after_price shares counts p volume rows = sent_at (counts_left counts rows (after_fill shares counts p volume rows)) (λ _. p) p (after_fill shares counts p volume rows)

-- without a price: each routable row at its own limit, market rows at any price
abbrev pub sent_own : (Side → ℕ → ℕ) → List Row → List Row
sent_own counts rows = both_sides (λ side. routed_rows (λ k. count_at (counts (opposite side)) (own_limit side k)) side 100001) rows

abbrev pub executed : (ℕ → List Holding → List ℕ) → (Side → ℕ → ℕ) → Kind → Option ℕ → ℕ → List Row → List Row
executed shares counts kind (Some p) volume rows = cond (routes kind) (after_price shares counts p volume rows) (filled_at shares p volume rows)
executed shares counts kind None volume rows = cond (is_forced kind) (sent_own counts rows) rows

-- cancelled are market contracts and those through the price; without one, in a forced opening, those beyond the range
abbrev pub edges_of : Kind → Option ℕ → Range → Edges
edges_of kind (Some p) range = record { buys = p; sells = p }
edges_of kind None range = cond {A = Edges} (is_forced kind) (record { buys = range.high; sells = range.low }) (record { buys = 100000; sells = 1 })

-- what is left cancelled or at rest, next to the best away prices then left
abbrev pub settled : (ℕ → Bool) → (Side → ℕ → ℕ) → Edges → List Row → List Row
settled permitted counts edges rows = map (rested_row permitted (λ side. best_of side (counts side))) (map (cancel_through edges) rows)

unfoldable pub rows_after : (ℕ → Bool) → (ℕ → List Holding → List ℕ) → (Side → ℕ → ℕ) → Opening → List Row → List Row
rows_after permitted shares counts o rows =
    let price = priced_only o.price in
    let done = executed shares counts o.kind price o.volume rows in
    settled permitted (counts_left counts rows done) (edges_of o.kind price o.range) done

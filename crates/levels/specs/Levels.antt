-- Which rows take part, and the levels that they make.
use Rattle.std.specs.Prelude.{◌≡◌, ℕ, ◌<◌, ◌≤◌, min, Bool, true, cond, ◌&&◌, List, [], ◌∷◌, length, map, filter, Some, None, Option, ◌==◌, nat_le, nat_lt, slice_index_or}
use Rattle.std.specs.List.{reduce}
use Rattle.sharing.specs.declared.level.Holding.{Holding}
use Rattle.book.specs.declared.row.Row.{Row}
use Rattle.book.specs.Ranks.{rank_of, of_side, can_route}
use Rattle.levels.specs.declared.Part.{Part}
use Rattle.levels.specs.declared.Part.TheVariants.{All, Routable}

abbrev pub part_of : Part → Row → Bool
part_of (All side) r = of_side side r
part_of (Routable side) r = can_route side r

-- a row with contracts left that takes part, of rank k; and of a rank better than n
abbrev pub stands_at : (Row → Bool) → ℕ → Row → Bool
stands_at part k r = part r && (rank_of r == k && nat_lt 0 r.left)

abbrev pub stands_below : (Row → Bool) → ℕ → Row → Bool
stands_below part n r = part r && (nat_lt (rank_of r) n && nat_lt 0 r.left)

abbrev pub holding_of : Row → Holding
holding_of r = record { class = r.class; size = r.left }

-- the level of rank k, in row order
abbrev pub level_at : (Row → Bool) → ℕ → List Row → List Holding
level_at part k [] = []
level_at part k (r ∷ rows) = cond (stands_at part k r) (holding_of r ∷ level_at part k rows) (level_at part k rows)

-- the best rank from n on, better than top, at which a row stands
abbrev pub next_rank : (Row → Bool) → ℕ → ℕ → List Row → Option ℕ
next_rank part n top rows = reduce min (filter (λ k. nat_le n k && nat_lt k top) (map rank_of (filter (λ (r : Row). part r && nat_lt 0 r.left) rows)))

-- no row stands at a rank from n on that is better than k
abbrev pub NoneBetween : (Row → Bool) → ℕ → ℕ → List Row → Type 0
NoneBetween part n k rows = (i : ℕ) (d : Row) → i < length rows → stands_below part k (slice_index_or rows i d) ≡ true → rank_of (slice_index_or rows i d) < n

-- a row stands at k, from n on and better than top, and none between n and k
pub record BestFrom (part : Row → Bool) (n top : ℕ) (rows : List Row) (k : ℕ) : Type 0 where
  pub least : n ≤ k
  pub within : k < top
  pub between : NoneBetween part n k rows
  pub stands : (i : ℕ) × (i < length rows) × ((d : Row) → stands_at part k (slice_index_or rows i d) ≡ true)

-- an answer is the best rank from n on, better than top, at which a row stands, or none stands at one
abbrev pub NextRank : (Row → Bool) → ℕ → ℕ → List Row → Option ℕ → Type 0
NextRank part n top rows None = NoneBetween part n top rows
NextRank part n top rows (Some k) = BestFrom part n top rows k

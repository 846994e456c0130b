-- What filling a volume on one side makes of the rows.
use Rattle.std.specs.Prelude.{◌≡◌, ℕ, ◌-◌, ◌<◌, true, cond, List, [], ◌∷◌, length, slice_index_or}
use Rattle.interest.specs.declared.Side.{Side}
use Rattle.sharing.specs.declared.level.Holding.{Holding}
use Rattle.book.specs.declared.row.Row.{Row}
use Rattle.book.specs.Ranks.{of_side, rank_of, below}
use Rattle.book.specs.Rewrites.{trade_row}
use Rattle.levels.specs.Levels.{stands_at, level_at}
use Rattle.levels.specs.Deals.{dealt}

-- the level of rank k shares what the better levels leave of the volume
abbrev pub level_shares : (ℕ → List Holding → List ℕ) → Side → ℕ → List Row → ℕ → List ℕ
level_shares shares side volume rows k = shares (volume - below (of_side side) k rows) (level_at (of_side side) k rows)

-- the volume filled on one side, among the rows of a rank better than `upto`
abbrev pub filled_rows : (ℕ → List Holding → List ℕ) → Side → ℕ → ℕ → List Row → List Row
filled_rows shares side upto volume rows = dealt (of_side side) trade_row (level_shares shares side volume rows) upto [] rows

-- what the rows of the level of rank k traded, in row order
abbrev pub got_traded : Side → ℕ → List Row → List Row → List ℕ
got_traded side k [] after = []
got_traded side k (r ∷ before) [] = []
got_traded side k (r ∷ before) (s ∷ after) = cond (stands_at (of_side side) k r) ((s.traded - r.traded) ∷ got_traded side k before after) (got_traded side k before after)

-- a row trades only where every row of a better level on its side is left with nothing
abbrev pub InPriority : Side → List Row → List Row → Type 0
InPriority side before after = (i j : ℕ) (d : Row) → i < length before → j < length before → of_side side (slice_index_or before i d) ≡ true → of_side side (slice_index_or before j d) ≡ true
    → rank_of (slice_index_or before j d) < rank_of (slice_index_or before i d) → (slice_index_or before i d).traded < (slice_index_or after i d).traded → (slice_index_or after j d).left ≡ 0

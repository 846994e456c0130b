-- Shares dealt out to the rows of levels.
use Rattle.std.specs.Prelude.{◌≡◌, ℕ, ◌+◌, ◌<◌, Bool, cond, List, [], ◌∷◌, ◌++◌, length, take, slice_index, slice_index_or}
use Rattle.book.specs.declared.row.Row.{Row}
use Rattle.book.specs.Ranks.{rank_of}
use Rattle.levels.specs.Levels.{stands_at, stands_below, level_at}

-- one level dealt out: its rows take the shares in order, from place j on; the others stay
abbrev pub deal : (Row → Bool) → (ℕ → Row → Row) → ℕ → List ℕ → ℕ → List Row → List Row
deal part change k shares j [] = []
deal part change k shares j (r ∷ rows) = cond (stands_at part k r) (change (slice_index shares j) r ∷ deal part change k shares (j + 1) rows) (r ∷ deal part change k shares j rows)

-- the share of a row: that of its own level, at its place there, counted by the rows ahead of it
abbrev pub share_of : (Row → Bool) → (ℕ → List ℕ) → List Row → Row → ℕ
share_of part shares ahead r = slice_index (shares (rank_of r)) (length (level_at part (rank_of r) ahead))

-- every level better than rank n dealt out, each by its own list of shares: a row that stands there is changed by its share, the others stay
abbrev pub dealt : (Row → Bool) → (ℕ → Row → Row) → (ℕ → List ℕ) → ℕ → List Row → List Row → List Row
dealt part change shares n ahead [] = []
dealt part change shares n ahead (r ∷ rows) = cond (stands_below part n r) (change (share_of part shares ahead r) r) r ∷ dealt part change shares n (ahead ++ r ∷ []) rows

-- row by row: a row that stands better than rank n is changed by its share, given the rows ahead of it in row order; the others stay
abbrev pub EachRow : (Row → Bool) → (ℕ → Row → Row) → ℕ → (List Row → Row → ℕ) → List Row → List Row → Type 0
EachRow part change n share before after = (i : ℕ) (d : Row) → i < length before
    → slice_index_or after i d ≡ cond (stands_below part n (slice_index_or before i d)) (change (share (take i before) (slice_index_or before i d)) (slice_index_or before i d)) (slice_index_or before i d)

-- One row changed in its place.
use Rattle.std.specs.Prelude.{◌≡◌, ℕ, zero, suc, ◌+◌, ◌-◌, min, List, [], ◌∷◌}
use Rattle.book.specs.declared.row.Row.{Row}
use Rattle.book.specs.Rows.{held}

-- the row at an index changed; the list as it was where the index is past its end
abbrev pub changed_at : ℕ → (Row → Row) → List Row → List Row
changed_at at f [] = []
changed_at zero f (r ∷ rows) = f r ∷ rows
changed_at (suc at) f (r ∷ rows) = r ∷ changed_at at f rows

-- up to n of the contracts left taken from it
abbrev pub less_left : ℕ → Row → Row
less_left n r = record { owner = r.owner; side = r.side; limit = r.limit; class = r.class; size = r.size; traded = r.traded; routed = r.routed; cancelled = r.cancelled; left = r.left - n; working = r.working; shown = r.shown }

-- up to n of the contracts left traded, or routed
abbrev pub trade_row : ℕ → Row → Row
trade_row n r = record { owner = r.owner; side = r.side; limit = r.limit; class = r.class; size = r.size; traded = r.traded + min n r.left; routed = r.routed; cancelled = r.cancelled; left = r.left - n; working = r.working; shown = r.shown }

abbrev pub route_row : ℕ → Row → Row
route_row n r = record { owner = r.owner; side = r.side; limit = r.limit; class = r.class; size = r.size; traded = r.traded; routed = r.routed + min n r.left; cancelled = r.cancelled; left = r.left - n; working = r.working; shown = r.shown }

-- all the contracts left cancelled
abbrev pub cancel_row : Row → Row
cancel_row r = record { owner = r.owner; side = r.side; limit = r.limit; class = r.class; size = r.size; traded = r.traded; routed = r.routed; cancelled = r.cancelled + r.left; left = 0; working = r.working; shown = r.shown }

-- the prices at which the row works and is shown
abbrev pub rest_row : ℕ → ℕ → Row → Row
rest_row working shown r = record { owner = r.owner; side = r.side; limit = r.limit; class = r.class; size = r.size; traded = r.traded; routed = r.routed; cancelled = r.cancelled; left = r.left; working = working; shown = shown }

-- the same interest: only where its contracts are, and the prices at which it rests, may differ
pub record SameRow (r s : Row) : Type 0 where
  pub owner : s.owner ≡ r.owner
  pub side : s.side ≡ r.side
  pub limit : s.limit ≡ r.limit
  pub class : s.class ≡ r.class
  pub size : s.size ≡ r.size
  pub held : held s ≡ held r

-- row by row
abbrev pub RowByRow : (Row → Row → Type 0) → List Row → List Row → Type 0
RowByRow P [] [] = Unit {0}
RowByRow P [] (s ∷ after) = ⊥
RowByRow P (r ∷ before) [] = ⊥
RowByRow P (r ∷ before) (s ∷ after) = P r s × RowByRow P before after

abbrev pub SameRows : List Row → List Row → Type 0
SameRows before after = RowByRow SameRow before after

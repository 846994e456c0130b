-- Rows of a level, as a list in row order. Names no type with a ghost field, so that a ghost field can cite it.
use Rattle.std.specs.Prelude.{Bool, true, cond, ◌&&◌, List, [], ◌∷◌, length, Ok, Err, Result, nat_lt}
use Rattle.interest.specs.Bounds.{sized}
use Rattle.interest.specs.declared.Class.TheVariants.{Other}
use Rattle.sharing.specs.declared.level.Holding.{Holding}
use Rattle.sharing.specs.declared.level.PushError.{PushError}
use Rattle.sharing.specs.declared.level.PushError.TheVariants.{SizeOutOfBounds, LevelFull}

-- what fills the places that no row has
abbrev pub no_row : Holding
no_row = record { class = Other; size = 0 }

abbrev pub all_sized : List Holding → Bool
all_sized [] = true
all_sized (h ∷ rows) = sized h.size && all_sized rows

-- what a level of these rows answers to one more
abbrev pub push_answer : List Holding → Holding → Result (Unit {0}) PushError
push_answer rows h = cond (sized h.size) (cond (nat_lt (length rows) 128) (Ok tt) (Err LevelFull)) (Err SizeOutOfBounds)

-- What an auction goes by, and what its calls find and leave.
use Rattle.std.specs.Prelude.{ℕ, Bool, cond, List, [], is_ok, Result}
use Rattle.interest.specs.declared.Refusal.{Refusal}
use Rattle.sharing.specs.declared.level.Holding.{Holding}
use Rattle.book.specs.declared.row.Row.{Row}
use Rattle.stages.specs.declared.settings.Settings.{Settings}
use Rattle.stages.specs.declared.stage.Stage.{Stage}
use Rattle.stages.specs.declared.stage.Stage.TheVariants.{Waiting}

-- what no call changes: the permitted prices, how a level is shared, and the settings
pub record Terms : Type 0 where
  pub permitted : ℕ → Bool
  pub shares : ℕ → List Holding → List ℕ
  pub settings : Settings

-- the rows, the stage, and the time of the last accepted tick, 0 before the first
pub record State : Type 0 where
  pub rows : List Row
  pub stage : Stage
  pub last : ℕ

abbrev pub start : State
start = record { rows = []; stage = Waiting; last = 0 }

abbrev pub with_rows : State → List Row → State
with_rows s rows = record { rows = rows; stage = s.stage; last = s.last }

-- an accepted call leaves these rows, a refused one everything as found
abbrev pub edited_by : {T : Type 0} → Result T Refusal → State → List Row → State
edited_by r s rows = cond {A = State} (is_ok r) (with_rows s rows) s

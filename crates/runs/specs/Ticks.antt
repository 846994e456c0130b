-- What a tick answers and leaves.
use Rattle.std.specs.Prelude.{◌≡◌, ℕ, ◌≤◌, cond, List, Some, None, Ok, Err, Option, Result, nat_lt}
use Rattle.interest.specs.declared.Side.{Side}
use Rattle.interest.specs.declared.Refusal.{Refusal}
use Rattle.interest.specs.declared.Refusal.TheVariants.{SeriesOpen, TimeOutOfBounds}
use Rattle.market.specs.Counts.{AsGood}
use Rattle.book.specs.declared.row.Row.{Row}
use Rattle.book.specs.Rewrites.{SameRows}
use Rattle.book.specs.Edits.{answered}
use Rattle.clearing.specs.declared.opening.Opening.{Opening}
use Rattle.clearing.specs.Openings.{priced_only, rows_after, counts_left}
use Rattle.clearing.specs.Reports.{report_of, ShowsBest}
use Rattle.clearing.specs.Promises.{TradesVolume, TradesWithin, BestFirst, NothingBetter, SpentAt, SpentOwn, RestsShort}
use Rattle.stages.specs.declared.stage.Decision.{Decision}
use Rattle.stages.specs.declared.stage.Decision.TheVariants as decision
use Rattle.stages.specs.declared.stage.TickAnswer.{TickAnswer}
use Rattle.stages.specs.declared.stage.TickAnswer.TheVariants.{Waits, Holds, Message, Opened}
use Rattle.stages.specs.Stages.{is_open, due, stage_by}
use Rattle.stages.specs.Waits.{opens_later, reason_to_wait}
use Rattle.pricing.specs.Scenes.{scene}
use Rattle.stages.specs.Decisions.{decision_by, waits_or}
use Rattle.runs.specs.States.{Terms, State}

-- what a tick is told, with what its market showed on each side at each price when it was handed over and when it was handed back
pub record Tick : Type 0 where
  pub time : ℕ
  pub underlying : Option ℕ
  pub before : Side → ℕ → ℕ
  pub after : Side → ℕ → ℕ

abbrev pub tick_of : ℕ → Option ℕ → (Side → ℕ → ℕ) → (Side → ℕ → ℕ) → Tick
tick_of time underlying before after = record { time = time; underlying = underlying; before = before; after = after }

-- a count never falls as the price worsens
abbrev pub Worsening : (Side → ℕ → ℕ) → Type 0
Worsening shown = (side : Side) (p q : ℕ) → AsGood side p q → shown side p ≤ shown side q

-- a time out of bounds, before the last accepted tick, or before the underlying opened
abbrev pub tick_cause : State → ℕ → Option ℕ → Option Refusal
tick_cause s time underlying =
    cond (is_open s.stage) (Some SeriesOpen)
    (cond (nat_lt 86400000 time) (Some TimeOutOfBounds)
    (cond (nat_lt time s.last) (Some TimeOutOfBounds)
    (cond (opens_later time underlying) (Some TimeOutOfBounds)
    None)))

-- what the rules decide, for the rows and the stage that the tick finds
abbrev pub decision_at : Terms → State → Tick → Decision
decision_at terms s k =
    waits_or (reason_to_wait terms.settings s.rows k.before k.time k.underlying)
    (decision_by terms.settings (scene terms.permitted terms.settings.close s.rows k.before) s.stage (due s.stage k.time))

-- only an opening changes rows
abbrev pub rows_by : Terms → (Side → ℕ → ℕ) → Decision → List Row → List Row
rows_by terms shown (decision.Wait reason) rows = rows
rows_by terms shown decision.Hold rows = rows
rows_by terms shown (decision.Tell message) rows = rows
rows_by terms shown (decision.Open o) rows = rows_after terms.permitted terms.shares shown o rows

-- what is answered, by the rows that are left
abbrev pub told_by : Decision → List Row → TickAnswer
told_by (decision.Wait reason) left = Waits reason
told_by decision.Hold left = Holds
told_by (decision.Tell message) left = Message message
told_by (decision.Open o) left = Opened (report_of o (priced_only o.price) left)

abbrev pub tick_answer : Terms → State → Tick → Result TickAnswer Refusal
tick_answer terms s k = answered (tick_cause s k.time k.underlying) (told_by (decision_at terms s k) (rows_by terms k.before (decision_at terms s k) s.rows))

-- a refused tick leaves everything as found
abbrev pub tick_state : Terms → State → Tick → Result TickAnswer Refusal → State
tick_state terms s k (Ok answer) = record { rows = rows_by terms k.before (decision_at terms s k) s.rows; stage = stage_by terms.settings k.time answer s.stage; last = k.time }
tick_state terms s k (Err refusal) = s

-- what an opening keeps to: sums, limits, priority, and what it leaves away
pub record Carried (o : Opening) (k : Tick) (found left : List Row) : Type 0 where
  pub kept : SameRows found left
  pub volume : TradesVolume k.before o found left
  pub limits : TradesWithin o found left
  pub priority : BestFirst found left
  pub better : NothingBetter k.before o found k.after
  pub spent : SpentAt o found left k.after
  pub spent_own : SpentOwn o found left k.after
  pub short : RestsShort left k.after
  pub shows : ShowsBest (report_of o (priced_only o.price) left) left

abbrev pub CarriedBy : Decision → Tick → List Row → List Row → Type 0
CarriedBy (decision.Wait reason) k found left = Unit {0}
CarriedBy decision.Hold k found left = Unit {0}
CarriedBy (decision.Tell message) k found left = Unit {0}
CarriedBy (decision.Open o) k found left = Carried o k found left

-- an opening that is not refused is carried out
abbrev pub Carries : Terms → State → Tick → Result TickAnswer Refusal → State → Type 0
Carries terms s k (Ok answer) t = CarriedBy (decision_at terms s k) k s.rows t.rows
Carries terms s k (Err refusal) t = Unit {0}

pub record Ticked (terms : Terms) (s : State) (k : Tick) (r : Result TickAnswer Refusal) (t : State) : Type 0 where
  pub shown : Worsening k.before
  pub answer : r ≡ tick_answer terms s k
  pub state : t ≡ tick_state terms s k r
  -- the market is left with what it showed less what the rows sent, which is nothing unless the tick opens
  pub counts : (side : Side) (q : ℕ) → k.after side q ≡ counts_left k.before s.rows t.rows side q
  pub carried : Carries terms s k r t

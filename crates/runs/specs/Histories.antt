-- The history of an auction: the calls since it was made, each with what it answered, the newest first.
use Rattle.std.specs.Prelude.{ℕ, zero, suc, ◌+◌, Bool, cond, not, List, [], ◌∷◌, ◌++◌, map, Some, None, Ok, Err, filter, Option, Result, ◌==◌}
use Rattle.interest.specs.declared.Side.{Side}
use Rattle.interest.specs.declared.Side.TheVariants.{Buy, Sell}
use Rattle.interest.specs.Sides.{same_side}
use Rattle.interest.specs.declared.Refusal.{Refusal}
use Rattle.book.specs.declared.row.Row.{Row}
use Rattle.book.specs.declared.row.Order.{Order}
use Rattle.book.specs.declared.row.Quote.{Quote}
use Rattle.book.specs.declared.row.TakenBack.{TakenBack}
use Rattle.book.specs.Rows.{is_order}
use Rattle.book.specs.Ranks.{of_side}
use Rattle.book.specs.Reads.{first}
use Rattle.book.specs.Edits.{order_row, quote_rows}
use Rattle.book.specs.Effects.{taken_back_on}
use Rattle.stages.specs.declared.settings.Settings.{Settings}
use Rattle.stages.specs.declared.stage.Stage.{Stage}
use Rattle.stages.specs.declared.stage.Stage.TheVariants.{Waiting}
use Rattle.stages.specs.declared.stage.TickAnswer.{TickAnswer}
use Rattle.stages.specs.Stages.{stage_by}
use Rattle.runs.specs.States.{State}
use Rattle.runs.specs.Ticks.{Tick}

-- a call and its answer
pub data Event : Type 0 where
  Enters : Order → Result ℕ Refusal → Event
  Withdraws : ℕ → Result ℕ Refusal → Event
  Quotes : ℕ → Quote → Result TakenBack Refusal → Event
  Pulls : ℕ → Result TakenBack Refusal → Event
  Ticks : Tick → Result TickAnswer Refusal → Event

-- WHAT STANDS

abbrev pub has_number : ℕ → Order → Bool
has_number n o = o.number == n

-- orders accepted and not withdrawn since, as accepted
abbrev pub orders_in : List Event → List Order
orders_in [] = []
orders_in (Enters o (Ok size) ∷ h) = orders_in h ++ o ∷ []
orders_in (Enters o (Err refusal) ∷ h) = orders_in h
orders_in (Withdraws n (Ok back) ∷ h) = filter (λ o. not (has_number n o)) (orders_in h)
orders_in (Withdraws n (Err refusal) ∷ h) = orders_in h
orders_in (Quotes m q r ∷ h) = orders_in h
orders_in (Pulls m r ∷ h) = orders_in h
orders_in (Ticks k r ∷ h) = orders_in h

-- a maker's last accepted quote, unless pulled since
abbrev pub quote_in : List Event → ℕ → Option Quote
quote_in [] maker = None
quote_in (Enters o r ∷ h) maker = quote_in h maker
quote_in (Withdraws n r ∷ h) maker = quote_in h maker
quote_in (Quotes m q (Ok back) ∷ h) maker = cond (m == maker) (Some q) (quote_in h maker)
quote_in (Quotes m q (Err refusal) ∷ h) maker = quote_in h maker
quote_in (Pulls m (Ok back) ∷ h) maker = cond (m == maker) None (quote_in h maker)
quote_in (Pulls m (Err refusal) ∷ h) maker = quote_in h maker
quote_in (Ticks k r ∷ h) maker = quote_in h maker

abbrev pub rows_of_quote : ℕ → Option Quote → List Row
rows_of_quote maker None = []
rows_of_quote maker (Some q) = quote_rows maker q

-- the rows of the quotes of n makers, from one on
abbrev pub makers_rows : (ℕ → Option Quote) → ℕ → ℕ → List Row
makers_rows quote maker zero = []
makers_rows quote maker (suc n) = rows_of_quote maker (quote maker) ++ makers_rows quote (suc maker) n

-- the rows that a tick finds: the orders, then the rows of each maker's quote, by maker
abbrev pub standing : List Event → List Row
standing h = map order_row (orders_in h) ++ makers_rows (quote_in h) 1 16

-- THE STAGE

-- waiting at first and after every wait; then by the last message; holds and refusals leave it; open once opened
abbrev pub stage_in : Settings → List Event → Stage
stage_in settings [] = Waiting
stage_in settings (Enters o r ∷ h) = stage_in settings h
stage_in settings (Withdraws n r ∷ h) = stage_in settings h
stage_in settings (Quotes m q r ∷ h) = stage_in settings h
stage_in settings (Pulls m r ∷ h) = stage_in settings h
stage_in settings (Ticks k (Ok answer) ∷ h) = stage_by settings k.time answer (stage_in settings h)
stage_in settings (Ticks k (Err refusal) ∷ h) = stage_in settings h

-- the time of the last accepted tick, 0 before the first
abbrev pub last_in : List Event → ℕ
last_in [] = 0
last_in (Enters o r ∷ h) = last_in h
last_in (Withdraws n r ∷ h) = last_in h
last_in (Quotes m q r ∷ h) = last_in h
last_in (Pulls m r ∷ h) = last_in h
last_in (Ticks k (Ok answer) ∷ h) = k.time
last_in (Ticks k (Err refusal) ∷ h) = last_in h

-- what a call finds while the series is not open, read off the history alone
abbrev pub found_in : Settings → List Event → State
found_in settings h = record { rows = standing h; stage = stage_in settings h; last = last_in h }

-- CONTRACTS

abbrev pub size_on : Side → Quote → ℕ
size_on Buy q = q.bid_size
size_on Sell q = q.offer_size

-- the sizes that accepted enters and quotes gave a side
abbrev pub accepted : Side → List Event → ℕ
accepted side [] = 0
accepted side (Enters o (Ok size) ∷ h) = cond (same_side o.side side) size 0 + accepted side h
accepted side (Enters o (Err refusal) ∷ h) = accepted side h
accepted side (Withdraws n r ∷ h) = accepted side h
accepted side (Quotes m q (Ok back) ∷ h) = size_on side q + accepted side h
accepted side (Quotes m q (Err refusal) ∷ h) = accepted side h
accepted side (Pulls m r ∷ h) = accepted side h
accepted side (Ticks k r ∷ h) = accepted side h

-- so many contracts of a row, if it is on that side
abbrev pub back_from : Side → Option Row → ℕ → ℕ
back_from side None n = 0
back_from side (Some row) n = cond (of_side side row) n 0

-- what withdraw, quote and pull answered as taken back from a side
abbrev pub withdrawn : Side → List Event → ℕ
withdrawn side [] = 0
withdrawn side (Enters o r ∷ h) = withdrawn side h
withdrawn side (Withdraws n (Ok back) ∷ h) = back_from side (first (is_order n) (standing h)) back + withdrawn side h
withdrawn side (Withdraws n (Err refusal) ∷ h) = withdrawn side h
withdrawn side (Quotes m q (Ok back) ∷ h) = taken_back_on side back + withdrawn side h
withdrawn side (Quotes m q (Err refusal) ∷ h) = withdrawn side h
withdrawn side (Pulls m (Ok back) ∷ h) = taken_back_on side back + withdrawn side h
withdrawn side (Pulls m (Err refusal) ∷ h) = withdrawn side h
withdrawn side (Ticks k r ∷ h) = withdrawn side h

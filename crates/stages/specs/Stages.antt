-- Stages and their deadlines.
use Rattle.std.specs.Prelude.{ℕ, zero, suc, ◌+◌, ◌-◌, Bool, true, false, nat_le}
use Rattle.stages.specs.declared.settings.Settings.{Settings}
use Rattle.stages.specs.declared.stage.Stage.{Stage}
use Rattle.stages.specs.declared.stage.Stage.TheVariants.{Waiting, Gathering, Routing, Extra, Open}
use Rattle.stages.specs.declared.stage.TickAnswer.{TickAnswer}
use Rattle.stages.specs.declared.stage.TickAnswer.TheVariants.{Waits, Holds, Message, Opened}

abbrev pub is_open : Stage → Bool
is_open Waiting = false
is_open (Gathering deadline left) = false
is_open (Routing deadline left) = false
is_open (Extra deadline left) = false
is_open Open = true

-- the deadline has come: from it on, and not before
abbrev pub due : Stage → ℕ → Bool
due Waiting time = false
due (Gathering deadline left) time = nat_le deadline time
due (Routing deadline left) time = nat_le deadline time
due (Extra deadline left) time = nat_le deadline time
due Open time = false

-- the extra messages left
abbrev pub left_of : Stage → ℕ
left_of Waiting = 0
left_of (Gathering deadline left) = left
left_of (Routing deadline left) = left
left_of (Extra deadline left) = left
left_of Open = 0

-- after message 1 gathering, with all extra messages; after message 2 routing; after a later one, with one less, extra
abbrev pub stage_after : Settings → ℕ → ℕ → Stage → Stage
stage_after settings time zero before = before
stage_after settings time (suc zero) before = Gathering (time + settings.imbalance) settings.extra
stage_after settings time (suc (suc zero)) before = Routing (time + settings.route) (left_of before)
stage_after settings time (suc (suc (suc n))) before = Extra (time + settings.imbalance) (left_of before - 1)

-- the stage to which a message moves an auction, by the stage that it is in
abbrev pub next_stage : Settings → ℕ → Stage → Stage
next_stage settings time Waiting = Gathering (time + settings.imbalance) settings.extra
next_stage settings time (Gathering deadline left) = Routing (time + settings.route) left
next_stage settings time (Routing deadline left) = Extra (time + settings.imbalance) (left - 1)
next_stage settings time (Extra deadline left) = Extra (time + settings.imbalance) (left - 1)
next_stage settings time Open = Open

-- the stage that a tick's answer leaves
abbrev pub stage_by : Settings → ℕ → TickAnswer → Stage → Stage
stage_by settings time (Waits reason) before = Waiting
stage_by settings time Holds before = before
stage_by settings time (Message m) before = stage_after settings time m.number before
stage_by settings time (Opened report) before = Open

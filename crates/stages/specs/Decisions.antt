-- What a tick decides, by the stage that it finds and whether its deadline has come.
use Rattle.std.specs.Prelude.{ℕ, ◌+◌, ◌-◌, Bool, true, false, cond, Some, None, Option, ◌==◌}
use Rattle.ranges.specs.declared.Range.{Range}
use Rattle.pricing.specs.declared.search.Choice.{Choice}
use Rattle.clearing.specs.declared.opening.Kind.TheVariants.{Routed}
use Rattle.clearing.specs.declared.opening.Opening.{Opening}
use Rattle.stages.specs.declared.settings.Settings.{Settings}
use Rattle.stages.specs.declared.waits.Reason.{Reason}
use Rattle.stages.specs.declared.stage.Stage.{Stage}
use Rattle.stages.specs.declared.stage.Stage.TheVariants as stage
use Rattle.stages.specs.declared.stage.Decision.{Decision}
use Rattle.stages.specs.declared.stage.Decision.TheVariants.{Wait, Hold, Tell, Open}
use Rattle.stages.specs.Messages.{message_of}
use Rattle.pricing.specs.Scenes.{Scene}
use Rattle.stages.specs.Looks.{range_of, routing_choice, quoted_choice, cleanly, exchange_opening, forced_opening, at_once}

-- an opening that is due, or else
abbrev pub opens_or : Option Opening → Decision → Decision
opens_or None other = other
opens_or (Some o) other = Open o

-- past the deadline of routing or an extra stage: kind 4, else the next message while extra ones are left, else forced
abbrev pub last_call : ℕ → ℕ → Range → Option Choice → Decision
last_call extra left range c = opens_or (cleanly Routed range c) (cond (left == 0) (Open (forced_opening range c)) (Tell (message_of (3 + (extra - left)) c)))

abbrev pub decision_by : Settings → Scene → Stage → Bool → Decision
decision_by settings x stage.Waiting come = opens_or (at_once x) (Tell (message_of 1 (quoted_choice x)))
decision_by settings x (stage.Gathering deadline left) false = opens_or (exchange_opening x) Hold
decision_by settings x (stage.Gathering deadline left) true = opens_or (exchange_opening x) (Tell (message_of 2 (routing_choice x)))
decision_by settings x (stage.Routing deadline left) false = opens_or (exchange_opening x) Hold
decision_by settings x (stage.Routing deadline left) true = opens_or (exchange_opening x) (last_call settings.extra left (range_of x.rows x.shown) (routing_choice x))
decision_by settings x (stage.Extra deadline left) false = opens_or (exchange_opening x) Hold
decision_by settings x (stage.Extra deadline left) true = opens_or (exchange_opening x) (last_call settings.extra left (range_of x.rows x.shown) (routing_choice x))
decision_by settings x stage.Open come = Hold

-- a reason to wait comes before all else
abbrev pub waits_or : Option Reason → Decision → Decision
waits_or None other = other
waits_or (Some reason) other = Wait reason

-- What the auction does itself: the first causes to refuse an order, and the stage that a decision leaves.
use Rattle.std.specs.Prelude.{ℕ, Bool, cond, not, Some, None, Option, ◌==◌}
use Rattle.interest.specs.Bounds.{sized}
use Rattle.interest.specs.declared.Refusal.{Refusal}
use Rattle.interest.specs.declared.Refusal.TheVariants.{NumberOutOfBounds, SizeOutOfBounds, PriceNotPermitted}
use Rattle.book.specs.declared.row.Order.{Order}
use Rattle.runs.specs.Steps.{permitted_limit}
use Rattle.stages.specs.declared.settings.Settings.{Settings}
use Rattle.stages.specs.declared.stage.Stage.{Stage}
use Rattle.stages.specs.declared.stage.Stage.TheVariants as stage
use Rattle.stages.specs.declared.stage.Decision.{Decision}
use Rattle.stages.specs.declared.stage.Decision.TheVariants.{Wait, Hold, Tell, Open}
use Rattle.stages.specs.Stages.{next_stage}

-- the causes that lie in an order itself; those that lie in the rows come after them
abbrev pub order_cause : (ℕ → Bool) → Order → Option Refusal
order_cause permitted o =
    cond (o.number == 0) (Some NumberOutOfBounds)
    (cond (not (sized o.size)) (Some SizeOutOfBounds)
    (cond (not (permitted_limit permitted o.limit)) (Some PriceNotPermitted)
    None))

abbrev pub stage_acted : Settings → ℕ → Decision → Stage → Stage
stage_acted settings time (Wait reason) before = stage.Waiting
stage_acted settings time Hold before = before
stage_acted settings time (Tell message) before = next_stage settings time before
stage_acted settings time (Open o) before = stage.Open

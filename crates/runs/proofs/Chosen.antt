-- Where a tick decides to open with a price, that price is the best of its range for the kind of opening.
use Rattle.std.proofs.Common.{◌≡◌, ℕ, suc, ◌-◌, Bool, true, false, ◌&&◌, eqb, Some, None, Option, refl, arith}
use Rattle.std.proofs.lemmas.Bool.{cond_both}
use Rattle.ranges.specs.declared.Range.{Range}
use Rattle.pricing.specs.declared.search.Choice.{Choice}
use Rattle.pricing.specs.declared.figures.Mode.{Mode}
use Rattle.pricing.specs.declared.figures.Mode.TheVariants as mode
use Rattle.pricing.specs.Prices.{opening}
use Rattle.pricing.specs.Choosing.{price_of}
use Rattle.pricing.specs.Best.{Best, Chosen}
use Rattle.pricing.proofs.Slopes.{Worsens}
use Rattle.pricing.proofs.Walks.{Within}
use Rattle.pricing.proofs.Bests.{told-best}
use Rattle.clearing.specs.declared.opening.Kind.{Kind}
use Rattle.clearing.specs.declared.opening.Kind.TheVariants as kind
use Rattle.clearing.specs.declared.opening.Opening.{Opening}
use Rattle.stages.specs.declared.settings.Settings.{Settings}
use Rattle.stages.specs.declared.waits.Reason.{Reason}
use Rattle.stages.specs.declared.stage.Stage.{Stage}
use Rattle.stages.specs.declared.stage.Stage.TheVariants as stage
use Rattle.stages.specs.declared.stage.Decision.{Decision}
use Rattle.stages.specs.declared.stage.Decision.TheVariants.{Wait, Hold, Tell, Open}
use Rattle.stages.specs.Messages.{message_of}
use Rattle.pricing.specs.Scenes.{Scene, chosen_in}
use Rattle.stages.specs.Looks.{range_of, quotes_of, away_of, routing_choice, quoted_choice, opening_at, cleanly, exchange_opening, forced_opening, crossable, plainly, plain_opening, quick_at, quick_in, quick_opening, at_once}
use Rattle.stages.specs.Decisions.{opens_or, last_call, decision_by, waits_or}
use Rattle.ranges.specs.Ranges.{quick_range}
use Rattle.pricing.specs.Best.{crossing}
use Rattle.runs.specs.Laws.{mode_of}

-- an opening at p by a choice that is best
pub record ChosenAt (x : Scene) (o : Opening) (p : ℕ) : Type 0 where
  pub choice : Choice
  pub price : choice.price ≡ p
  pub volume : choice.volume ≡ o.volume
  pub best : Best x.permitted (opening x.rows x.shown (mode_of o.kind)) o.range.low o.range.high choice

abbrev pub Fair : Scene → Opening → Type 0
Fair x o = (p : ℕ) → o.price ≡ Some p → ChosenAt x o p

abbrev pub FairIf : Scene → Option Opening → Type 0
FairIf x None = Unit {0}
FairIf x (Some o) = Fair x o

abbrev pub FairDecision : Scene → Decision → Type 0
FairDecision x (Wait reason) = Unit {0}
FairDecision x Hold = Unit {0}
FairDecision x (Tell message) = Unit {0}
FairDecision x (Open o) = Fair x o

fair-opens : (x : Scene) (o : Option Opening) (d : Decision) → FairIf x o → FairDecision x d → FairDecision x (opens_or o d)
fair-opens x None d a b = b
fair-opens x (Some o) d a b = a

pub fair-waits : (x : Scene) (w : Option Reason) (d : Decision) → FairDecision x d → FairDecision x (waits_or w d)
fair-waits x None d b = b
fair-waits x (Some reason) d b = tt

fair-no-price : (x : Scene) (o : Opening) → o.price ≡ None → Fair x o
fair-no-price x o none = λ p e. let z : ◌≡◌ {A = ℕ} 0 1 = cc in absurd (omega arith)

-- a choice in a range, for a kind that goes by its mode
module _ (x : Scene) (worsens : Worsens x.shown) (within : Within x.permitted) where
  chosen : (m : Mode) (range : Range) → Chosen x.permitted (opening x.rows x.shown m) range.low range.high (chosen_in x m range)
  chosen m range = told-best x.permitted (opening x.rows x.shown m) range.low range.high x.close worsens within (price_of x.permitted (opening x.rows x.shown m) range.low (suc range.high - range.low) x.close) refl

  fair-at : (k : Kind) (range : Range) (c : Choice) → Best x.permitted (opening x.rows x.shown (mode_of k)) range.low range.high c → Fair x (opening_at k range c)
  fair-at k range c best = λ p e. let same : c.price ≡ p = cc in record { choice = c; price = same; volume = refl; best = best }

  fair-cleanly : (k : Kind) (range : Range) (c : Option Choice) → Chosen x.permitted (opening x.rows x.shown (mode_of k)) range.low range.high c → FairIf x (cleanly k range c)
  fair-cleanly k range None best = tt
  fair-cleanly k range (Some c) best = cond_both (eqb c.through 0) (Some (opening_at k range c)) None (FairIf x) (λ _. fair-at k range c best) (λ _. tt)

  fair-forced : (range : Range) (c : Option Choice) → Chosen x.permitted (opening x.rows x.shown mode.Routing) range.low range.high c → Fair x (forced_opening range c)
  fair-forced range None best = fair-no-price x (forced_opening range None) refl
  fair-forced range (Some c) best = fair-at kind.Forced range c best

  fair-quick-at : (range : Range) (c : Option Choice) → Chosen x.permitted (opening x.rows x.shown mode.Exchange) range.low range.high c → FairIf x (quick_at x range c)
  fair-quick-at range None best = tt
  fair-quick-at range (Some c) best = cond_both (eqb (crossing x.rows c.price) (crossable x.permitted x.rows) && eqb c.through 0) (Some (opening_at kind.Quick range c)) None (FairIf x) (λ _. fair-at kind.Quick range c best) (λ _. tt)

  fair-quick-in : (range : Option Range) → FairIf x (quick_in x range)
  fair-quick-in None = tt
  fair-quick-in (Some range) = fair-quick-at range (chosen_in x mode.Exchange range) (chosen mode.Exchange range)

  fair-at-once : FairIf x (at_once x)
  fair-at-once = cond_both (plainly x) (Some plain_opening) (quick_opening x) (FairIf x) (λ _. fair-no-price x plain_opening refl) (λ _. fair-quick-in (quick_range (quotes_of x.rows) (away_of x.shown)))

  fair-exchange : FairIf x (exchange_opening x)
  fair-exchange = fair-cleanly kind.Exchange (range_of x.rows x.shown) (chosen_in x mode.Exchange (range_of x.rows x.shown)) (chosen mode.Exchange (range_of x.rows x.shown))

  fair-last : (extra left : ℕ) → FairDecision x (last_call extra left (range_of x.rows x.shown) (routing_choice x))
  fair-last extra left =
      let range = range_of x.rows x.shown in
      let best = chosen mode.Routing range in
      fair-opens x (cleanly kind.Routed range (routing_choice x)) _ (fair-cleanly kind.Routed range (routing_choice x) best)
      (cond_both (eqb left 0) (Open (forced_opening range (routing_choice x))) (Tell (message_of _ (routing_choice x))) (FairDecision x) (λ _. fair-forced range (routing_choice x) best) (λ _. tt))

  pub fair-decision : (settings : Settings) (at : Stage) (come : Bool) → FairDecision x (decision_by settings x at come)
  fair-decision settings stage.Waiting come = fair-opens x (at_once x) (Tell (message_of 1 (quoted_choice x))) fair-at-once tt
  fair-decision settings (stage.Gathering deadline left) false = fair-opens x (exchange_opening x) Hold fair-exchange tt
  fair-decision settings (stage.Gathering deadline left) true = fair-opens x (exchange_opening x) (Tell (message_of 2 (routing_choice x))) fair-exchange tt
  fair-decision settings (stage.Routing deadline left) false = fair-opens x (exchange_opening x) Hold fair-exchange tt
  fair-decision settings (stage.Routing deadline left) true = fair-opens x (exchange_opening x) _ fair-exchange (fair-last settings.extra left)
  fair-decision settings (stage.Extra deadline left) false = fair-opens x (exchange_opening x) Hold fair-exchange tt
  fair-decision settings (stage.Extra deadline left) true = fair-opens x (exchange_opening x) _ fair-exchange (fair-last settings.extra left)
  fair-decision settings stage.Open come = tt

-- The stage to which an auction moves itself is the one that its answer tells.
use Rattle.std.proofs.Common.{◌≡◌, ℕ, suc, ◌+◌, ◌-◌, Bool, true, false, eqb, List, ◌∷◌, Some, None, Ok, Err, Option, Result, sym, refl, ap, ◌∙◌, subst, inl, inr, arith}
use Rattle.std.proofs.lemmas.Bool.{cases_Bool, cond-true, cond-false}
use Rattle.interest.specs.declared.Side.{Side}
use Rattle.interest.specs.Sides.{opposite}
use Rattle.interest.specs.declared.Refusal.{Refusal}
use Rattle.sharing.specs.declared.level.Holding.{Holding}
use Rattle.book.specs.declared.row.Row.{Row}
use Rattle.book.specs.Edits.{answered}
use Rattle.ranges.specs.declared.Range.{Range}
use Rattle.pricing.specs.declared.search.Choice.{Choice}
use Rattle.clearing.specs.declared.opening.Kind.TheVariants.{Routed}
use Rattle.clearing.specs.declared.opening.Opening.{Opening}
use Rattle.clearing.specs.Openings.{routed_on, counts_left}
use Rattle.stages.specs.declared.settings.Settings.{Settings}
use Rattle.stages.specs.declared.waits.Reason.{Reason}
use Rattle.stages.specs.declared.messages.Message.{Message}
use Rattle.stages.specs.declared.stage.Stage.{Stage}
use Rattle.stages.specs.declared.stage.Stage.TheVariants as stage
use Rattle.stages.specs.declared.stage.TickAnswer.{TickAnswer}
use Rattle.stages.specs.declared.stage.Decision.{Decision}
use Rattle.stages.specs.declared.stage.Decision.TheVariants.{Wait, Hold, Tell, Open}
use Rattle.stages.specs.Stages.{due, stage_after, next_stage, stage_by}
use Rattle.stages.specs.Waits.{reason_to_wait}
use Rattle.stages.specs.Messages.{message_of}
use Rattle.pricing.specs.Scenes.{Scene, scene}
use Rattle.stages.specs.Looks.{range_of, routing_choice, quoted_choice, cleanly, exchange_opening, forced_opening, at_once}
use Rattle.stages.specs.Decisions.{opens_or, last_call, decision_by, waits_or}
use Rattle.runs.specs.States.{Terms, State}
use Rattle.runs.specs.Ticks.{Tick, Worsening, tick_cause, decision_at, rows_by, told_by, CarriedBy, Ticked}
use Rattle.runs.specs.Histories.{Event}
use Rattle.runs.specs.Laws.{Run, Step}
use Rattle.runs.specs.Laws.Run.{next}
use Rattle.auction.specs.declared.auction.Auction.{Auction}
use Rattle.auction.specs.Auctions.{view, terms_of, Kept, Reached}
use Rattle.auction.specs.Acts.{stage_acted}

-- the number of a message, and no number where there is none
abbrev told : Decision → ℕ
told (Wait reason) = 0
told Hold = 0
told (Tell m) = m.number
told (Open o) = 0

abbrev tells : Decision → ℕ
tells (Wait reason) = 0
tells Hold = 0
tells (Tell m) = 1
tells (Open o) = 0

numbered : (n : ℕ) (c : Option Choice) → (message_of n c).number ≡ n
numbered n None = refl
numbered n (Some c) = refl

-- a message comes only where nothing opens
past-opening : (o : Option Opening) (other : Decision) (m : Message) → opens_or o other ≡ Tell m → other ≡ Tell m
past-opening None other m e = e
past-opening (Some o) other m e = absurd (let z : ◌≡◌ {A = ℕ} 0 1 = ap tells e in omega arith)

past-wait : (r : Option Reason) (other : Decision) (m : Message) → waits_or r other ≡ Tell m → other ≡ Tell m
past-wait None other m e = e
past-wait (Some r) other m e = absurd (let z : ◌≡◌ {A = ℕ} 0 1 = ap tells e in omega arith)

told_is : (n : ℕ) (c : Option Choice) (m : Message) → Tell (message_of n c) ≡ Tell m → n ≡ m.number
told_is n c m e = sym (numbered n c) ∙ ap told e

hold-tells : (m : Message) → Hold ≡ Tell m → ⊥
hold-tells m e = let z : ◌≡◌ {A = ℕ} 0 1 = ap tells e in omega arith

last-told : (extra left : ℕ) (range : Range) (c : Option Choice) (m : Message) → last_call extra left range c ≡ Tell m → suc (suc (suc (extra - left))) ≡ m.number
last-told extra left range c m e =
    let rest = past-opening (cleanly Routed range c) _ m e in
    elim (cases_Bool (eqb left 0)) [
      | inl z ↦ absurd (let w : ◌≡◌ {A = ℕ} 0 1 = ap tells (sym (cond-true (eqb left 0) (Open (forced_opening range c)) (Tell (message_of (3 + (extra - left)) c)) z) ∙ rest) in omega arith)
      | inr nz ↦ (let n = told_is (3 + (extra - left)) c m (sym (cond-false (eqb left 0) (Open (forced_opening range c)) (Tell (message_of (3 + (extra - left)) c)) nz) ∙ rest) in omega arith)
    ]

moved : (settings : Settings) (time : ℕ) (x : Scene) (s : Stage) (come : Bool) (m : Message) → decision_by settings x s come ≡ Tell m → next_stage settings time s ≡ stage_after settings time m.number s
moved settings time x stage.Waiting come m e = ap (λ (n : ℕ). stage_after settings time n stage.Waiting) (told_is 1 (quoted_choice x) m (past-opening (at_once x) _ m e))
moved settings time x (stage.Gathering d l) false m e = absurd (hold-tells m (past-opening (exchange_opening x) Hold m e))
moved settings time x (stage.Gathering d l) true m e = ap (λ (n : ℕ). stage_after settings time n (stage.Gathering d l)) (told_is 2 (routing_choice x) m (past-opening (exchange_opening x) _ m e))
moved settings time x (stage.Routing d l) false m e = absurd (hold-tells m (past-opening (exchange_opening x) Hold m e))
moved settings time x (stage.Routing d l) true m e = ap (λ (n : ℕ). stage_after settings time n (stage.Routing d l)) (last-told settings.extra l (range_of x.rows x.shown) (routing_choice x) m (past-opening (exchange_opening x) _ m e))
moved settings time x (stage.Extra d l) false m e = absurd (hold-tells m (past-opening (exchange_opening x) Hold m e))
moved settings time x (stage.Extra d l) true m e = ap (λ (n : ℕ). stage_after settings time n (stage.Extra d l)) (last-told settings.extra l (range_of x.rows x.shown) (routing_choice x) m (past-opening (exchange_opening x) _ m e))
moved settings time x stage.Open come m e = absurd (hold-tells m e)

stage-told : (terms : Terms) (s : State) (k : Tick) (left : List Row) (d : Decision) → d ≡ decision_at terms s k → stage_acted terms.settings k.time d s.stage ≡ stage_by terms.settings k.time (told_by d left) s.stage
stage-told terms s k left (Wait reason) e = refl
stage-told terms s k left Hold e = refl
stage-told terms s k left (Tell m) e = moved terms.settings k.time (scene terms.permitted terms.settings.close s.rows k.before) s.stage (due s.stage k.time) m (past-wait (reason_to_wait terms.settings s.rows k.before k.time k.underlying) _ m (sym e))
stage-told terms s k left (Open o) e = refl

-- an answer that tells only whether there is a cause
abbrev pub passed : Result (Unit {0}) Refusal
passed = Ok tt

abbrev pub checked : Option Refusal → Result (Unit {0}) Refusal
checked v = answered v tt

pub no-cause : (v : Option Refusal) → passed ≡ checked v → v ≡ None
no-cause None e = refl
no-cause (Some refusal) e = absurd (let z : ◌≡◌ {A = ℕ} 0 1 = cc in omega arith)

pub one-cause : (v : Option Refusal) (refusal : Refusal) → Err refusal ≡ checked v → v ≡ Some refusal
one-cause None refusal e = absurd (let z : ◌≡◌ {A = ℕ} 0 1 = cc in omega arith)
one-cause (Some other) refusal e = let same : other ≡ refusal = cc in ap Some same

unsent : (n m : ℕ) → n ≡ n - (m - m)
unsent n m = omega arith

-- a tick that is refused
pub tick-refused : (terms : Terms) (s t : State) (k : Tick) (r : Result TickAnswer Refusal) (refusal : Refusal) → r ≡ Err refusal → Worsening k.before → Err refusal ≡ checked (tick_cause s k.time k.underlying) → t ≡ s → ((side : Side) (q : ℕ) → k.after side q ≡ k.before side q) → Ticked terms s k r t
tick-refused terms s t k r refusal is shown e stays same = subst (λ (x : Result TickAnswer Refusal). Ticked terms s k x t) (sym is) (record {
  shown = shown;
  answer = ap (λ (w : Option Refusal). answered w (told_by (decision_at terms s k) (rows_by terms k.before (decision_at terms s k) s.rows))) (sym (one-cause (tick_cause s k.time k.underlying) refusal e));
  state = stays;
  counts = λ side q. same side q ∙ unsent (k.before side q) (routed_on (opposite side) s.rows) ∙ ap (λ (u : State). counts_left k.before s.rows u.rows side q) (sym stays);
  carried = tt;
})

pub same-state : (r r' : List Row) (x x' : Stage) (n n' : ℕ) → r ≡ r' → x ≡ x' → n ≡ n' → ◌≡◌ {A = State} (record { rows = r; stage = x; last = n }) (record { rows = r'; stage = x'; last = n' })
same-state r r' x x' n n' er ex en = cc

-- a tick that does what was decided
tick-done : (terms : Terms) (s : State) (k : Tick) (d : Decision) (answer : TickAnswer) (left : List Row) (moved_to : Stage) (last : ℕ) → Worsening k.before → passed ≡ checked (tick_cause s k.time k.underlying) → d ≡ decision_at terms s k → answer ≡ told_by d left → left ≡ rows_by terms k.before d s.rows → moved_to ≡ stage_acted terms.settings k.time d s.stage → last ≡ k.time
    → ((side : Side) (q : ℕ) → k.after side q ≡ counts_left k.before s.rows left side q) → CarriedBy d k s.rows left → Ticked terms s k (Ok answer) (record { rows = left; stage = moved_to; last = last })
tick-done terms s k d answer left moved_to last shown none-told is told rows moved at counts carried =
    let none = no-cause (tick_cause s k.time k.underlying) none-told in
    let all : left ≡ rows_by terms k.before (decision_at terms s k) s.rows = rows ∙ ap (λ (e : Decision). rows_by terms k.before e s.rows) is in
    let by : moved_to ≡ stage_by terms.settings k.time answer s.stage = moved ∙ stage-told terms s k left d is ∙ ap (λ (a : TickAnswer). stage_by terms.settings k.time a s.stage) (sym told) in
    record {
      shown = shown;
      answer = ap Ok (told ∙ ap (told_by d) all ∙ ap (λ (e : Decision). told_by e (rows_by terms k.before (decision_at terms s k) s.rows)) is) ∙ ap (λ (w : Option Refusal). answered w (told_by (decision_at terms s k) (rows_by terms k.before (decision_at terms s k) s.rows))) (sym none);
      state = same-state left _ moved_to _ last k.time all by at;
      counts = counts;
      carried = subst (λ (e : Decision). CarriedBy e k s.rows left) is carried;
    }

-- the same, where the clock has moved before it is decided
pub tick-after : (terms terms' : Terms) (s s' : State) (k : Tick) (d : Decision) (answer : TickAnswer) (left : List Row) (moved_to : Stage) (last : ℕ) → terms' ≡ terms → s'.rows ≡ s.rows → s'.stage ≡ s.stage → Worsening k.before → passed ≡ checked (tick_cause s k.time k.underlying) → d ≡ decision_at terms' s' k → answer ≡ told_by d left → left ≡ rows_by terms' k.before d s'.rows → moved_to ≡ stage_acted terms'.settings k.time d s'.stage → last ≡ k.time
    → ((side : Side) (q : ℕ) → k.after side q ≡ counts_left k.before s'.rows left side q) → CarriedBy d k s'.rows left → Ticked terms s k (Ok answer) (record { rows = left; stage = moved_to; last = last })
tick-after terms terms' s s' k d answer left moved_to last et er es shown none is told rows moved at counts carried =
    tick-done terms s k d answer left moved_to last shown none
    (is ∙ ap (λ (t : Terms). decision_at t s' k) et ∙ ap (λ (rs : List Row). found rs s'.stage) er ∙ ap (found s.rows) es)
    told
    (rows ∙ ap (λ (t : Terms). rows_by t k.before d s'.rows) et ∙ ap (rows_by terms k.before d) er)
    (moved ∙ ap (λ (t : Terms). stage_acted t.settings k.time d s'.stage) et ∙ ap (stage_acted terms.settings k.time d) es)
    at
    (λ side q. counts side q ∙ ap (λ (rs : List Row). counts_left k.before rs left side q) er)
    (subst (λ (rs : List Row). CarriedBy d k rs left) er carried)
  where
    found : List Row → Stage → Decision
    found rs x = decision_at terms (record { rows = rs; stage = x; last = 0 }) k

pub same-terms : (p p' : ℕ → Bool) (f f' : ℕ → List Holding → List ℕ) (x x' : Settings) → p ≡ p' → f ≡ f' → x ≡ x' → ◌≡◌ {A = Terms} (record { permitted = p; shares = f; settings = x }) (record { permitted = p'; shares = f'; settings = x' })
same-terms p p' f f' x x' ep ef ex = cc

-- a step that changes nothing of what an auction goes by extends every run that led to it
pub extends : {L R : Type 0} (permitted : L → ℕ → Bool) (shares : R → ℕ → List Holding → List ℕ) (a b : Auction L R) (e : Event) → Kept a b → Step (terms_of permitted shares a) (view a) e (view b) → (h : List Event) → Reached permitted shares h a → Reached permitted shares (e ∷ h) b
extends permitted shares a b e kept step h run = subst (λ (t : Terms). Run t (e ∷ h) (view b)) (same-terms _ _ _ _ _ _ (ap permitted (sym kept.ladder)) (ap shares (sym kept.rule)) (sym kept.settings)) (next run step)

-- The law over whole runs.
use Rattle.std.specs.Prelude.{◌≡◌, ℕ, ◌+◌, ◌-◌, ◌<◌, ◌≤◌, Bool, true, false, cond, List, [], ◌∷◌, Some, None, Ok, Err, Result}
use Rattle.interest.specs.declared.Side.{Side}
use Rattle.interest.specs.declared.Side.TheVariants.{Buy, Sell}
use Rattle.interest.specs.Sides.{opposite}
use Rattle.interest.specs.declared.Refusal.{Refusal}
use Rattle.market.specs.Counts.{Better}
use Rattle.book.specs.declared.row.Row.{Row}
use Rattle.book.specs.declared.row.Order.{Order}
use Rattle.book.specs.declared.row.Quote.{Quote}
use Rattle.book.specs.declared.row.TakenBack.{TakenBack}
use Rattle.book.specs.Ranks.{of_side, total_of}
use Rattle.book.specs.Rewrites.{SameRows}
use Rattle.pricing.specs.declared.figures.Mode.{Mode}
use Rattle.pricing.specs.declared.figures.Mode.TheVariants as mode
use Rattle.pricing.specs.Prices.{opening, usable_at, volume_at}
use Rattle.clearing.specs.declared.opening.Kind.{Kind}
use Rattle.clearing.specs.declared.opening.Report.{Report}
use Rattle.clearing.specs.Kinds.{routes}
use Rattle.clearing.specs.Openings.{traded_on, routed_on, cancelled_on}
use Rattle.stages.specs.declared.stage.TickAnswer.{TickAnswer}
use Rattle.stages.specs.declared.stage.TickAnswer.TheVariants.{Waits, Holds, Message, Opened}
use Rattle.stages.specs.Stages.{is_open}
use Rattle.runs.specs.States.{Terms, State, start}
use Rattle.runs.specs.Steps.{Entered, Withdrew, Quoted, Pulled, enter_answer, withdraw_answer, quote_answer, pull_answer}
use Rattle.runs.specs.Ticks.{Tick, Ticked, tick_answer}
use Rattle.runs.specs.Histories.{Event, standing, stage_in, last_in, found_in, accepted, withdrawn}
use Rattle.runs.specs.Histories.Event.{Enters, Withdraws, Quotes, Pulls, Ticks}

-- RUNS

-- one call, with its answer, leads from a state to a state: by just what its contract ensures
pub data Step (terms : Terms) (s : State) : Event → State → Type 0 where
  entered : {t : State} {o : Order} {r : Result ℕ Refusal} → Entered terms s o r t → Step terms s (Enters o r) t
  withdrew : {t : State} {n : ℕ} {r : Result ℕ Refusal} → Withdrew s n r t → Step terms s (Withdraws n r) t
  quoted : {t : State} {m : ℕ} {q : Quote} {r : Result TakenBack Refusal} → Quoted terms s m q r t → Step terms s (Quotes m q r) t
  pulled : {t : State} {m : ℕ} {r : Result TakenBack Refusal} → Pulled s m r t → Step terms s (Pulls m r) t
  ticked : {t : State} {k : Tick} {r : Result TickAnswer Refusal} → Ticked terms s k r t → Step terms s (Ticks k r) t

-- the calls that lead from a new auction to a state; each finds what the one before it left
pub data Run (terms : Terms) : List Event → State → Type 0 where
  made : Run terms [] start
  next : {h : List Event} {s t : State} {e : Event} → Run terms h s → Step terms s e t → Run terms (e ∷ h) t

-- WHAT IS ANSWERED

-- a tick that does not open leaves the away market as it was
abbrev pub Untouched : Tick → Result TickAnswer Refusal → Type 0
Untouched k (Ok (Waits reason)) = (side : Side) (q : ℕ) → k.after side q ≡ k.before side q
Untouched k (Ok Holds) = (side : Side) (q : ℕ) → k.after side q ≡ k.before side q
Untouched k (Ok (Message message)) = (side : Side) (q : ℕ) → k.after side q ≡ k.before side q
Untouched k (Ok (Opened report)) = Unit {0}
Untouched k (Err refusal) = (side : Side) (q : ℕ) → k.after side q ≡ k.before side q

-- every call answered as the rules say, for the rows that stood, the stage and the last tick's time as the history before it tells them
abbrev pub Answered : Terms → List Event → Type 0
Answered terms [] = Unit {0}
Answered terms (Enters o r ∷ h) = (r ≡ enter_answer terms (found_in terms.settings h) o) × Answered terms h
Answered terms (Withdraws n r ∷ h) = (r ≡ withdraw_answer (found_in terms.settings h) n) × Answered terms h
Answered terms (Quotes m q r ∷ h) = (r ≡ quote_answer terms (found_in terms.settings h) m q) × Answered terms h
Answered terms (Pulls m r ∷ h) = (r ≡ pull_answer (found_in terms.settings h) m) × Answered terms h
Answered terms (Ticks k r ∷ h) = (r ≡ tick_answer terms (found_in terms.settings h) k) × Untouched k r × Answered terms h

-- OPENINGS

abbrev pub mode_of : Kind → Mode
mode_of kind = cond (routes kind) mode.Routing mode.Exchange

-- an opening with a trade at p, over the rows found and the rows left
pub record Trade (terms : Terms) (k : Tick) (report : Report) (p : ℕ) (found left : List Row) : Type 0 where
  -- each side trades the volume
  pub volume : (side : Side) → traded_on side left ≡ report.volume
  pub some : 0 < report.volume
  -- the price is permitted, in the range, usable, and has just that volume
  pub on_ladder : terms.permitted p ≡ true
  pub from_low : report.range.low ≤ p
  pub to_high : p ≤ report.range.high
  pub usable : usable_at (opening found k.before (mode_of report.kind)) p ≡ true
  pub exact : volume_at (opening found k.before (mode_of report.kind)) p ≡ report.volume
  -- no permitted price of the range that is usable has more
  pub most : (q : ℕ) → report.range.low ≤ q → q ≤ report.range.high → terms.permitted q ≡ true → usable_at (opening found k.before (mode_of report.kind)) q ≡ true → volume_at (opening found k.before (mode_of report.kind)) q ≤ report.volume
  -- the away market shows nothing better than the price
  pub nothing_better : (side : Side) (q : ℕ) → Better side q p → k.after side q ≡ 0

-- an opening, with or without a trade
pub record Opens (terms : Terms) (k : Tick) (report : Report) (found left : List Row) : Type 0 where
  -- the rows are the same interest, each contract in one of four places
  pub same : SameRows found left
  -- what is reported as routed and cancelled is what reading the rows answers, added up
  pub routed_buys : report.buys.routed ≡ routed_on Buy left
  pub routed_sells : report.sells.routed ≡ routed_on Sell left
  pub cancelled_buys : report.buys.cancelled ≡ cancelled_on Buy left
  pub cancelled_sells : report.sells.cancelled ≡ cancelled_on Sell left
  -- away counts are those before less what the rows of the other side sent, never below 0
  pub away : (side : Side) (q : ℕ) → k.after side q ≡ k.before side q - routed_on (opposite side) left
  -- without a price nothing trades
  pub untraded : report.price ≡ None → (side : Side) → traded_on side left ≡ 0
  -- with a price
  pub trade : (p : ℕ) → report.price ≡ Some p → Trade terms k report p found left

-- the opening of a history, over the rows that are now there
abbrev pub Opening : Terms → List Event → List Row → Type 0
Opening terms [] left = ⊥
Opening terms (Enters o r ∷ h) left = Opening terms h left
Opening terms (Withdraws n r ∷ h) left = Opening terms h left
Opening terms (Quotes m q r ∷ h) left = Opening terms h left
Opening terms (Pulls m r ∷ h) left = Opening terms h left
Opening terms (Ticks k (Ok (Waits reason)) ∷ h) left = Opening terms h left
Opening terms (Ticks k (Ok Holds) ∷ h) left = Opening terms h left
Opening terms (Ticks k (Ok (Message message)) ∷ h) left = Opening terms h left
Opening terms (Ticks k (Ok (Opened report)) ∷ h) left = Opens terms k report (standing h) left
Opening terms (Ticks k (Err refusal) ∷ h) left = Opening terms h left

-- THE LAW

abbrev pub left_on : Side → List Row → ℕ
left_on side rows = total_of (λ (r : Row). r.left) (of_side side) rows

-- of every history and the state that it leads to
pub record Law (terms : Terms) (h : List Event) (s : State) : Type 0 where
  -- what a call finds: before the opening the rows that stand, and the stage, both by the answers so far
  pub found : is_open s.stage ≡ false → s.rows ≡ standing h
  pub stage : s.stage ≡ stage_in terms.settings h
  pub last : s.last ≡ last_in h
  -- every answer was the one that the rules give
  pub answers : Answered terms h
  -- once open, how it opened, and that the rows are as the opening left them
  pub opened : is_open s.stage ≡ true → Opening terms h s.rows
  -- on each side every contract accepted was withdrawn, or is traded, routed, cancelled or left
  pub balance : (side : Side) → accepted side h ≡ withdrawn side h + (traded_on side s.rows + routed_on side s.rows + cancelled_on side s.rows + left_on side s.rows)

-- the answer is a refusal
abbrev pub is_refused : Event → Bool
is_refused (Enters o (Ok x)) = false
is_refused (Enters o (Err refusal)) = true
is_refused (Withdraws n (Ok x)) = false
is_refused (Withdraws n (Err refusal)) = true
is_refused (Quotes m q (Ok x)) = false
is_refused (Quotes m q (Err refusal)) = true
is_refused (Pulls m (Ok x)) = false
is_refused (Pulls m (Err refusal)) = true
is_refused (Ticks k (Ok x)) = false
is_refused (Ticks k (Err refusal)) = true

-- a refused call changes nothing, and an open series refuses every call
pub record Shut (terms : Terms) (s : State) : Type 0 where
  pub refused : (e : Event) (t : State) → Step terms s e t → is_refused e ≡ true → t ≡ s
  pub open_refuses : (e : Event) (t : State) → Step terms s e t → is_open s.stage ≡ true → is_refused e ≡ true

-- What every run keeps, by induction on the run.
use Rattle.std.proofs.Common.{◌≡◌, ℕ, zero, suc, ◌+◌, ◌<◌, ◌≤◌, Bool, true, false, cond, not, ◌&&◌, eqb, leb, List, ◌∷◌, Some, None, Ok, Err, Option, Result, sym, refl, ap, ◌∙◌, subst, inl, inr, arith}
use Rattle.std.specs.List.{AllByRecursion}
use Rattle.std.proofs.lemmas.Bool.{and_parts, not-false, leb-true, cond-true, cases_Bool, both_ways}
use Rattle.interest.specs.declared.Side.{Side}
use Rattle.interest.specs.declared.Refusal.{Refusal}
use Rattle.interest.specs.declared.Refusal.TheVariants.{SeriesOpen, NumberOutOfBounds}
use Rattle.interest.specs.Bounds.{maker_numbered}
use Rattle.interest.specs.Sides.{same_side, opposite}
use Rattle.book.specs.declared.row.Row.{Row}
use Rattle.book.specs.declared.row.Order.{Order}
use Rattle.book.specs.declared.row.Quote.{Quote}
use Rattle.book.specs.declared.row.TakenBack.{TakenBack}
use Rattle.book.specs.Rows.{held, is_order}
use Rattle.book.specs.Ranks.{of_side, total_of, contracts}
use Rattle.book.specs.Reads.{first, stands, is_quote_side}
use Rattle.book.specs.Edits.{order_row, added, without_order, without_quote, quoted as quoted_rows, sized_quote, answered, left_or_refused, quote_out_cause, left_of_quote}
use Rattle.book.specs.Effects.{taken_back_on}
use Rattle.book.proofs.EditFacts.{past-cause}
use Rattle.clearing.specs.Openings.{priced_only, counts_left, routed_on}
use Rattle.clearing.specs.Reports.{report_of}
use Rattle.pricing.proofs.Walks.{Within}
use Rattle.stages.specs.declared.settings.Settings.{Settings}
use Rattle.stages.specs.declared.stage.Stage.{Stage}
use Rattle.stages.specs.declared.stage.Decision.{Decision}
use Rattle.stages.specs.declared.stage.Decision.TheVariants as decision
use Rattle.stages.specs.declared.stage.TickAnswer.{TickAnswer}
use Rattle.stages.specs.declared.stage.TickAnswer.TheVariants.{Waits, Holds, Message}
use Rattle.stages.specs.Stages.{is_open, due, stage_after, stage_by}
use Rattle.pricing.specs.Scenes.{scene}
use Rattle.runs.specs.States.{Terms, State, with_rows}
use Rattle.runs.specs.Steps.{Entered, Withdrew, Quoted, Pulled, enter_cause, enter_answer, withdraw_answer, quote_cause, quote_answer, pull_answer}
use Rattle.runs.specs.Ticks.{Tick, Ticked, decision_at, rows_by, told_by, tick_answer, CarriedBy}
use Rattle.runs.specs.Histories.{Event, orders_in, quote_in, standing, stage_in, last_in, found_in, accepted, back_from, withdrawn}
use Rattle.runs.specs.Histories.Event.{Enters, Withdraws, Quotes, Pulls, Ticks}
use Rattle.runs.specs.Laws.{Step, Run, Answered, Opens, Opening}
use Rattle.runs.specs.Laws.Step.{entered, withdrew, quoted, pulled, ticked}
use Rattle.runs.specs.Laws.Run.{made, next}
use Rattle.runs.proofs.Standing.{added-standing, without-order-standing, without-quote-standing, quoted-standing}
use Rattle.runs.proofs.Sums.{Fresh, fresh-standing, fresh-left, same-held, order-back, quote-held}
use Rattle.runs.proofs.Chosen.{FairDecision, fair-waits, fair-decision}
use Rattle.runs.proofs.Openings.{opens}

-- the law, with the balance over what the rows hold
pub record Led (terms : Terms) (h : List Event) (s : State) : Type 0 where
  pub found : is_open s.stage ≡ false → s.rows ≡ standing h
  pub stage : s.stage ≡ stage_in terms.settings h
  pub last : s.last ≡ last_in h
  pub answers : Answered terms h
  pub opened : is_open s.stage ≡ true → Opening terms h s.rows
  pub balance : (side : Side) → accepted side h ≡ withdrawn side h + total_of held (of_side side) s.rows

-- WHAT AN ACCEPTED CALL TELLS

record Accepted {T : Type 0} (on : Bool) (cause : Option Refusal) (x y : T) : Type 0 where
  shut : on ≡ false
  none : cause ≡ None
  told : y ≡ x

accepted-call : {T : Type 0} (on : Bool) (cause : Option Refusal) (x y : T) → Ok y ≡ cond on (Err SeriesOpen) (answered cause x) → Accepted on cause x y
accepted-call true cause x y e = let z : ◌≡◌ {A = ℕ} 0 1 = cc in absurd (omega arith)
accepted-call false None x y e = let told : y ≡ x = cc in record { shut = refl; none = refl; told = told }
accepted-call false (Some refusal) x y e = let z : ◌≡◌ {A = ℕ} 0 1 = cc in absurd (omega arith)

accepted-tick : {T : Type 0} (on : Bool) (rest : Option Refusal) (x y : T) → Ok y ≡ answered (cond on (Some SeriesOpen) rest) x → (on ≡ false) × (y ≡ x)
accepted-tick true rest x y e = let z : ◌≡◌ {A = ℕ} 0 1 = cc in absurd (omega arith)
accepted-tick false None x y e = let told : y ≡ x = cc in (refl, told)
accepted-tick false (Some refusal) x y e = let z : ◌≡◌ {A = ℕ} 0 1 = cc in absurd (omega arith)

-- the order that is withdrawn
record TakenOut (on : Bool) (o : Option Row) (back : ℕ) : Type 0 where
  shut : on ≡ false
  row : Row
  there : o ≡ Some row
  told : back ≡ row.left

taken_out : (on nought : Bool) (o : Option Row) (back : ℕ) → Ok back ≡ cond on (Err SeriesOpen) (cond nought (Err NumberOutOfBounds) (left_or_refused o)) → TakenOut on o back
taken_out true nought o back e = let z : ◌≡◌ {A = ℕ} 0 1 = cc in absurd (omega arith)
taken_out false true o back e = let z : ◌≡◌ {A = ℕ} 0 1 = cc in absurd (omega arith)
taken_out false false None back e = let z : ◌≡◌ {A = ℕ} 0 1 = cc in absurd (omega arith)
taken_out false false (Some row) back e = let told : back ≡ row.left = cc in record { shut = refl; row = row; there = refl; told = told }

maker-low : (m : ℕ) → maker_numbered m ≡ true → 1 ≤ m
maker-low m e = leb-true 1 m (and_parts (leb 1 m) (leb m 16) e).0

maker-high : (m : ℕ) → maker_numbered m ≡ true → m < 1 + 16
maker-high m e = omega (arith, leb-true m 16 (and_parts (leb 1 m) (leb m 16) e).1)

-- a message does not open
after-shut : (settings : Settings) (time n : ℕ) (before : Stage) → is_open before ≡ false → is_open (stage_after settings time n before) ≡ false
after-shut settings time zero before e = e
after-shut settings time (suc zero) before e = refl
after-shut settings time (suc (suc zero)) before e = refl
after-shut settings time (suc (suc (suc n))) before e = refl

state-is : (s : State) (rows : List Row) (stage : Stage) (last : ℕ) → s.rows ≡ rows → s.stage ≡ stage → s.last ≡ last → ◌≡◌ {A = State} s (record { rows = rows; stage = stage; last = last })
state-is s rows stage last a b c =
    let one : ◌≡◌ {A = State} s (record { rows = rows; stage = s.stage; last = s.last }) = ap (with_rows s) a in
    let two : ◌≡◌ {A = State} (record { rows = rows; stage = s.stage; last = s.last }) (record { rows = rows; stage = stage; last = s.last }) = ap (λ (x : Stage). record { rows = rows; stage = x; last = s.last }) b in
    one ∙ two ∙ ap (λ (x : ℕ). record { rows = rows; stage = stage; last = x }) c

-- contracts taken back, and a quote for a former one
settle : (a w b c x : ℕ) {y : ℕ} → a ≡ w + b → b ≡ c + x → x ≡ y → a ≡ (y + w) + c
settle a w b c x e f g = omega arith

replace : (a w b c x n : ℕ) {y z : ℕ} → a ≡ w + b → c + x ≡ b + n → x ≡ y → n ≡ z → z + a ≡ (y + w) + c
replace a w b c x n e f g i = omega arith

-- ONE CALL MORE

module _ (terms : Terms) (h : List Event) (s : State) (l : Led terms h s) where
  same-state : is_open s.stage ≡ false → s ≡ found_in terms.settings h
  same-state shut = state-is s (standing h) (stage_in terms.settings h) (last_in h) (l.found shut) l.stage l.last

  -- an answer that an open series gives to whatever comes is the one for what the history tells
  same_answer : {X : Type 0} (F : State → X) (refused : X) → ((u : State) → is_open u.stage ≡ true → F u ≡ refused) → F s ≡ F (found_in terms.settings h)
  same_answer F refused opened = elim (cases_Bool (is_open s.stage)) [
    | inl e ↦ opened s e ∙ sym (opened (found_in terms.settings h) (ap is_open (sym l.stage) ∙ e))
    | inr e ↦ ap F (same-state e)
  ]

  -- before the opening nothing of a row is traded, routed or cancelled
  fresh-rows : is_open s.stage ≡ false → AllByRecursion Fresh s.rows
  fresh-rows shut = subst (AllByRecursion Fresh) (sym (l.found shut)) (fresh-standing h)

  -- a call that is refused
  refused : (e : Event) (t : State) → t ≡ s → standing (e ∷ h) ≡ standing h → stage_in terms.settings (e ∷ h) ≡ stage_in terms.settings h → last_in (e ∷ h) ≡ last_in h
      → ((side : Side) → accepted side (e ∷ h) ≡ accepted side h) → ((side : Side) → withdrawn side (e ∷ h) ≡ withdrawn side h) → (Opening terms h s.rows → Opening terms (e ∷ h) s.rows) → Answered terms (e ∷ h) → Led terms (e ∷ h) t
  refused e t same rows stage last more back opening answers = subst (Led terms (e ∷ h)) (sym same) (record {
    found = λ shut. l.found shut ∙ sym rows;
    stage = l.stage ∙ sym stage;
    last = l.last ∙ sym last;
    answers = answers;
    opened = λ now. opening (l.opened now);
    balance = λ side. omega (arith, l.balance side, more side, back side);
  })

  -- an edit of the rows
  edited : (e : Event) (t : State) (rows : List Row) → t ≡ with_rows s rows → is_open s.stage ≡ false → rows ≡ standing (e ∷ h) → stage_in terms.settings (e ∷ h) ≡ stage_in terms.settings h → last_in (e ∷ h) ≡ last_in h
      → ((side : Side) → accepted side (e ∷ h) ≡ withdrawn side (e ∷ h) + total_of held (of_side side) t.rows) → Answered terms (e ∷ h) → Led terms (e ∷ h) t
  edited e t rows is shut stands stage last balance answers = record {
    found = λ _. ap (λ (u : State). u.rows) is ∙ stands;
    stage = ap (λ (u : State). u.stage) is ∙ l.stage ∙ sym stage;
    last = ap (λ (u : State). u.last) is ∙ l.last ∙ sym last;
    answers = answers;
    opened = λ now. absurd (both_ways (is_open s.stage) shut (ap (λ (u : State). is_open u.stage) (sym is) ∙ now));
    balance = balance;
  }

  enter-led : (o : Order) (r : Result ℕ Refusal) (t : State) → Entered terms s o r t → Led terms (Enters o r ∷ h) t
  enter-led o (Err e) t x =
      let same = same_answer (λ u. enter_answer terms u o) (Err SeriesOpen) (λ u now. cond-true (is_open u.stage) _ _ now) in
      refused (Enters o (Err e)) t x.state refl refl refl (λ side. refl) (λ side. refl) (λ a. a) (x.answer ∙ same, l.answers)
  enter-led o (Ok size) t x =
      let same = same_answer (λ u. enter_answer terms u o) (Err SeriesOpen) (λ u now. cond-true (is_open u.stage) _ _ now) in
      let a = accepted-call (is_open s.stage) (enter_cause terms.permitted o s.rows) o.size size x.answer in
      let whole : held (order_row o) ≡ size = omega (arith, a.told) in
      let balance : (side : Side) → accepted side (Enters o (Ok size) ∷ h) ≡ withdrawn side h + total_of held (of_side side) t.rows = λ side. omega (arith, l.balance side, x.effects.sums held side, ap (λ (n : ℕ). cond (same_side o.side side) n 0) whole) in
      edited (Enters o (Ok size)) t (added o s.rows) x.state a.shut (ap (added o) (l.found a.shut) ∙ added-standing o (orders_in h) (quote_in h) 1 16) refl refl balance (x.answer ∙ same, l.answers)

  withdraw-led : (n : ℕ) (r : Result ℕ Refusal) (t : State) → Withdrew s n r t → Led terms (Withdraws n r ∷ h) t
  withdraw-led n (Err e) t x =
      let same = same_answer (λ u. withdraw_answer u n) (Err SeriesOpen) (λ u now. cond-true (is_open u.stage) _ _ now) in
      refused (Withdraws n (Err e)) t x.state refl refl refl (λ side. refl) (λ side. refl) (λ a. a) (x.answer ∙ same, l.answers)
  withdraw-led n (Ok back) t x =
      let same = same_answer (λ u. withdraw_answer u n) (Err SeriesOpen) (λ u now. cond-true (is_open u.stage) _ _ now) in
      let a = taken_out (is_open s.stage) (eqb n 0) (first (is_order n) s.rows) back x.answer in
      let there : first (is_order n) (standing h) ≡ Some a.row = ap (first (is_order n)) (sym (l.found a.shut)) ∙ a.there in
      let gone : (side : Side) → total_of held (λ r. is_order n r && of_side side r) s.rows ≡ back_from side (first (is_order n) (standing h)) back = λ side. order-back n side s.rows a.row x.sound (fresh-rows a.shut) a.there ∙ ap (λ (k : ℕ). back_from side (Some a.row) k) (sym a.told) ∙ ap (λ (o : Option Row). back_from side o back) (sym there) in
      edited (Withdraws n (Ok back)) t (without_order n s.rows) x.state a.shut (ap (without_order n) (l.found a.shut) ∙ without-order-standing n (orders_in h) (quote_in h) 1 16) refl refl (λ side. settle _ _ _ _ _ (l.balance side) (x.effects.sums held side) (gone side)) (x.answer ∙ same, l.answers)

  -- what is taken back of a quote is all that it held
  quote-back : (m : ℕ) (back : TakenBack) → is_open s.stage ≡ false → ((side : Side) → contracts (is_quote_side m side) s.rows ≡ taken_back_on side back) → (side : Side) → total_of held (is_quote_side m side) s.rows ≡ taken_back_on side back
  quote-back m back shut answer side = fresh-left (is_quote_side m side) s.rows (fresh-rows shut) ∙ answer side

  quote-led : (m : ℕ) (q : Quote) (r : Result TakenBack Refusal) (t : State) → Quoted terms s m q r t → Led terms (Quotes m q r ∷ h) t
  quote-led m q (Err e) t x =
      let same = same_answer (λ u. quote_answer terms u m q) (Err SeriesOpen) (λ u now. cond-true (is_open u.stage) _ _ now) in
      refused (Quotes m q (Err e)) t x.state refl refl refl (λ side. refl) (λ side. refl) (λ a. a) (x.answer ∙ same, l.answers)
  quote-led m q (Ok back) t x =
      let same = same_answer (λ u. quote_answer terms u m q) (Err SeriesOpen) (λ u now. cond-true (is_open u.stage) _ _ now) in
      let a = accepted-call (is_open s.stage) (quote_cause terms.permitted m q) (left_of_quote m s.rows) back x.answer in
      let one = past-cause (not (maker_numbered m)) _ _ a.none in
      let two = past-cause (not (sized_quote q)) _ _ one.1 in
      let maker = not-false (maker_numbered m) one.0 in
      let size = not-false (sized_quote q) two.0 in
      edited (Quotes m q (Ok back)) t (quoted_rows m q s.rows) x.state a.shut (ap (quoted_rows m q) (l.found a.shut) ∙ quoted-standing m q (orders_in h) (quote_in h) 1 16 (maker-low m maker) (maker-high m maker)) refl refl
      (λ side. replace _ _ _ _ _ _ (l.balance side) (x.effects.sums held side) (quote-back m back a.shut x.effects.taken.answer side) (quote-held m q side size)) (x.answer ∙ same, l.answers)

  pull-led : (m : ℕ) (r : Result TakenBack Refusal) (t : State) → Pulled s m r t → Led terms (Pulls m r ∷ h) t
  pull-led m (Err e) t x =
      let same = same_answer (λ u. pull_answer u m) (Err SeriesOpen) (λ u now. cond-true (is_open u.stage) _ _ now) in
      refused (Pulls m (Err e)) t x.state refl refl refl (λ side. refl) (λ side. refl) (λ a. a) (x.answer ∙ same, l.answers)
  pull-led m (Ok back) t x =
      let same = same_answer (λ u. pull_answer u m) (Err SeriesOpen) (λ u now. cond-true (is_open u.stage) _ _ now) in
      let a = accepted-call (is_open s.stage) (quote_out_cause m s.rows) (left_of_quote m s.rows) back x.answer in
      edited (Pulls m (Ok back)) t (without_quote m s.rows) x.state a.shut (ap (without_quote m) (l.found a.shut) ∙ without-quote-standing m (orders_in h) (quote_in h) 1 16) refl refl
      (λ side. settle _ _ _ _ _ (l.balance side) (x.effects.sums held side) (quote-back m back a.shut x.effects.taken.answer side)) (x.answer ∙ same, l.answers)

  -- TICKS

  module _ (k : Tick) (t : State) where
    -- where the rows stay, nothing was sent
    untouched : t.rows ≡ s.rows → ((side : Side) (q : ℕ) → k.after side q ≡ counts_left k.before s.rows t.rows side q) → (side : Side) (q : ℕ) → k.after side q ≡ k.before side q
    untouched same counts side q = omega (arith, counts side q, ap (routed_on (opposite side)) same)

    -- a tick that is accepted and does not open
    paused : (answer : TickAnswer) → is_open s.stage ≡ false → t.rows ≡ s.rows → t.stage ≡ stage_by terms.settings k.time answer s.stage → t.last ≡ k.time → is_open (stage_by terms.settings k.time answer s.stage) ≡ false → Answered terms (Ticks k (Ok answer) ∷ h) → Led terms (Ticks k (Ok answer) ∷ h) t
    paused answer shut same stage last still answers = record {
      found = λ _. same ∙ l.found shut;
      stage = stage ∙ ap (stage_by terms.settings k.time answer) l.stage;
      last = last;
      answers = answers;
      opened = λ now. absurd (both_ways (is_open t.stage) (ap is_open stage ∙ still) now);
      balance = λ side. omega (arith, l.balance side, ap (total_of held (of_side side)) same);
    }

    by-decision : (d : Decision) → FairDecision (scene terms.permitted terms.settings.close s.rows k.before) d → CarriedBy d k s.rows t.rows → is_open s.stage ≡ false → t.rows ≡ rows_by terms k.before d s.rows
        → t.stage ≡ stage_by terms.settings k.time (told_by d t.rows) s.stage → t.last ≡ k.time → ((side : Side) (q : ℕ) → k.after side q ≡ counts_left k.before s.rows t.rows side q)
        → Ok (told_by d t.rows) ≡ tick_answer terms (found_in terms.settings h) k → Led terms (Ticks k (Ok (told_by d t.rows)) ∷ h) t
    by-decision (decision.Wait reason) fair carried shut rows stage last counts answer = paused (Waits reason) shut rows stage last refl (answer, untouched rows counts, l.answers)
    by-decision decision.Hold fair carried shut rows stage last counts answer = paused Holds shut rows stage last shut (answer, untouched rows counts, l.answers)
    by-decision (decision.Tell message) fair carried shut rows stage last counts answer = paused (Message message) shut rows stage last (after-shut terms.settings k.time message.number s.stage shut) (answer, untouched rows counts, l.answers)
    by-decision (decision.Open o) fair carried shut rows stage last counts answer = record {
      found = λ closed. absurd (both_ways (is_open t.stage) closed (ap is_open stage));
      stage = stage;
      last = last;
      answers = (answer, tt, l.answers);
      opened = λ _. subst (λ (xs : List Row). Opens terms k (report_of o (priced_only o.price) t.rows) xs t.rows) (l.found shut) (opens terms k o s.rows t.rows (fresh-rows shut) fair carried counts);
      balance = λ side. omega (arith, l.balance side, same-held side s.rows t.rows carried.kept);
    }

    tick-told : tick_answer terms s k ≡ tick_answer terms (found_in terms.settings h) k
    tick-told = same_answer (λ u. tick_answer terms u k) (Err SeriesOpen) (λ u now. ap (λ (c : Option Refusal). answered c (told_by (decision_at terms u k) (rows_by terms k.before (decision_at terms u k) u.rows))) (cond-true (is_open u.stage) (Some SeriesOpen) _ now))

    tick-led : Within terms.permitted → (r : Result TickAnswer Refusal) → Ticked terms s k r t → Led terms (Ticks k r ∷ h) t
    tick-led within (Err e) x = refused (Ticks k (Err e)) t x.state refl refl refl (λ side. refl) (λ side. refl) (λ a. a) (x.answer ∙ tick-told, untouched (ap (λ (u : State). u.rows) x.state) x.counts, l.answers)
    tick-led within (Ok answer) x =
        let d = decision_at terms s k in
        let now = scene terms.permitted terms.settings.close s.rows k.before in
        let a = accepted-tick (is_open s.stage) _ (told_by d (rows_by terms k.before d s.rows)) answer x.answer in
        let rows : t.rows ≡ rows_by terms k.before d s.rows = ap (λ (u : State). u.rows) x.state in
        let told : answer ≡ told_by d t.rows = a.1 ∙ ap (told_by d) (sym rows) in
        let stage : t.stage ≡ stage_by terms.settings k.time (told_by d t.rows) s.stage = ap (λ (u : State). u.stage) x.state ∙ ap (λ (y : TickAnswer). stage_by terms.settings k.time y s.stage) told in
        let fair : FairDecision now d = fair-waits now _ _ (fair-decision now x.shown within terms.settings s.stage (due s.stage k.time)) in
        let ok : (y : TickAnswer) → Result TickAnswer Refusal = λ y. Ok y in
        subst (λ (y : TickAnswer). Led terms (Ticks k (Ok y) ∷ h) t) (sym told) (by-decision d fair x.carried a.0 rows stage (ap (λ (u : State). u.last) x.state) x.counts (ap ok (sym told) ∙ x.answer ∙ tick-told))

-- EVERY RUN

step-led : (terms : Terms) (h : List Event) (s t : State) (e : Event) → Within terms.permitted → Led terms h s → Step terms s e t → Led terms (e ∷ h) t
step-led terms h s t (Enters o r) within l (entered x) = enter-led terms h s l o r t x
step-led terms h s t (Withdraws n r) within l (withdrew x) = withdraw-led terms h s l n r t x
step-led terms h s t (Quotes m q r) within l (quoted x) = quote-led terms h s l m q r t x
step-led terms h s t (Pulls m r) within l (pulled x) = pull-led terms h s l m r t x
step-led terms h s t (Ticks k r) within l (ticked x) = tick-led terms h s l k t within r x

pub led : {terms : Terms} {h : List Event} {s : State} → Within terms.permitted → Run terms h s → Led terms h s
led within made = record {
  found = λ _. refl;
  stage = refl;
  last = refl;
  answers = tt;
  opened = λ now. absurd (both_ways false refl now);
  balance = λ side. refl;
}
led within (next before x) = step-led _ _ _ _ _ within (led within before) x

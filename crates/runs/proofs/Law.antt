-- The law holds of every run; a refused call changes nothing, and an open series refuses every call.
use Rattle.std.proofs.Common.{◌≡◌, ℕ, ◌≤◌, Bool, true, false, cond, List, Some, Ok, Err, Option, Result, refl, arith}
use Rattle.std.proofs.lemmas.Bool.{false≢true}
use Rattle.interest.specs.declared.Refusal.{Refusal}
use Rattle.interest.specs.declared.Refusal.TheVariants.{SeriesOpen}
use Rattle.book.specs.Edits.{answered}
use Rattle.stages.specs.Stages.{is_open}
use Rattle.runs.specs.States.{Terms, State}
use Rattle.runs.specs.Histories.{Event}
use Rattle.runs.specs.Histories.Event.{Enters, Withdraws, Quotes, Pulls, Ticks}
use Rattle.runs.specs.Laws.{Step, Run, Law, Shut, is_refused}
use Rattle.runs.specs.Laws.Step.{entered, withdrew, quoted, pulled, ticked}
use Rattle.runs.proofs.Sums.{held-sums}
use Rattle.runs.proofs.Ledger.{Led, led}

pub law : {terms : Terms} {h : List Event} {s : State} → ((p : ℕ) → terms.permitted p ≡ true → (1 ≤ p) × (p ≤ 100000)) → Run terms h s → Law terms h s
law {terms} {h} {s} within run =
    let l : Led terms h s = led within run in
    record {
      found = l.found;
      stage = l.stage;
      last = l.last;
      answers = l.answers;
      opened = l.opened;
      balance = λ side. omega (arith, l.balance side, held-sums side s.rows);
    }

-- an open series does not accept
not-ok : {T : Type 0} (on : Bool) (x : T) (answer : Result T Refusal) → Ok x ≡ cond on (Err SeriesOpen) answer → on ≡ true → ⊥
not-ok true x answer e on = let z : ◌≡◌ {A = ℕ} 0 1 = cc in omega arith
not-ok false x answer e on = false≢true on

tick-not-ok : {T : Type 0} (on : Bool) (rest : Option Refusal) (x y : T) → Ok x ≡ answered (cond on (Some SeriesOpen) rest) y → on ≡ true → ⊥
tick-not-ok true rest x y e on = let z : ◌≡◌ {A = ℕ} 0 1 = cc in omega arith
tick-not-ok false rest x y e on = false≢true on

module _ (terms : Terms) (s : State) where
  stays : (e : Event) (t : State) → Step terms s e t → is_refused e ≡ true → t ≡ s
  stays (Enters o (Ok x)) t (entered c) e = absurd (false≢true e)
  stays (Enters o (Err refusal)) t (entered c) e = c.state
  stays (Withdraws n (Ok x)) t (withdrew c) e = absurd (false≢true e)
  stays (Withdraws n (Err refusal)) t (withdrew c) e = c.state
  stays (Quotes m q (Ok x)) t (quoted c) e = absurd (false≢true e)
  stays (Quotes m q (Err refusal)) t (quoted c) e = c.state
  stays (Pulls m (Ok x)) t (pulled c) e = absurd (false≢true e)
  stays (Pulls m (Err refusal)) t (pulled c) e = c.state
  stays (Ticks k (Ok x)) t (ticked c) e = absurd (false≢true e)
  stays (Ticks k (Err refusal)) t (ticked c) e = c.state

  refuses : (e : Event) (t : State) → Step terms s e t → is_open s.stage ≡ true → is_refused e ≡ true
  refuses (Enters o (Ok x)) t (entered c) on = absurd (not-ok (is_open s.stage) x _ c.answer on)
  refuses (Enters o (Err refusal)) t (entered c) on = refl
  refuses (Withdraws n (Ok x)) t (withdrew c) on = absurd (not-ok (is_open s.stage) x _ c.answer on)
  refuses (Withdraws n (Err refusal)) t (withdrew c) on = refl
  refuses (Quotes m q (Ok x)) t (quoted c) on = absurd (not-ok (is_open s.stage) x _ c.answer on)
  refuses (Quotes m q (Err refusal)) t (quoted c) on = refl
  refuses (Pulls m (Ok x)) t (pulled c) on = absurd (not-ok (is_open s.stage) x _ c.answer on)
  refuses (Pulls m (Err refusal)) t (pulled c) on = refl
  refuses (Ticks k (Ok x)) t (ticked c) on = absurd (tick-not-ok (is_open s.stage) _ x _ c.answer on)
  refuses (Ticks k (Err refusal)) t (ticked c) on = refl

pub shut : (terms : Terms) (s : State) → Shut terms s
shut terms s = record { refused = stays terms s; open_refuses = refuses terms s }

-- Calls that edit the table: what the book does is what the rules say.
use Rattle.std.proofs.Common.{refl, arith, ◌≡◌, ℕ, Bool, true, false, cond, not, ◌||◌, eqb, leb, List, is_ok, None, Ok, Err, Option, Result, sym, ap, ◌∙◌, inl, inr}
use Rattle.std.proofs.lemmas.Bool.{cond-false, and_parts, and_from, or_cases, or_left, or_right, not-false, not_from_true}
use Rattle.interest.specs.Bounds.{priced, maker_numbered}
use Rattle.interest.specs.declared.Refusal.{Refusal}
use Rattle.interest.specs.declared.Refusal.TheVariants.{SeriesOpen}
use Rattle.ladder.proofs.Found.{priced-from}
use Rattle.book.specs.declared.row.Row.{Row}
use Rattle.book.specs.declared.row.Quote.{Quote}
use Rattle.book.specs.Edits.{sized_quote, priced_quote, quote_cause as book_quote_cause, answered}
use Rattle.book.proofs.EditFacts.{past-cause}
use Rattle.pricing.proofs.Walks.{Within}
use Rattle.stages.specs.declared.stage.Stage.{Stage}
use Rattle.stages.specs.Stages.{is_open}
use Rattle.runs.specs.States.{State, edited_by}
use Rattle.runs.specs.Steps.{unless_open, permitted_quote, quote_cause}
use Rattle.auction.proofs.Moves.{same-state, passed, checked, one-cause}

-- the state by the rows that the book is left with
pub edited : {T : Type 0} (r : Result T Refusal) (s : State) (x after : List Row) (at : Stage) (last : ℕ) → after ≡ cond (is_ok r) x s.rows → at ≡ s.stage → last ≡ s.last → ◌≡◌ {A = State} (record { rows = after; stage = at; last = last }) (edited_by r s x)
edited (Ok y) s x after at last er es el = same-state after x at s.stage last s.last er es el
edited (Err refusal) s x after at last er es el = same-state after s.rows at s.stage last s.last er es el

-- while the series is shut
while-shut : {T : Type 0} (s : State) (answer : Result T Refusal) → passed ≡ unless_open s passed → unless_open s answer ≡ answer
while-shut s answer e = by (is_open s.stage) e
  where
    by : (b : Bool) → passed ≡ cond {A = Result (Unit {0}) Refusal} b (Err SeriesOpen) passed → cond b (Err SeriesOpen) answer ≡ answer
    by true f = absurd (let z : ◌≡◌ {A = ℕ} 0 1 = cc in omega arith)
    by false f = refl

-- the auction's own cause to refuse a quote is the answer; where it has none, the book has none, and its answer is the auction's
pub quote-refused : {T : Type 0} (s : State) (w : Option Refusal) (refusal : Refusal) (x : T) → passed ≡ unless_open s passed → Err refusal ≡ checked w → Err refusal ≡ unless_open s (answered w x)
quote-refused s w refusal x shut e = sym (while-shut s (answered w x) shut ∙ ap (λ (u : Option Refusal). answered u x) (one-cause w refusal e))

pub quote-taken : {T : Type 0} (s : State) (v w : Option Refusal) (r : Result T Refusal) (x : T) → passed ≡ unless_open s passed → v ≡ None → w ≡ None → r ≡ answered v x → r ≡ unless_open s (answered w x)
quote-taken s v w r x shut ev ew is = is ∙ ap (λ (u : Option Refusal). answered u x) (ev ∙ sym ew) ∙ sym (while-shut s (answered w x) shut)

-- what the ladder permits is in bounds
module _ (permitted : ℕ → Bool) (within : Within permitted) where
  permitted-priced : (p : ℕ) → permitted p ≡ true → priced p ≡ true
  permitted-priced p on = let b = within p on in priced-from p b.0 b.1

  priced-either : (q : Quote) → (eqb q.bid 0 || permitted q.bid) ≡ true → (eqb q.bid 0 || priced q.bid) ≡ true
  priced-either q e = elim (or_cases (eqb q.bid 0) (permitted q.bid) e) [ inl z ↦ or_left _ _ z | inr on ↦ or_right _ _ (permitted-priced q.bid on) ]

  pub quote-sets : (m : ℕ) (q : Quote) → quote_cause permitted m q ≡ None → book_quote_cause m q ≡ None
  quote-sets m q e =
      let a = past-cause (not (maker_numbered m)) _ _ e in
      let b = past-cause (not (sized_quote q)) _ _ a.1 in
      let c = past-cause (not (permitted_quote permitted q)) _ _ b.1 in
      let d = past-cause (leb q.offer q.bid) _ _ c.1 in
      let parts = and_parts (eqb q.bid 0 || permitted q.bid) (permitted q.offer) (not-false _ c.0) in
      let bound : priced_quote q ≡ true = and_from _ _ (priced-either q parts.0) (permitted-priced q.offer parts.1) in
      cond-false (not (maker_numbered m)) _ _ a.0 ∙ cond-false (not (sized_quote q)) _ _ b.0 ∙ cond-false (not (priced_quote q)) _ _ (not_from_true _ bound) ∙ cond-false (leb q.offer q.bid) _ _ d.0

-- What entering, withdrawing, quoting and pulling answer and leave.
use Rattle.std.specs.Prelude.{◌≡◌, ℕ, Bool, true, cond, not, ◌&&◌, ◌||◌, List, IfOk, Some, None, Err, Option, Result, ◌==◌, nat_le}
use Rattle.interest.specs.declared.Limit.{Limit}
use Rattle.interest.specs.declared.Limit.TheVariants.{Market, At}
use Rattle.interest.specs.declared.Refusal.{Refusal}
use Rattle.interest.specs.declared.Refusal.TheVariants.{SeriesOpen, NumberOutOfBounds, SizeOutOfBounds, PriceNotPermitted, NumberStanding, BookFull, BidNotBelowOffer, QuoteTooWide}
use Rattle.interest.specs.Bounds.{sized, maker_numbered}
use Rattle.book.specs.declared.row.Row.{Row}
use Rattle.book.specs.declared.row.Order.{Order}
use Rattle.book.specs.declared.row.Quote.{Quote}
use Rattle.book.specs.declared.row.TakenBack.{TakenBack}
use Rattle.book.specs.Rows.{sound_table, is_order, order_count}
use Rattle.book.specs.Reads.{stands}
use Rattle.book.specs.Edits.{added, without_order, without_quote, quoted, sized_quote, quote_out_cause, answered, take_out_answer, left_of_quote}
use Rattle.book.specs.Effects.{OrderAdded, OrderOut, QuoteSet, QuoteOut}
use Rattle.ranges.specs.Bands.{valid_quote}
use Rattle.stages.specs.Stages.{is_open}
use Rattle.runs.specs.States.{Terms, State, edited_by}

-- an open series refuses whatever comes
abbrev pub unless_open : {T : Type 0} → State → Result T Refusal → Result T Refusal
unless_open s answer = cond (is_open s.stage) (Err SeriesOpen) answer

-- market is on every ladder
abbrev pub permitted_limit : (ℕ → Bool) → Limit → Bool
permitted_limit permitted Market = true
permitted_limit permitted (At p) = permitted p

-- the first cause to refuse an order, in the order of the refusals' numbers
abbrev pub enter_cause : (ℕ → Bool) → Order → List Row → Option Refusal
enter_cause permitted o rows =
    cond (o.number == 0) (Some NumberOutOfBounds)
    (cond (not (sized o.size)) (Some SizeOutOfBounds)
    (cond (not (permitted_limit permitted o.limit)) (Some PriceNotPermitted)
    (cond (stands (is_order o.number) rows) (Some NumberStanding)
    (cond (nat_le 96 (order_count rows)) (Some BookFull)
    None))))

abbrev pub enter_answer : Terms → State → Order → Result ℕ Refusal
enter_answer terms s o = unless_open s (answered (enter_cause terms.permitted o s.rows) o.size)

pub record Entered (terms : Terms) (s : State) (o : Order) (r : Result ℕ Refusal) (t : State) : Type 0 where
  pub sound : sound_table s.rows ≡ true
  pub answer : r ≡ enter_answer terms s o
  pub state : t ≡ edited_by r s (added o s.rows)
  pub effects : IfOk r (λ _. OrderAdded o s.rows t.rows)

abbrev pub withdraw_answer : State → ℕ → Result ℕ Refusal
withdraw_answer s n = unless_open s (take_out_answer n s.rows)

pub record Withdrew (s : State) (n : ℕ) (r : Result ℕ Refusal) (t : State) : Type 0 where
  pub sound : sound_table s.rows ≡ true
  pub answer : r ≡ withdraw_answer s n
  pub state : t ≡ edited_by r s (without_order n s.rows)
  pub effects : IfOk r (λ left. OrderOut n left s.rows t.rows)

-- both prices are on the ladder, a bid of 0 excepted
abbrev pub permitted_quote : (ℕ → Bool) → Quote → Bool
permitted_quote permitted q = (q.bid == 0 || permitted q.bid) && permitted q.offer

abbrev pub quote_cause : (ℕ → Bool) → ℕ → Quote → Option Refusal
quote_cause permitted m q =
    cond (not (maker_numbered m)) (Some NumberOutOfBounds)
    (cond (not (sized_quote q)) (Some SizeOutOfBounds)
    (cond (not (permitted_quote permitted q)) (Some PriceNotPermitted)
    (cond (nat_le q.offer q.bid) (Some BidNotBelowOffer)
    (cond (not (valid_quote q.bid q.offer)) (Some QuoteTooWide)
    None))))

abbrev pub quote_answer : Terms → State → ℕ → Quote → Result TakenBack Refusal
quote_answer terms s m q = unless_open s (answered (quote_cause terms.permitted m q) (left_of_quote m s.rows))

pub record Quoted (terms : Terms) (s : State) (m : ℕ) (q : Quote) (r : Result TakenBack Refusal) (t : State) : Type 0 where
  pub sound : sound_table s.rows ≡ true
  pub answer : r ≡ quote_answer terms s m q
  pub state : t ≡ edited_by r s (quoted m q s.rows)
  pub effects : IfOk r (λ back. QuoteSet m q back s.rows t.rows)

abbrev pub pull_answer : State → ℕ → Result TakenBack Refusal
pull_answer s m = unless_open s (answered (quote_out_cause m s.rows) (left_of_quote m s.rows))

pub record Pulled (s : State) (m : ℕ) (r : Result TakenBack Refusal) (t : State) : Type 0 where
  pub sound : sound_table s.rows ≡ true
  pub answer : r ≡ pull_answer s m
  pub state : t ≡ edited_by r s (without_quote m s.rows)
  pub effects : IfOk r (λ back. QuoteOut m back s.rows t.rows)

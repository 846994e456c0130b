-- What follows from a call, as far as readings and sums of a table go: `before` and `after` are its rows.
use Rattle.std.specs.Prelude.{◌≡◌, ℕ, ◌+◌, Bool, true, cond, ◌&&◌, List, Some, None, ◌==◌, ◌≢◌}
use Rattle.interest.specs.declared.Side.{Side}
use Rattle.interest.specs.declared.Side.TheVariants.{Buy, Sell}
use Rattle.interest.specs.Sides.{same_side}
use Rattle.book.specs.declared.row.Owner.{Owner}
use Rattle.book.specs.declared.row.Owner.TheVariants as owner
use Rattle.book.specs.declared.row.Row.{Row}
use Rattle.book.specs.declared.row.Order.{Order}
use Rattle.book.specs.declared.row.Quote.{Quote}
use Rattle.book.specs.declared.row.TakenBack.{TakenBack}
use Rattle.book.specs.Rows.{every, is_order}
use Rattle.book.specs.Ranks.{of_side, total_of, contracts}
use Rattle.book.specs.Reads.{is_quote_side, first, read_order, read_quote}
use Rattle.book.specs.Edits.{order_row, bid_row, offer_row, quote_rows, without_order, quoted}

-- every other order, and every other maker's quote, reads as before
pub record OthersStay (mine : Owner) (before after : List Row) : Type 0 where
  pub orders : (n : ℕ) → (owner.Order n ≢ mine) → read_order n after ≡ read_order n before
  pub quotes : (m : ℕ) (side : Side) → (owner.Quote m ≢ mine) → read_quote m side after ≡ read_quote m side before

-- every contract of the row is left
abbrev pub untouched : Row → Bool
untouched r = r.left == r.size

abbrev pub accepted_in : (Row → Bool) → List Row → ℕ
accepted_in test rows = total_of (λ (r : Row). r.size) test rows

abbrev pub taken_back_on : Side → TakenBack → ℕ
taken_back_on Buy back = back.bids
taken_back_on Sell back = back.offers

-- an order added: it is read back whole, taken out again it leaves the table as found, and its side has its contracts more
pub record OrderAdded (order : Order) (before after : List Row) : Type 0 where
  pub whole : first (is_order order.number) after ≡ Some (order_row order)
  pub undone : without_order order.number after ≡ before
  pub others : OthersStay (owner.Order order.number) before after
  pub sums : (part : Row → ℕ) (side : Side) → total_of part (of_side side) after ≡ total_of part (of_side side) before + cond (same_side order.side side) (part (order_row order)) 0

-- an order taken out: each side has its contracts less, and those left of it are the ones answered
pub record OrderOut (n left : ℕ) (before after : List Row) : Type 0 where
  pub gone : read_order n after ≡ None
  pub others : OthersStay (owner.Order n) before after
  pub sums : (part : Row → ℕ) (side : Side) → total_of part (of_side side) before ≡ total_of part (of_side side) after + total_of part (λ r. is_order n r && of_side side r) before
  pub answer : contracts (is_order n) before ≡ left
  pub accepted : every untouched before ≡ true → accepted_in (is_order n) before ≡ left

-- what a maker's former quote had is answered, by side
pub record QuoteTaken (m : ℕ) (back : TakenBack) (before after : List Row) : Type 0 where
  pub others : OthersStay (owner.Quote m) before after
  pub answer : (side : Side) → contracts (is_quote_side m side) before ≡ taken_back_on side back
  pub accepted : every untouched before ≡ true → (side : Side) → accepted_in (is_quote_side m side) before ≡ taken_back_on side back

-- a quote set: it is read back whole, nothing of it outlasts a later one, and each side has its contracts for the former ones
pub record QuoteSet (m : ℕ) (quote : Quote) (back : TakenBack) (before after : List Row) : Type 0 where
  pub bid : first (is_quote_side m Buy) after ≡ cond (quote.bid == 0) None (Some (bid_row m quote))
  pub offer : first (is_quote_side m Sell) after ≡ Some (offer_row m quote)
  pub replaced : (later : Quote) → quoted m later after ≡ quoted m later before
  pub taken : QuoteTaken m back before after
  pub sums : (part : Row → ℕ) (side : Side) → total_of part (of_side side) after + total_of part (is_quote_side m side) before ≡ total_of part (of_side side) before + total_of part (of_side side) (quote_rows m quote)

-- a quote taken out
pub record QuoteOut (m : ℕ) (back : TakenBack) (before after : List Row) : Type 0 where
  pub gone : (side : Side) → read_quote m side after ≡ None
  pub taken : QuoteTaken m back before after
  pub sums : (part : Row → ℕ) (side : Side) → total_of part (of_side side) before ≡ total_of part (of_side side) after + total_of part (is_quote_side m side) before

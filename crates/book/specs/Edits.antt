-- What a call does to the rows of a table, and what it answers.
use Rattle.std.specs.Prelude.{ℕ, Bool, true, false, cond, not, ◌&&◌, ◌||◌, nat_le, List, [], ◌∷◌, ◌++◌, Some, None, Ok, Err, filter, Option, Result, ◌==◌, nat_lt}
use Rattle.interest.specs.declared.Side.{Side}
use Rattle.interest.specs.declared.Side.TheVariants.{Buy, Sell}
use Rattle.interest.specs.declared.Class.TheVariants.{Other}
use Rattle.interest.specs.declared.Limit.TheVariants.{Market, At}
use Rattle.interest.specs.declared.Refusal.{Refusal}
use Rattle.interest.specs.declared.Refusal.TheVariants.{NumberOutOfBounds, SizeOutOfBounds, PriceNotPermitted, NumberStanding, NothingStanding, BookFull, BidNotBelowOffer}
use Rattle.interest.specs.Bounds.{priced, sized, maker_numbered}
use Rattle.book.specs.declared.row.Owner.{Owner}
use Rattle.book.specs.declared.row.Owner.TheVariants as owner
use Rattle.book.specs.declared.row.Row.{Row}
use Rattle.book.specs.declared.row.Order.{Order}
use Rattle.book.specs.declared.row.Quote.{Quote}
use Rattle.book.specs.declared.row.TakenBack.{TakenBack}
use Rattle.book.specs.Rows.{bounded_limit, order_owned, order_count, is_order, is_quote_of, place}
use Rattle.book.specs.Reads.{is_quote_side, first, stands}

-- whether a row is an order, and whether it stands before or after the quote of a maker
abbrev pub of_order : Row → Bool
of_order r = order_owned r.owner

abbrev pub owned_before : ℕ → Owner → Bool
owned_before m (owner.Order n) = true
owned_before m (owner.Quote k) = nat_lt k m

abbrev pub owned_after : ℕ → Owner → Bool
owned_after m (owner.Order n) = false
owned_after m (owner.Quote k) = nat_lt m k

abbrev pub before_maker : ℕ → Row → Bool
before_maker m r = owned_before m r.owner

abbrev pub after_maker : ℕ → Row → Bool
after_maker m r = owned_after m r.owner

-- a row with no contracts
abbrev pub blank_row : Row
blank_row = record {
  owner = owner.Order 0;
  side = Buy;
  limit = Market;
  class = Other;
  size = 0;
  traded = 0;
  routed = 0;
  cancelled = 0;
  left = 0;
  working = 0;
  shown = 0;
}

-- a row as it is accepted: every contract left, and no price yet
abbrev pub order_row : Order → Row
order_row o = record {
  owner = owner.Order o.number;
  side = o.side;
  limit = o.limit;
  class = o.class;
  size = o.size;
  traded = 0;
  routed = 0;
  cancelled = 0;
  left = o.size;
  working = 0;
  shown = 0;
}

abbrev pub quote_row : ℕ → Side → ℕ → ℕ → Row
quote_row m side price size = record {
  owner = owner.Quote m;
  side = side;
  limit = At price;
  class = Other;
  size = size;
  traded = 0;
  routed = 0;
  cancelled = 0;
  left = size;
  working = 0;
  shown = 0;
}

abbrev pub bid_row : ℕ → Quote → Row
bid_row m q = quote_row m Buy q.bid q.bid_size

abbrev pub offer_row : ℕ → Quote → Row
offer_row m q = quote_row m Sell q.offer q.offer_size

-- a bid of 0 makes no row
abbrev pub quote_rows : ℕ → Quote → List Row
quote_rows m q = cond (q.bid == 0) (offer_row m q ∷ []) (bid_row m q ∷ offer_row m q ∷ [])

-- a row put in row order, behind those of its own place
abbrev pub placed : Row → List Row → List Row
placed row rows = filter (λ r. nat_le (place r) (place row)) rows ++ row ∷ filter (λ r. not (nat_le (place r) (place row))) rows

-- the last of the orders
abbrev pub added : Order → List Row → List Row
added order rows = filter of_order rows ++ order_row order ∷ filter (λ r. not (of_order r)) rows

abbrev pub without_order : ℕ → List Row → List Row
without_order n rows = filter (λ r. not (is_order n r)) rows

abbrev pub without_quote : ℕ → List Row → List Row
without_quote m rows = filter (λ r. not (is_quote_of m r)) rows

abbrev pub quoted : ℕ → Quote → List Row → List Row
quoted m q rows = filter (before_maker m) rows ++ (quote_rows m q ++ filter (after_maker m) rows)

-- the first cause to refuse, in the order of the refusals' numbers
abbrev pub add_cause : Order → List Row → Option Refusal
add_cause o rows =
    cond (o.number == 0) (Some NumberOutOfBounds)
    (cond (not (sized o.size)) (Some SizeOutOfBounds)
    (cond (not (bounded_limit o.limit)) (Some PriceNotPermitted)
    (cond (stands (is_order o.number) rows) (Some NumberStanding)
    (cond (nat_le 96 (order_count rows)) (Some BookFull)
    None))))

-- a bid of 0 has size 0; any other size is bounded
abbrev pub sized_quote : Quote → Bool
sized_quote q = cond (q.bid == 0) (q.bid_size == 0) (sized q.bid_size) && sized q.offer_size

abbrev pub priced_quote : Quote → Bool
priced_quote q = (q.bid == 0 || priced q.bid) && priced q.offer

abbrev pub quote_cause : ℕ → Quote → Option Refusal
quote_cause m q =
    cond (not (maker_numbered m)) (Some NumberOutOfBounds)
    (cond (not (sized_quote q)) (Some SizeOutOfBounds)
    (cond (not (priced_quote q)) (Some PriceNotPermitted)
    (cond (nat_le q.offer q.bid) (Some BidNotBelowOffer)
    None)))

abbrev pub quote_out_cause : ℕ → List Row → Option Refusal
quote_out_cause m rows =
    cond (not (maker_numbered m)) (Some NumberOutOfBounds)
    (cond (not (stands (is_quote_of m) rows)) (Some NothingStanding)
    None)

-- what is answered unless there is a cause to refuse
abbrev pub answered : {T : Type 0} → Option Refusal → T → Result T Refusal
answered None x = Ok x
answered (Some refusal) x = Err refusal

-- the contracts left of a row that stands, or none
abbrev pub left_in : Option Row → ℕ
left_in None = 0
left_in (Some r) = r.left

abbrev pub left_or_refused : Option Row → Result ℕ Refusal
left_or_refused None = Err NothingStanding
left_or_refused (Some r) = Ok r.left

abbrev pub take_out_answer : ℕ → List Row → Result ℕ Refusal
take_out_answer n rows = cond (n == 0) (Err NumberOutOfBounds) (left_or_refused (first (is_order n) rows))

abbrev pub left_of_quote : ℕ → List Row → TakenBack
left_of_quote m rows = record { bids = left_in (first (is_quote_side m Buy) rows); offers = left_in (first (is_quote_side m Sell) rows) }

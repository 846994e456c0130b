-- What holds of the rows of a table, whatever is done to it. Names no struct with a ghost field, so that a ghost field can cite it.
use Rattle.std.specs.Prelude.{ℕ, zero, suc, ◌+◌, ◌-◌, ◌*◌, Bool, true, false, cond, not, ◌&&◌, ◌||◌, List, [], ◌∷◌, sum_by, ◌==◌, nat_le, nat_lt}
use Rattle.interest.specs.declared.Side.{Side}
use Rattle.interest.specs.declared.Side.TheVariants.{Buy, Sell}
use Rattle.interest.specs.declared.Class.{Class}
use Rattle.interest.specs.declared.Class.TheVariants.{Routable, Fixed, Other}
use Rattle.interest.specs.declared.Limit.{Limit}
use Rattle.interest.specs.declared.Limit.TheVariants.{Market, At}
use Rattle.interest.specs.Bounds.{priced, sized, maker_numbered}
use Rattle.book.specs.declared.row.Owner.{Owner}
use Rattle.book.specs.declared.row.Owner.TheVariants.{Order, Quote}
use Rattle.book.specs.declared.row.Row.{Row}

-- each contract of a row is in one of the four places
abbrev pub held : Row → ℕ
held r = r.traded + r.routed + r.cancelled + r.left

abbrev pub bounded_limit : Limit → Bool
bounded_limit Market = true
bounded_limit (At x) = priced x

-- a side of a quote has a price, and is of class other
abbrev pub quotable : Limit → Class → Bool
quotable Market c = false
quotable (At x) Routable = false
quotable (At x) Fixed = false
quotable (At x) Other = true

abbrev pub sound_owner : Owner → Limit → Class → Bool
sound_owner (Order n) l c = nat_le 1 n
sound_owner (Quote m) l c = maker_numbered m && quotable l c

abbrev pub sound_row : Row → Bool
sound_row r = sized r.size && (held r == r.size && (bounded_limit r.limit && sound_owner r.owner r.limit r.class))

abbrev pub every : (Row → Bool) → List Row → Bool
every test [] = true
every test (r ∷ rs) = test r && every test rs

-- the place of a row in row order: 0 for every order, then bid and offer of each maker
abbrev pub quote_place : ℕ → Side → ℕ
quote_place m Buy = 2 * m - 1
quote_place m Sell = 2 * m

abbrev pub place_by : Owner → Side → ℕ
place_by (Order n) side = 0
place_by (Quote m) side = quote_place m side

abbrev pub place : Row → ℕ
place r = place_by r.owner r.side

-- the least place that may follow: a maker has one bid and one offer
abbrev pub following : ℕ → ℕ
following zero = 0
following (suc n) = suc (suc n)

abbrev pub in_row_order : ℕ → List Row → Bool
in_row_order from [] = true
in_row_order from (r ∷ rs) = nat_le from (place r) && in_row_order (following (place r)) rs

-- whether a row is the order of that number, and a side of that maker's quote
abbrev pub owned_by_order : ℕ → Owner → Bool
owned_by_order n (Order k) = k == n
owned_by_order n (Quote m) = false

abbrev pub is_order : ℕ → Row → Bool
is_order n r = owned_by_order n r.owner

abbrev pub owned_by_maker : ℕ → Owner → Bool
owned_by_maker m (Order n) = false
owned_by_maker m (Quote k) = k == m

abbrev pub is_quote_of : ℕ → Row → Bool
is_quote_of m r = owned_by_maker m r.owner

abbrev pub order_owned : Owner → Bool
order_owned (Order n) = true
order_owned (Quote m) = false

-- no later row is an order of the same number
abbrev pub new_number : Owner → List Row → Bool
new_number (Order n) rs = every (λ r. not (is_order n r)) rs
new_number (Quote m) rs = true

abbrev pub distinct_numbers : List Row → Bool
distinct_numbers [] = true
distinct_numbers (r ∷ rs) = new_number r.owner rs && distinct_numbers rs

-- a price below a limit
abbrev pub below_limit : Limit → Limit → Bool
below_limit (At x) (At y) = nat_lt x y
below_limit (At x) Market = false
below_limit Market l = false

-- every later row of the same quote is at a higher price: the bid below the offer
abbrev pub below_offer : Owner → Limit → List Row → Bool
below_offer (Order n) l rs = true
below_offer (Quote m) l rs = every (λ r. not (is_quote_of m r) || below_limit l r.limit) rs

abbrev pub bids_below_offers : List Row → Bool
bids_below_offers [] = true
bids_below_offers (r ∷ rs) = below_offer r.owner r.limit rs && bids_below_offers rs

-- how many rows are orders
abbrev pub order_count : List Row → ℕ
order_count rows = sum_by (λ (r : Row). cond (order_owned r.owner) 1 0) rows

abbrev pub sound_table : List Row → Bool
sound_table rows = every sound_row rows && (in_row_order 0 rows && (distinct_numbers rows && (bids_below_offers rows && nat_le (order_count rows) 96)))

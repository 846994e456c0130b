-- What a table answers when it is asked.
use Rattle.std.specs.Prelude.{◌≡◌, ℕ, zero, suc, ◌+◌, ◌≤◌, min, max, Bool, true, false, cond, not, ◌&&◌, List, is_some, Some, None, Option, ◌==◌}
use Rattle.std.specs.List.{find, filter_map, reduce}
use Rattle.std.specs.Option.{option_map}
use Rattle.interest.specs.declared.Side.{Side}
use Rattle.interest.specs.declared.Side.TheVariants.{Buy, Sell}
use Rattle.interest.specs.declared.Limit.{Limit}
use Rattle.interest.specs.declared.Limit.TheVariants.{Market, At}
use Rattle.book.specs.declared.row.Row.{Row}
use Rattle.book.specs.declared.row.Reading.{Reading}
use Rattle.book.specs.declared.row.Totals.{Totals}
use Rattle.book.specs.Rows.{is_order, is_quote_of, order_owned}
use Rattle.book.specs.Ranks.{of_side, total_of, through_price}

-- one side of a maker's quote
abbrev pub is_quote_side : ℕ → Side → Row → Bool
is_quote_side m side r = is_quote_of m r && of_side side r

-- the first row that passes a test
abbrev pub first : (Row → Bool) → List Row → Option Row
first test rows = find test rows

abbrev pub stands : (Row → Bool) → List Row → Bool
stands test rows = is_some (first test rows)

-- a resting row has prices while contracts of it are left
abbrev pub reading_of : Row → Reading
reading_of r = record {
  traded = r.traded;
  routed = r.routed;
  cancelled = r.cancelled;
  left = r.left;
  working = cond (r.left == 0) 0 r.working;
  shown = cond (r.left == 0) 0 r.shown;
}

abbrev pub read_order : ℕ → List Row → Option Reading
read_order n rows = option_map reading_of (first (is_order n) rows)

abbrev pub read_quote : ℕ → Side → List Row → Option Reading
read_quote m side rows = option_map reading_of (first (is_quote_side m side) rows)

-- how many of the n makers from m on quote
unfoldable pub quoting : ℕ → ℕ → List Row → ℕ
quoting m zero rows = 0
quoting m (suc n) rows = cond (stands (is_quote_of m) rows) 1 0 + quoting (suc m) n rows

abbrev pub totals_of : Side → List Row → Totals
totals_of side rows = record {
  accepted = total_of (λ (r : Row). r.size) (of_side side) rows;
  traded = total_of (λ (r : Row). r.traded) (of_side side) rows;
  routed = total_of (λ (r : Row). r.routed) (of_side side) rows;
  cancelled = total_of (λ (r : Row). r.cancelled) (of_side side) rows;
  left = total_of (λ (r : Row). r.left) (of_side side) rows;
}

abbrev pub plus_row : Totals → Row → Totals
plus_row t r = record {
  accepted = t.accepted + r.size;
  traded = t.traded + r.traded;
  routed = t.routed + r.routed;
  cancelled = t.cancelled + r.cancelled;
  left = t.left + r.left;
}

abbrev pub quoted_on : Side → Row → Bool
quoted_on side r = not (order_owned r.owner) && of_side side r

abbrev pub price_of : Limit → Option ℕ
price_of Market = None
price_of (At x) = Some x

-- the price of a row that is a quote's side
abbrev pub quote_price : Side → Row → Option ℕ
quote_price side r = cond (quoted_on side r) (price_of r.limit) None

abbrev pub better : Side → ℕ → ℕ → ℕ
better Buy p q = max p q
better Sell p q = min p q

-- the highest bid or lowest offer of the quotes, where there is one
abbrev pub best_quote : Side → List Row → Option ℕ
best_quote side rows = reduce (better side) (filter_map (quote_price side) rows)

abbrev pub limited_at : ℕ → Limit → Bool
limited_at p Market = false
limited_at p (At x) = x == p

-- what the best price of the quotes of a side is: no such quote is better, and one is at it
pub record BestPrice (side : Side) (rows : List Row) (p : ℕ) : Type 0 where
  pub bound : stands (λ r. quoted_on side r && through_price side p r.limit) rows ≡ false
  pub attained : stands (λ r. quoted_on side r && limited_at p r.limit) rows ≡ true
  pub priced : 1 ≤ p

-- where no price is answered, no such quote stands
abbrev pub BestQuote : Side → List Row → Option ℕ → Type 0
BestQuote side rows None = stands (quoted_on side) rows ≡ false
BestQuote side rows (Some p) = BestPrice side rows p

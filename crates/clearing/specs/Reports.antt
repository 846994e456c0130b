-- What an opening reports.
use Rattle.std.specs.Prelude.{◌≡◌, ℕ, ◌<◌, true, cond, List, length, slice_index_or, is_some, fold, Some, None, Option, nat_lt}
use Rattle.std.specs.Option.{IsSomeAnd}
use Rattle.interest.specs.declared.Side.{Side}
use Rattle.interest.specs.declared.Side.TheVariants.{Buy, Sell}
use Rattle.market.specs.Counts.{AsGood, better_of}
use Rattle.book.specs.declared.row.Row.{Row}
use Rattle.book.specs.Ranks.{of_side}
use Rattle.clearing.specs.declared.opening.Opening.{Opening}
use Rattle.clearing.specs.declared.opening.SideReport.{SideReport}
use Rattle.clearing.specs.declared.opening.Report.{Report}
use Rattle.clearing.specs.Openings.{routed_on, cancelled_on}

-- the price that a row is shown at
abbrev pub price_shown : Row → Option ℕ
price_shown r = cond (nat_lt 0 r.shown) (Some r.shown) None

-- the best price shown by the rows of a side
abbrev pub best_shown : Side → List Row → Option ℕ
best_shown side rows = fold (λ (a : Option ℕ) (r : Row). cond (of_side side r) (better_of side a (price_shown r)) a) None rows

abbrev pub side_report : Side → List Row → SideReport
side_report side rows = record { routed = routed_on side rows; cancelled = cancelled_on side rows; best = best_shown side rows }

-- of a price in bounds or none, and of the rows then
abbrev pub report_of : Opening → Option ℕ → List Row → Report
report_of o told rows = record { kind = o.kind; price = told; volume = cond (is_some told) o.volume 0; range = o.range; buys = side_report Buy rows; sells = side_report Sell rows }

-- no row of the side is shown better than the best, and one is shown at it; with none, none is shown
pub record BestShown (side : Side) (rows : List Row) (best : Option ℕ) : Type 0 where
  pub covers : (i : ℕ) (d : Row) → i < length rows → of_side side (slice_index_or rows i d) ≡ true → 0 < (slice_index_or rows i d).shown → IsSomeAnd best (λ q. AsGood side q (slice_index_or rows i d).shown)
  pub stands : (q : ℕ) → best ≡ Some q → (0 < q) × ((i : ℕ) × (i < length rows) × ((d : Row) → (of_side side (slice_index_or rows i d) ≡ true) × ((slice_index_or rows i d).shown ≡ q)))

abbrev pub ShowsBest : Report → List Row → Type 0
ShowsBest told rows = BestShown Buy rows told.buys.best × BestShown Sell rows told.sells.best

-- What the rows want at a price, and through it.
use Rattle.std.specs.Prelude.{ℕ, Bool, false, List, ◌==◌}
use Rattle.interest.specs.declared.Side.{Side}
use Rattle.interest.specs.declared.Side.TheVariants.{Buy, Sell}
use Rattle.interest.specs.declared.Limit.{Limit}
use Rattle.interest.specs.declared.Limit.TheVariants.{Market, At}
use Rattle.book.specs.declared.row.Row.{Row}
use Rattle.book.specs.declared.sums.Depth.{Depth}
use Rattle.book.specs.declared.sums.Through.{Through}
use Rattle.book.specs.Ranks.{interest_at, routable_at, interest_through, routable_through}

abbrev pub depth_of : ℕ → List Row → Depth
depth_of p rows = record { buys = interest_at Buy p rows; sells = interest_at Sell p rows; routable_buys = routable_at Buy p rows; routable_sells = routable_at Sell p rows }

abbrev pub through_of : Side → ℕ → List Row → Through
through_of side p rows = record { contracts = interest_through side p rows; routable = routable_through side p rows }

-- limited at just that price
abbrev pub limited_at : ℕ → Limit → Bool
limited_at p Market = false
limited_at p (At x) = x == p

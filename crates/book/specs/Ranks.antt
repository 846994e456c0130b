-- Which rows a price reaches, rank, and sums of contracts, for either side.
use Rattle.std.specs.Prelude.{ℕ, suc, ◌-◌, Bool, true, false, cond, ◌&&◌, List, sum_by, ◌==◌, nat_le, nat_lt}
use Rattle.interest.specs.declared.Side.{Side}
use Rattle.interest.specs.declared.Side.TheVariants.{Buy, Sell}
use Rattle.interest.specs.declared.Class.{Class}
use Rattle.interest.specs.declared.Class.TheVariants.{Routable, Fixed, Other}
use Rattle.interest.specs.declared.Limit.{Limit}
use Rattle.interest.specs.declared.Limit.TheVariants.{Market, At}
use Rattle.interest.specs.Sides.{same_side}
use Rattle.book.specs.declared.row.Row.{Row}

abbrev pub of_side : Side → Row → Bool
of_side side r = same_side r.side side

abbrev pub routable_class : Class → Bool
routable_class Routable = true
routable_class Fixed = false
routable_class Other = false

abbrev pub can_route : Side → Row → Bool
can_route side r = of_side side r && routable_class r.class

-- whether a limit takes a price: market, or limited at it or better
abbrev pub takes_price : Side → ℕ → Limit → Bool
takes_price side p Market = true
takes_price Buy p (At x) = nat_le p x
takes_price Sell p (At x) = nat_le x p

-- whether a limit is through a price: market, or limited at better than it
abbrev pub through_price : Side → ℕ → Limit → Bool
through_price side p Market = true
through_price Buy p (At x) = nat_lt p x
through_price Sell p (At x) = nat_lt x p

-- a number of each row that passes a test, added up
abbrev pub total_of : (Row → ℕ) → (Row → Bool) → List Row → ℕ
total_of f test rows = sum_by (λ r. cond (test r) (f r) 0) rows

-- the contracts left in the rows that pass a test
abbrev pub contracts : (Row → Bool) → List Row → ℕ
contracts test rows = total_of (λ (r : Row). r.left) test rows

-- the contracts of a side at p, its routable ones, and those through p
abbrev pub interest_at : Side → ℕ → List Row → ℕ
interest_at side p rows = contracts (λ r. of_side side r && takes_price side p r.limit) rows

abbrev pub routable_at : Side → ℕ → List Row → ℕ
routable_at side p rows = contracts (λ r. can_route side r && takes_price side p r.limit) rows

abbrev pub interest_through : Side → ℕ → List Row → ℕ
interest_through side p rows = contracts (λ r. of_side side r && through_price side p r.limit) rows

abbrev pub routable_through : Side → ℕ → List Row → ℕ
routable_through side p rows = contracts (λ r. can_route side r && through_price side p r.limit) rows

-- the place of a limit in its side's price order: market rows first, then the best limit; the smaller, the better
abbrev pub rank : Side → Limit → ℕ
rank side Market = 0
rank Buy (At x) = 100001 - x
rank Sell (At x) = x

abbrev pub rank_of : Row → ℕ
rank_of r = rank r.side r.limit

-- the contracts left in rows that pass a test, of a rank below n, and of rank n: one level
abbrev pub below : (Row → Bool) → ℕ → List Row → ℕ
below test n rows = contracts (λ r. test r && nat_lt (rank_of r) n) rows

abbrev pub at_rank : (Row → Bool) → ℕ → List Row → ℕ
at_rank test n rows = contracts (λ r. test r && rank_of r == n) rows

-- the ranks of limits that take p are those below this
abbrev pub ranks_at : Side → ℕ → ℕ
ranks_at side p = suc (rank side (At p))

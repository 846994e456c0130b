-- What the rows of a book and the away market come to at a price.
use Rattle.std.specs.Prelude.{ℕ, ◌-◌, min, Bool, true, false, cond, ◌&&◌, List, Some, None, Option, ◌==◌, nat_le, nat_lt}
use Rattle.interest.specs.declared.Side.{Side}
use Rattle.interest.specs.declared.Side.TheVariants.{Buy, Sell}
use Rattle.interest.specs.Sides.{opposite, same_side}
use Rattle.book.specs.declared.row.Row.{Row}
use Rattle.book.specs.Ranks.{interest_at, routable_at, interest_through, routable_through}
use Rattle.market.specs.Counts.{one_better}
use Rattle.pricing.specs.declared.figures.Mode.{Mode}
use Rattle.pricing.specs.declared.figures.Mode.TheVariants.{Exchange, Routing}
use Rattle.pricing.specs.declared.figures.Unmatched.{Unmatched}
use Rattle.pricing.specs.declared.figures.Unmatched.TheVariants.{Nothing, Buys, Sells}
use Rattle.pricing.specs.declared.figures.Figures.{Figures}

-- the rows, the contracts that the away market shows on a side at a price or better, and the mode
pub record Opening : Type 0 where
  pub rows : List Row
  pub shown : Side → ℕ → ℕ
  pub mode : Mode

abbrev pub opening : List Row → (Side → ℕ → ℕ) → Mode → Opening
opening rows shown mode = record { rows = rows; shown = shown; mode = mode }

-- the better away contracts that rows of a side could have: for buys the better offers, below p; for sells the better bids, above p
abbrev pub better_at : Opening → Side → ℕ → ℕ
better_at o side p = o.shown (opposite side) (one_better (opposite side) p)

-- from the better contracts and the routable ones of a side at p
abbrev pub allowed : Mode → ℕ → ℕ → Bool
allowed Exchange better routable = better == 0
allowed Routing better routable = nat_le better routable

abbrev pub usable_at : Opening → ℕ → Bool
usable_at o p = allowed o.mode (better_at o Buy p) (routable_at Buy p o.rows) && allowed o.mode (better_at o Sell p) (routable_at Sell p o.rows)

-- buys less better offers, and sells less better bids
abbrev pub net_at : Opening → Side → ℕ → ℕ
net_at o side p = interest_at side p o.rows - better_at o side p

abbrev pub volume_at : Opening → ℕ → ℕ
volume_at o p = min (net_at o Buy p) (net_at o Sell p)

-- the difference of buys and sells, on the larger side
abbrev pub unmatched_of : ℕ → ℕ → Unmatched
unmatched_of buys sells = cond (nat_lt sells buys) (Buys (buys - sells)) (cond (nat_lt buys sells) (Sells (sells - buys)) Nothing)

abbrev pub unmatched_at : Opening → ℕ → Unmatched
unmatched_at o p = unmatched_of (net_at o Buy p) (net_at o Sell p)

-- its side, and how many contracts
abbrev pub side_of : Unmatched → Option Side
side_of Nothing = None
side_of (Buys n) = Some Buy
side_of (Sells n) = Some Sell

-- the same side, or none
abbrev pub same_left : Option Side → Option Side → Bool
same_left (Some a) (Some b) = same_side a b
same_left (Some a) None = false
same_left None (Some b) = false
same_left None None = true

abbrev pub contracts_of : Unmatched → ℕ
contracts_of Nothing = 0
contracts_of (Buys n) = n
contracts_of (Sells n) = n

-- of the contracts through a price: routing to better prices takes routable ones first, then filling takes any
abbrev pub left_through : ℕ → ℕ → ℕ → ℕ → ℕ
left_through contracts routable better volume = contracts - min better routable - volume

-- the unmatched contracts through p, by what is unmatched there
abbrev pub through_by : Opening → ℕ → Unmatched → ℕ
through_by o p Nothing = 0
through_by o p (Buys n) = left_through (interest_through Buy p o.rows) (routable_through Buy p o.rows) (better_at o Buy p) (volume_at o p)
through_by o p (Sells n) = left_through (interest_through Sell p o.rows) (routable_through Sell p o.rows) (better_at o Sell p) (volume_at o p)

abbrev pub through_at : Opening → ℕ → ℕ
through_at o p = through_by o p (unmatched_at o p)

-- better contracts are told up to the largest number that fits
abbrev pub figures_at : Opening → ℕ → Figures
figures_at o p = record {
  buys = interest_at Buy p o.rows;
  sells = interest_at Sell p o.rows;
  better_offers = min 4294967295 (better_at o Buy p);
  better_bids = min 4294967295 (better_at o Sell p);
  usable = usable_at o p;
  volume = volume_at o p;
  unmatched = unmatched_at o p;
}

-- those that rows of a side could have
abbrev pub better_of : Figures → Side → ℕ
better_of f Buy = f.better_offers
better_of f Sell = f.better_bids

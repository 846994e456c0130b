-- What a choice means: no price of its range that may be taken trades more.
use Rattle.std.specs.Prelude.{◌≡◌, ℕ, ◌+◌, ◌-◌, ◌<◌, ◌≤◌, min, Bool, true, List, Some, None, Option}
use Rattle.interest.specs.declared.Side.{Side}
use Rattle.interest.specs.declared.Side.TheVariants.{Buy, Sell}
use Rattle.book.specs.declared.row.Row.{Row}
use Rattle.book.specs.Ranks.{interest_at, interest_through, routable_through}
use Rattle.pricing.specs.declared.figures.Unmatched.{Unmatched}
use Rattle.pricing.specs.declared.figures.Unmatched.TheVariants.{Nothing, Buys, Sells}
use Rattle.pricing.specs.declared.figures.Figures.{Figures}
use Rattle.pricing.specs.declared.search.Choice.{Choice}
use Rattle.pricing.specs.Prices.{Opening, better_at, usable_at, net_at, volume_at, unmatched_at, through_at, contracts_of}

-- of n contracts taken best rows first, those taken through the price: at the price only when none is left through it
pub record TakenFirst (n through first : ℕ) : Type 0 where
  pub later : ℕ
  pub all : first + later ≡ n
  pub fits : first ≤ through
  pub before : 0 < later → first ≡ through

-- routing takes routable contracts best rows first, as many as are better away; then filling takes any, as many as the volume
abbrev pub LeftOn : Opening → Side → ℕ → ℕ → Type 0
LeftOn o side p left = (routed filled : ℕ) → TakenFirst (better_at o side p) (routable_through side p o.rows) routed → TakenFirst (volume_at o p) (interest_through side p o.rows - routed) filled → interest_through side p o.rows - routed - filled ≡ left

abbrev pub LeftBy : Opening → ℕ → Unmatched → ℕ → Type 0
LeftBy o p Nothing left = left ≡ 0
LeftBy o p (Buys n) left = LeftOn o Buy p left
LeftBy o p (Sells n) left = LeftOn o Sell p left

pub record Best (permitted : ℕ → Bool) (o : Opening) (low high : ℕ) (c : Choice) : Type 0 where
  pub on_ladder : permitted c.price ≡ true
  pub from : low ≤ c.price
  pub to : c.price ≤ high
  pub usable : usable_at o c.price ≡ true
  pub trades : c.volume ≡ volume_at o c.price
  pub some : 0 < c.volume
  pub most : (q : ℕ) → low ≤ q → q ≤ high → permitted q ≡ true → usable_at o q ≡ true → volume_at o q ≤ c.volume
  pub rest : c.unmatched ≡ unmatched_at o c.price
  pub over : c.through ≡ through_at o c.price
  -- however routing and filling take, that many are left through the price; they are some of the unmatched ones
  pub left : LeftBy o c.price c.unmatched c.through
  pub part : c.through ≤ contracts_of c.unmatched

-- a choice is best; where there is none, no price of the range that may be taken trades anything
abbrev pub Chosen : (ℕ → Bool) → Opening → ℕ → ℕ → Option Choice → Type 0
Chosen permitted o low high None = (q : ℕ) → low ≤ q → q ≤ high → permitted q ≡ true → usable_at o q ≡ true → volume_at o q ≡ 0
Chosen permitted o low high (Some c) = Best permitted o low high c

-- the smaller of buys and sells
abbrev pub crossing : List Row → ℕ → ℕ
crossing rows p = min (interest_at Buy p rows) (interest_at Sell p rows)

-- without routing the volume is the smaller of buys and sells; where nothing unmatched is through the price, no price whatever has more
pub record Crosses (rows : List Row) (c : Choice) : Type 0 where
  pub crossed : c.volume ≡ crossing rows c.price
  pub most : c.through ≡ 0 → (q : ℕ) → crossing rows q ≤ c.volume

abbrev pub CrossesMost : List Row → Option Choice → Type 0
CrossesMost rows None = Unit {0}
CrossesMost rows (Some c) = Crosses rows c

-- as the price rises from p, buys less better offers never grow and sells less better bids never fall
abbrev pub Slope : Opening → ℕ → Figures → Type 0
Slope o p f = (q : ℕ) → p ≤ q → (net_at o Buy q ≤ f.buys - f.better_offers) × (f.sells - f.better_bids ≤ net_at o Sell q)

abbrev pub Slopes : Opening → ℕ → Option Figures → Type 0
Slopes o p None = Unit {0}
Slopes o p (Some f) = Slope o p f

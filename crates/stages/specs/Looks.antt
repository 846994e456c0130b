-- What the rules find when they look at the rows and the away market.
use Rattle.std.specs.Prelude.{◌≡◌, ℕ, ◌<◌, ◌≤◌, Bool, true, false, cond, not, ◌&&◌, ◌||◌, List, is_some, Some, None, Option, unwrap_or, ◌==◌, nat_lt}
use Rattle.interest.specs.declared.Side.{Side}
use Rattle.interest.specs.declared.Side.TheVariants.{Buy, Sell}
use Rattle.interest.specs.Sides.{opposite}
use Rattle.market.specs.Counts.{best_of}
use Rattle.book.specs.declared.row.Row.{Row}
use Rattle.book.specs.Ranks.{routable_at}
use Rattle.book.specs.Reads.{best_quote}
use Rattle.ranges.specs.declared.Quotes.{Quotes}
use Rattle.ranges.specs.declared.Away.{Away}
use Rattle.ranges.specs.declared.Range.{Range}
use Rattle.ranges.specs.Bands.{quality_market}
use Rattle.ranges.specs.Ranges.{from_to, quick_range, opening_range}
use Rattle.pricing.specs.declared.figures.Mode.TheVariants as mode
use Rattle.pricing.specs.declared.search.Choice.{Choice}
use Rattle.pricing.specs.Scan.{greatest}
use Rattle.pricing.specs.Scenes.{Scene, chosen_in}
use Rattle.pricing.specs.Best.{crossing}
use Rattle.clearing.specs.declared.opening.Kind.{Kind}
use Rattle.clearing.specs.declared.opening.Kind.TheVariants.{Plain, Quick, Exchange, Forced}
use Rattle.clearing.specs.declared.opening.Opening.{Opening}

-- qb and qo: the highest bid and the lowest offer of the quotes, 0 where there is none
abbrev pub quotes_of : List Row → Quotes
quotes_of rows = record { bid = unwrap_or (best_quote Buy rows) 0; offer = unwrap_or (best_quote Sell rows) 0 }

abbrev pub away_of : (Side → ℕ → ℕ) → Away
away_of shown = record { bid = best_of Buy (shown Buy); offer = best_of Sell (shown Sell) }

abbrev pub range_of : List Row → (Side → ℕ → ℕ) → Range
range_of rows shown = opening_range (quotes_of rows) (away_of shown)

-- the routing choice in the opening range
abbrev pub routing_choice : Scene → Option Choice
routing_choice x = chosen_in x mode.Routing (range_of x.rows x.shown)

-- the exchange-only choice from qb to qo
abbrev pub quoted_choice : Scene → Option Choice
quoted_choice x = chosen_in x mode.Exchange (from_to (quotes_of x.rows).bid (quotes_of x.rows).offer)

-- an opening at a choice
abbrev pub opening_at : Kind → Range → Choice → Opening
opening_at kind range c = record { kind = kind; price = Some c.price; volume = c.volume; range = range }

-- a choice opens if nothing unmatched is through it
abbrev pub cleanly : Kind → Range → Option Choice → Option Opening
cleanly kind range None = None
cleanly kind range (Some c) = cond (c.through == 0) (Some (opening_at kind range c)) None

-- kind 3: the exchange-only choice in the opening range
abbrev pub exchange_opening : Scene → Option Opening
exchange_opening x = cleanly Exchange (range_of x.rows x.shown) (chosen_in x mode.Exchange (range_of x.rows x.shown))

-- kind 5: with or without a price
abbrev pub forced_opening : Range → Option Choice → Opening
forced_opening range None = record { kind = Forced; price = None; volume = 0; range = range }
forced_opening range (Some c) = opening_at Forced range c

-- the greatest smaller-of-buys-and-sells of the permitted prices up to one
unfoldable pub crossable_to : ℕ → (ℕ → Bool) → List Row → ℕ
crossable_to top permitted rows = greatest (λ p. cond (permitted p) (crossing rows p) 0) 1 top

-- and of all permitted prices
abbrev pub crossable : (ℕ → Bool) → List Row → ℕ
crossable permitted rows = crossable_to 100000 permitted rows

-- what it means: no permitted price has more, and one has as much
pub record MostCrossing (permitted : ℕ → Bool) (rows : List Row) (n : ℕ) : Type 0 where
  pub covers : (p : ℕ) → permitted p ≡ true → crossing rows p ≤ n
  pub attained : 0 < n → (p : ℕ) × (permitted p ≡ true) × (crossing rows p ≡ n)

-- a routable row of the side could take an away price
abbrev pub reached_by : List Row → Side → Option ℕ → Bool
reached_by rows side None = false
reached_by rows side (Some away) = nat_lt 0 (routable_at side away rows)

abbrev pub could_route : Scene → Side → Bool
could_route x side = reached_by x.rows side (best_of (opposite side) (x.shown (opposite side)))

-- no bid is quoted, no away price is shown, and there is no quality market
abbrev pub unquoted : Quotes → Away → Bool
unquoted q a = q.bid == 0 && (not (is_some a.bid || is_some a.offer) && not (quality_market q))

-- kind 1: no permitted price has both buys and sells, no routable row could take an away price, and the series is quoted somewhere
abbrev pub plainly : Scene → Bool
plainly x = crossable x.permitted x.rows == 0 && (not (could_route x Buy || could_route x Sell) && not (unquoted (quotes_of x.rows) (away_of x.shown)))

abbrev pub plain_opening : Opening
plain_opening = record { kind = Plain; price = None; volume = 0; range = from_to 0 0 }

-- kind 2: the exchange-only choice in the quick range trades as much as any permitted price could, and nothing unmatched is through it
abbrev pub quick_at : Scene → Range → Option Choice → Option Opening
quick_at x range None = None
quick_at x range (Some c) = cond (crossing x.rows c.price == crossable x.permitted x.rows && c.through == 0) (Some (opening_at Quick range c)) None

abbrev pub quick_in : Scene → Option Range → Option Opening
quick_in x None = None
quick_in x (Some range) = quick_at x range (chosen_in x mode.Exchange range)

abbrev pub quick_opening : Scene → Option Opening
quick_opening x = quick_in x (quick_range (quotes_of x.rows) (away_of x.shown))

-- the opening that needs no message, if there is one
abbrev pub at_once : Scene → Option Opening
at_once x = cond (plainly x) (Some plain_opening) (quick_opening x)

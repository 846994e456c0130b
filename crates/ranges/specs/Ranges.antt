-- The ranges of prices that an opening looks in, from the quotes and the away market.
use Rattle.std.specs.Prelude.{◌≡◌, ℕ, ◌+◌, ◌-◌, ◌≤◌, min, max, Bool, true, false, cond, ◌||◌, is_some, Some, None, Option, nat_le, nat_lt}
use Rattle.std.specs.Option.{unwrap_or}
use Rattle.interest.specs.Bounds.{priced}
use Rattle.ranges.specs.declared.Quotes.{Quotes}
use Rattle.ranges.specs.declared.Away.{Away}
use Rattle.ranges.specs.declared.Range.{Range}
use Rattle.ranges.specs.Bands.{band_of, quality_market}

abbrev pub from_to : ℕ → ℕ → Range
from_to l h = record { low = l; high = h }

-- from the highest bid to the lowest offer, quotes and away together
abbrev pub spread_of : Quotes → Away → Range
spread_of q a = from_to (max q.bid (unwrap_or a.bid q.bid)) (min q.offer (unwrap_or a.offer q.offer))

-- from the away bid to the away offer, if both are shown
abbrev pub both_shown : Option ℕ → Option ℕ → Option Range
both_shown (Some b) (Some o) = Some (from_to b o)
both_shown (Some b) None = None
both_shown None o = None

-- crossed quotes leave the away market's own; otherwise the spread, if an away price is shown or the quotes alone,
-- which are then the whole spread, make a quality market
abbrev pub quick_range : Quotes → Away → Option Range
quick_range q a = cond (nat_lt q.offer q.bid)
    (both_shown a.bid a.offer)
    (cond (is_some a.bid || (is_some a.offer || quality_market q)) (Some (spread_of q a)) None)

-- a bid reaches an offer shown at or below it, an offer a bid shown at or above it
abbrev pub bid_reaches : ℕ → Option ℕ → Bool
bid_reaches b (Some o) = nat_le o b
bid_reaches b None = false

abbrev pub offer_reaches : ℕ → Option ℕ → Bool
offer_reaches o (Some b) = nat_le o b
offer_reaches o None = false

-- the quotes are crossed, or one reaches the away price of the other side
abbrev pub reaching : Quotes → Away → Bool
reaching q a = nat_lt q.offer q.bid || (bid_reaches q.bid a.offer || offer_reaches q.offer a.bid)

-- each end the away price of its side; one not shown, the least or the greatest of the quotes and the away price that is
abbrev pub away_ends : Quotes → Away → Range
away_ends q a = from_to
    (unwrap_or a.bid (min (min q.bid q.offer) (unwrap_or a.offer q.offer)))
    (unwrap_or a.offer (max (max q.bid q.offer) (unwrap_or a.bid q.bid)))

-- wider at both ends by the amount of its bid's band, and cut to 1 and 100,000
abbrev pub widened : Range → Range
widened r = from_to (max (r.low - (band_of r.low).amount) 1) (min (r.high + (band_of r.low).amount) 100000)

-- where quotes are crossed or reach across, the away ends; otherwise the spread made wider
abbrev pub opening_range : Quotes → Away → Range
opening_range q a = cond (reaching q a) (away_ends q a) (widened (spread_of q a))

-- a quote stands, and the away prices shown are prices and not crossed
pub record Standing (q : Quotes) (a : Away) : Type 0 where
  pub offered : priced q.offer ≡ true
  pub bids : q.bid ≤ 100000
  pub away_bid : (b : ℕ) → a.bid ≡ Some b → priced b ≡ true
  pub away_offer : (o : ℕ) → a.offer ≡ Some o → priced o ≡ true
  pub uncrossed : (b o : ℕ) → a.bid ≡ Some b → a.offer ≡ Some o → b ≤ o

-- from a price to one that is not below it
pub record Proper (r : Range) : Type 0 where
  pub bottom : 1 ≤ r.low
  pub order : r.low ≤ r.high
  pub top : r.high ≤ 100000

pub record Inside (p : ℕ) (r : Range) : Type 0 where
  pub from_low : r.low ≤ p
  pub to_high : p ≤ r.high

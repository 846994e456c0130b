-- The price of an opening.
use Rattle.std.specs.Prelude.{ℕ, suc, ◌+◌, ◌-◌, ◌/◌, ◌%◌, Bool, cond, ◌&&◌, Some, None, Option, ◌==◌, nat_lt}
use Rattle.std.specs.Option.{unwrap_or, option_map}
use Rattle.ladder.specs.Rungs.{least_at_or_above, greatest_at_or_below}
use Rattle.interest.specs.declared.Side.{Side}
use Rattle.interest.specs.declared.Side.TheVariants.{Buy, Sell}
use Rattle.pricing.specs.declared.search.Choice.{Choice}
use Rattle.pricing.specs.Prices.{Opening, usable_at, volume_at, unmatched_at, through_at, side_of, same_left, contracts_of}
use Rattle.pricing.specs.Scan.{greatest, lowest, highest}

abbrev pub distance : ℕ → ℕ → ℕ
distance x y = (x - y) + (y - x)

-- of two prices the one nearer the prior close; with no close, or equally near, the upper
abbrev pub nearer : Option ℕ → ℕ → ℕ → ℕ
nearer (Some close) under over = cond (nat_lt (distance under close) (distance over close)) under over
nearer None under over = over

-- the midpoint of two permitted prices, or the nearer of its permitted neighbours where it is a half cent or is not permitted
abbrev pub middle : (ℕ → Bool) → Option ℕ → ℕ → ℕ → ℕ
middle permitted close a z = cond ((a + z) % 2 == 0 && permitted ((a + z) / 2)) ((a + z) / 2)
    (nearer close (unwrap_or (greatest_at_or_below permitted ((a + z) / 2)) a) (unwrap_or (least_at_or_above permitted ((a + z + 1) / 2)) z))

-- what is told of a chosen price
abbrev pub choice_at : Opening → ℕ → Choice
choice_at o p = record { price = p; volume = volume_at o p; unmatched = unmatched_at o p; through = through_at o p }

module _ (permitted : ℕ → Bool) (o : Opening) where
  -- the volume at p, and 0 where p may not be the price
  abbrev pub traded_at : ℕ → ℕ
  traded_at p = cond (permitted p && usable_at o p) (volume_at o p) 0

  -- p has the greatest volume v, and leaves that side unmatched, or nothing
  abbrev pub leaves : Option Side → ℕ → ℕ → Bool
  leaves side v p = traded_at p == v && same_left (side_of (unmatched_at o p)) side

  -- of a price that leaves buys and one that leaves sells, the one that leaves more; if equal, the former
  abbrev pub larger : ℕ → ℕ → ℕ
  larger x y = cond (nat_lt (contracts_of (unmatched_at o x)) (contracts_of (unmatched_at o y))) y x

  -- from the lowest and the highest price that leave nothing, the highest that leaves buys and the lowest that leaves sells
  abbrev pub settled : Option ℕ → Option ℕ → Option ℕ → Option ℕ → Option ℕ → Option ℕ
  settled close (Some a) z x y = Some (middle permitted close a (unwrap_or z a))
  settled close None z (Some x) (Some y) = Some (larger x y)
  settled close None z (Some x) None = Some x
  settled close None z None y = y

  -- among the n prices from low up, those of the volume v
  abbrev pub price_with : ℕ → ℕ → Option ℕ → ℕ → Option ℕ
  price_with low n close v = cond (v == 0) None
      (settled close (lowest (leaves None v) low n) (highest (leaves None v) low n) (highest (leaves (Some Buy) v) low n) (lowest (leaves (Some Sell) v) low n))

  abbrev pub price_of : ℕ → ℕ → Option ℕ → Option ℕ
  price_of low n close = price_with low n close (greatest traded_at low n)

  -- the choice in the range from low to high
  abbrev pub choice_in : ℕ → ℕ → Option ℕ → Option Choice
  choice_in low high close = option_map (choice_at o) (price_of low (suc high - low) close)

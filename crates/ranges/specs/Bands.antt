-- The five bands by bid, and the rule by which a bid has its band.
use Rattle.std.specs.Prelude.{◌≡◌, ℕ, ◌-◌, ◌<◌, ◌≤◌, Bool, cond, ◌&&◌, List, [], ◌∷◌, ◌++◌, nat_le}
use Rattle.std.specs.List.{AllByRecursion}
use Rattle.ranges.specs.declared.Band.{Band}
use Rattle.ranges.specs.declared.Quotes.{Quotes}

-- the bid that a band starts at, its valid width, its quality width and its amount
abbrev pub band_from : ℕ → ℕ → ℕ → ℕ → Band
band_from bid v q a = record { from = bid; valid = v; quality = q; amount = a }

abbrev pub lowest_band : Band
lowest_band = band_from 0 50 25 10

abbrev pub higher_bands : List Band
higher_bands = band_from 200 80 40 20 ∷ band_from 500 100 50 25 ∷ band_from 1000 160 80 40 ∷ band_from 2000 200 100 50 ∷ []

abbrev pub band_table : List Band
band_table = lowest_band ∷ higher_bands

-- the last of some bands that starts at or below the bid, or b where none does
abbrev pub last_reached : ℕ → List Band → Band → Band
last_reached bid [] b = b
last_reached bid (x ∷ xs) b = last_reached bid xs (cond (nat_le x.from bid) x b)

-- every bid reaches the lowest band
unfoldable pub band_of : ℕ → Band
band_of bid = last_reached bid higher_bands lowest_band

-- b is one of some bands: it starts at or below the bid, and all that come after it start above
pub record LastReached (xs : List Band) (bid : ℕ) (b : Band) : Type 0 where
  pub before : List Band
  pub after : List Band
  pub table : xs ≡ before ++ (b ∷ after)
  pub starts : b.from ≤ bid
  pub beyond : AllByRecursion (λ x. bid < x.from) after

-- no width of x is smaller than that of b
pub record NoNarrower (b x : Band) : Type 0 where
  pub valid_width : b.valid ≤ x.valid
  pub quality_width : b.quality ≤ x.quality
  pub amounts : b.amount ≤ x.amount

-- an offer above the bid by at most the valid width
abbrev pub valid_quote : ℕ → ℕ → Bool
valid_quote bid offer = nat_le (offer - bid) (band_of bid).valid

-- a bid at most the offer, and the offer above it by at most the quality width
abbrev pub quality_market : Quotes → Bool
quality_market q = nat_le q.bid q.offer && nat_le (q.offer - q.bid) (band_of q.bid).quality

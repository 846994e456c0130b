-- Worked cases of the rules. Unless said: every cent permitted, the range from 100 to 110, no prior close and nothing away.
use Rattle.std.specs.Prelude.{◌≡◌, ℕ, ◌+◌, ◌-◌, true, false, List, [], ◌∷◌, Some, None, Option}
use Rattle.interest.specs.declared.Side.{Side}
use Rattle.interest.specs.declared.Side.TheVariants.{Buy, Sell}
use Rattle.interest.specs.declared.Class.{Class}
use Rattle.interest.specs.declared.Class.TheVariants.{Routable, Fixed, Other}
use Rattle.interest.specs.declared.Limit.TheVariants.{At}
use Rattle.interest.specs.Bounds.{priced}
use Rattle.sharing.specs.declared.level.Holding.{Holding}
use Rattle.sharing.specs.ProRata.{size_shares}
use Rattle.market.specs.declared.single.SingleMarket.{SingleMarket}
use Rattle.market.specs.declared.depth.DepthLevel.{DepthLevel}
use Rattle.market.specs.Counts.{counted}
use Rattle.market.specs.Entries.{single_shown}
use Rattle.market.specs.Levels.{levels_show}
use Rattle.book.specs.declared.row.Owner.TheVariants.{Order}
use Rattle.book.specs.declared.row.Row.{Row}
use Rattle.pricing.specs.declared.figures.Mode.TheVariants.{Exchange, Routing}
use Rattle.pricing.specs.declared.figures.Unmatched.{Unmatched}
use Rattle.pricing.specs.declared.figures.Unmatched.TheVariants.{Nothing, Buys, Sells}
use Rattle.pricing.specs.declared.search.Choice.{Choice}
use Rattle.pricing.specs.Scenes.{scene, chosen_in}
use Rattle.ranges.specs.declared.Range.{Range}
use Rattle.ranges.specs.Bands.{valid_quote}
use Rattle.ranges.specs.Ranges.{opening_range}

abbrev order : Side → Class → ℕ → ℕ → Row
order side class n p = record { owner = Order 1; side = side; limit = At p; class = class; size = n; traded = 0; routed = 0; cancelled = 0; left = n; working = 0; shown = 0 }

abbrev offering : ℕ → ℕ → SingleMarket
offering n p = record { bid = None; offer = Some (record { price = p; size = n }) }

abbrev nobody : Side → ℕ → ℕ
nobody side p = 0

abbrev pub between : ℕ → ℕ → Range
between low high = record { low = low; high = high }

-- nothing unmatched is through the price in any of the cases
abbrev choice : ℕ → ℕ → Unmatched → Option Choice
choice p v unmatched = Some (record { price = p; volume = v; unmatched = unmatched; through = 0 })

-- in an exchange-only opening
abbrev alone : Option ℕ → List Row → Option Choice
alone close rows = chosen_in (scene priced close rows nobody) Exchange (between 100 110)

-- in a routing one, against an away offer
abbrev against : SingleMarket → List Row → Option Choice
against away rows = chosen_in (scene priced None rows (single_shown away)) Routing (between 100 110)

abbrev crossing : ℕ → List Row
crossing n = order Buy Other 100 104 ∷ order Buy Other 50 110 ∷ order Sell Other 50 100 ∷ order Sell Other n 105 ∷ []

abbrev routable : List Row
routable = order Buy Routable 30 110 ∷ order Buy Other 20 110 ∷ order Sell Other 40 105 ∷ []

abbrev holding : Class → ℕ → Holding
holding class size = record { class = class; size = size }

abbrev offers : List DepthLevel
offers = record { side = Sell; price = 102; size = 20 } ∷ record { side = Sell; price = 104; size = 5 } ∷ []

-- an offer of 10 at 103, paired with those; and what a send of 25 at 103 leaves
abbrev paired : ℕ → ℕ
paired p = single_shown (offering 10 103) Sell p + levels_show Sell offers p

abbrev left : ℕ → ℕ
left p = paired p - counted paired 103 25

abbrev quoted : ℕ → ℕ → Range
quoted bid offer = opening_range (record { bid = bid; offer = offer }) (record { bid = None; offer = None })

pub record WorkedCases : Type 0 where
  pub one_side_larger : alone None (order Buy Other 100 110 ∷ order Sell Other 50 100 ∷ []) ≡ choice 110 50 (Buys 50)
  pub both_equal : alone None (order Buy Other 100 110 ∷ order Sell Other 100 100 ∷ []) ≡ choice 105 100 Nothing
  pub half_cent : alone None (order Buy Other 10 105 ∷ order Sell Other 10 100 ∷ []) ≡ choice 103 10 Nothing
  pub half_cent_by_close : alone (Some 90) (order Buy Other 10 105 ∷ order Sell Other 10 100 ∷ []) ≡ choice 102 10 Nothing
  pub tie : alone None (crossing 100) ≡ choice 104 50 (Buys 100)
  pub more_sells : alone None (crossing 120) ≡ choice 105 50 (Sells 120)
  pub better_offers : against (offering 25 103) routable ≡ choice 105 25 (Sells 15)
  pub too_many_better : against (offering 31 103) routable ≡ None
  pub pro_rata : size_shares 10 (holding Fixed 4 ∷ holding Other 7 ∷ holding Other 5 ∷ holding Other 3 ∷ []) ≡ 4 ∷ 3 ∷ 2 ∷ 1 ∷ []
  pub sent : counted paired 103 25 ≡ 25
  pub sent_102 : left 102 ≡ 0
  pub sent_103 : left 103 ≡ 5
  pub sent_104 : left 104 ≡ 10
  pub range_of_200_210 : quoted 200 210 ≡ between 180 230
  pub range_of_199_210 : quoted 199 210 ≡ between 189 220
  pub valid : valid_quote 199 249 ≡ true
  pub too_wide : valid_quote 199 250 ≡ false

-- What one entry, and a market of one entry to a side, shows.
use Rattle.std.specs.Prelude.{ℕ, ◌-◌, Bool, cond, ◌&&◌, Some, None, Option}
use Rattle.interest.specs.Bounds.{priced, sized}
use Rattle.interest.specs.declared.Side.{Side}
use Rattle.interest.specs.declared.Side.TheVariants.{Buy, Sell}
use Rattle.market.specs.Counts.{reaches}
use Rattle.market.specs.declared.single.Entry.{Entry}
use Rattle.market.specs.declared.single.SingleMarket.{SingleMarket}

abbrev pub in_bounds : ℕ → ℕ → Bool
in_bounds price size = priced price && sized size

-- what so many contracts at a price show at p
abbrev pub shows : Side → ℕ → ℕ → ℕ → ℕ
shows d price size p = cond (in_bounds price size) (cond (reaches d price p) size 0) 0

abbrev pub entry_shows : Side → Option Entry → ℕ → ℕ
entry_shows d None p = 0
entry_shows d (Some e) p = shows d e.price e.size p

-- an entry with m contracts less
abbrev pub lessened : Option Entry → ℕ → Option Entry
lessened None m = None
lessened (Some e) m = Some (record { price = e.price; size = e.size - m })

abbrev pub entry_of : SingleMarket → Side → Option Entry
entry_of s Buy = s.bid
entry_of s Sell = s.offer

abbrev pub with_entry : SingleMarket → Side → Option Entry → SingleMarket
with_entry s Buy e = record { bid = e; offer = s.offer }
with_entry s Sell e = record { bid = s.bid; offer = e }

abbrev pub single_shown : SingleMarket → Side → ℕ → ℕ
single_shown s d p = entry_shows d (entry_of s d) p

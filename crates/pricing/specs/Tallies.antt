-- What a walk over prices keeps, and what it has seen.
use Rattle.std.specs.Prelude.{◌≡◌, ℕ, ◌<◌, Bool, cond, ◌&&◌, Some, None, Option, ◌==◌, nat_le, nat_lt}
use Rattle.std.specs.Option.{option_map, option_or, unwrap_or}
use Rattle.interest.specs.declared.Side.TheVariants.{Buy, Sell}
use Rattle.pricing.specs.declared.figures.Unmatched.{Unmatched}
use Rattle.pricing.specs.declared.figures.Unmatched.TheVariants.{Nothing, Buys, Sells}
use Rattle.pricing.specs.declared.figures.Figures.{Figures}
use Rattle.pricing.specs.declared.search.Lead.{Lead}
use Rattle.pricing.specs.declared.search.Tally.{Tally}
use Rattle.pricing.specs.Prices.{Opening, unmatched_at, contracts_of}
use Rattle.pricing.specs.Scan.{greatest, lowest, highest}
use Rattle.pricing.specs.Choosing.{traded_at, leaves, middle}

abbrev pub lead_of : ℕ → ℕ → Lead
lead_of p n = record { price = p; contracts = n }

-- nothing seen yet of the volume v
abbrev pub fresh : ℕ → Tally
fresh v = record { volume = v; first = None; last = None; buys = None; sells = None }

-- one price more of the tally's volume
abbrev pub joined : Tally → ℕ → Unmatched → Tally
joined t p Nothing = record { volume = t.volume; first = option_or t.first (Some p); last = Some p; buys = t.buys; sells = t.sells }
joined t p (Buys n) = record { volume = t.volume; first = t.first; last = t.last; buys = Some (lead_of p n); sells = t.sells }
joined t p (Sells n) = record { volume = t.volume; first = t.first; last = t.last; buys = t.buys; sells = option_or t.sells (Some (lead_of p n)) }

-- one permitted price more
abbrev pub stepped : Tally → ℕ → Figures → Tally
stepped t p f = cond (f.usable && (nat_lt 0 f.volume && nat_le t.volume f.volume))
    (joined (cond (nat_lt t.volume f.volume) (fresh f.volume) t) p f.unmatched)
    t

abbrev pub lead_at : Opening → ℕ → Lead
lead_at o p = lead_of p (contracts_of (unmatched_at o p))

-- the tally has what a choice asks of the n prices from low up that have the volume v
pub record Tops (permitted : ℕ → Bool) (o : Opening) (low n v : ℕ) (t : Tally) : Type 0 where
  pub first : t.first ≡ lowest (leaves permitted o None v) low n
  pub last : t.last ≡ highest (leaves permitted o None v) low n
  pub buys : t.buys ≡ option_map (lead_at o) (highest (leaves permitted o (Some Buy) v) low n)
  pub sells : t.sells ≡ option_map (lead_at o) (lowest (leaves permitted o (Some Sell) v) low n)

pub record Seen (permitted : ℕ → Bool) (o : Opening) (low n : ℕ) (t : Tally) : Type 0 where
  pub volume : t.volume ≡ greatest (traded_at permitted o) low n
  pub tops : 0 < t.volume → Tops permitted o low n t.volume t

-- of two leads the larger; if equal, the former
abbrev pub larger_lead : Lead → Lead → ℕ
larger_lead x y = cond (nat_lt x.contracts y.contracts) y.price x.price

abbrev pub leading_of : Option Lead → Option Lead → Option ℕ
leading_of (Some x) (Some y) = Some (larger_lead x y)
leading_of (Some x) None = Some x.price
leading_of None y = option_map (λ (l : Lead). l.price) y

-- the price that a tally comes to
abbrev pub comes_to_by : (ℕ → Bool) → Option ℕ → Option ℕ → Option ℕ → Option Lead → Option Lead → Option ℕ
comes_to_by permitted close (Some a) z x y = Some (middle permitted close a (unwrap_or z a))
comes_to_by permitted close None z x y = leading_of x y

abbrev pub comes_to : (ℕ → Bool) → Option ℕ → Tally → Option ℕ
comes_to permitted close t = cond (t.volume == 0) None (comes_to_by permitted close t.first t.last t.buys t.sells)

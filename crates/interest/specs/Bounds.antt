-- The bounds of prices, sizes and maker numbers.
use Rattle.std.specs.Prelude.{Bool, ◌&&◌, ℕ, nat_le}

-- whole cents
abbrev pub priced : ℕ → Bool
priced p = nat_le 1 p && nat_le p 100000

-- contracts
abbrev pub sized : ℕ → Bool
sized n = nat_le 1 n && nat_le n 1000000

abbrev pub maker_numbered : ℕ → Bool
maker_numbered m = nat_le 1 m && nat_le m 16

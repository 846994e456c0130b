-- The bounds of the settings.
use Rattle.std.specs.Prelude.{ℕ, Bool, true, ◌&&◌, Some, None, Option, nat_le}
use Rattle.interest.specs.Bounds.{priced}
use Rattle.stages.specs.declared.settings.Settings.{Settings}

abbrev pub between : ℕ → ℕ → ℕ → Bool
between low high n = nat_le low n && nat_le n high

-- a prior close is a price
abbrev pub close_in_bounds : Option ℕ → Bool
close_in_bounds None = true
close_in_bounds (Some close) = priced close

abbrev pub in_bounds : Settings → Bool
in_bounds s = close_in_bounds s.close && (between 100 5000 s.underlying && (between 1 120000 s.window && (between 1 3000 s.imbalance && (between 1 1000 s.route && nat_le s.extra 4))))

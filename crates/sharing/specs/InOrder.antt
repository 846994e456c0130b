-- Sharing in the order of time.
use Rattle.std.specs.Prelude.{ℕ, ◌-◌, min, List, [], ◌∷◌}
use Rattle.sharing.specs.declared.level.Holding.{Holding}
use Rattle.sharing.specs.Totals.{contracts}

-- each size in order as much as is left of the quantity
abbrev pub in_order : ℕ → List ℕ → List ℕ
in_order q [] = []
in_order q (n ∷ ns) = min n q ∷ in_order (q - n) ns

abbrev pub time_shares : ℕ → List Holding → List ℕ
time_shares q rows = in_order q (contracts rows)

-- Lists of contracts.
use Rattle.std.specs.Prelude.{ℕ, ◌+◌, ◌-◌, ◌≤◌, List, [], ◌∷◌, ◌++◌, map, length, replicate}
use Rattle.sharing.specs.declared.level.Holding.{Holding}

abbrev pub total : List ℕ → ℕ
total [] = 0
total (n ∷ ns) = n + total ns

-- the size of each row
abbrev pub contracts : List Holding → List ℕ
contracts rows = map (λ (h : Holding). h.size) rows

-- place by place at most
abbrev pub EachAtMost : List ℕ → List ℕ → Type 0
EachAtMost [] ms = Unit {0}
EachAtMost (n ∷ ns) [] = Unit {0}
EachAtMost (n ∷ ns) (m ∷ ms) = (n ≤ m) × EachAtMost ns ms

-- a list as an array of 128: 0 at every place past its end
abbrev pub padded : List ℕ → List ℕ
padded ns = ns ++ replicate (128 - length ns) 0

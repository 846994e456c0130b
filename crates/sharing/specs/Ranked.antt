-- Sharing by rank as the code goes about it, over claims: sizes with their parts.
use Rattle.std.specs.Prelude.{ℕ, suc, ◌+◌, ◌-◌, min, List, [], ◌∷◌, ◌++◌, map, filter, sum_by, nat_le}
use Rattle.sharing.specs.declared.ranks.Claim.{Claim}

abbrev pub sizes_in : List Claim → List ℕ
sizes_in claims = map (λ (c : Claim). c.size) claims

abbrev pub parts_in : List Claim → List ℕ
parts_in claims = map (λ (c : Claim). c.part) claims

-- the parts of the claims whose size is `from` or larger
abbrev pub claimed_in : ℕ → List Claim → ℕ
claimed_in from claims = sum_by (λ (c : Claim). c.part) (filter (λ (c : Claim). nat_le from c.size) claims)

-- each claim's part, or what is left once the earlier ones that are as large and the later ones that are larger have theirs
abbrev pub ranked : ℕ → List Claim → List Claim → List ℕ
ranked q earlier [] = []
ranked q earlier (c ∷ later) = min c.part (q - (claimed_in c.size earlier + claimed_in (suc c.size) later)) ∷ ranked q (earlier ++ c ∷ []) later

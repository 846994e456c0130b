-- Claims, and the sizes and parts that they stand for.
use Rattle.std.proofs.Common.{◌≡◌, ℕ, suc, ◌+◌, ◌-◌, ◌<◌, ◌≤◌, min, true, false, cond, List, [], ◌∷◌, ◌++◌, map, sum, sum_by, not, length, filter, nat_le, take, drop, get_or, refl, ap, ap₂, ◌∙◌, sym, zero-add, arith}
use Rattle.std.proofs.lemmas.List.{map-append}
use Rattle.std.proofs.lemmas.List.Filters.{sum_by-filter_both}
use Rattle.std.proofs.lemmas.List.Sums.{sum-map, sum_by-cons, sum_by-take-le, sum_by-take-drop, get_or-le-sum_by}
use Rattle.sharing.specs.declared.ranks.Claim.{Claim}
use Rattle.sharing.specs.Totals.{total}
use Rattle.sharing.specs.ProRata.{part, claimed, by_rank, pro_rata}
use Rattle.sharing.specs.Ranked.{sizes_in, parts_in, claimed_in, ranked}

claimed_in-cons : (from : ℕ) (c : Claim) (cs : List Claim) → claimed_in from (c ∷ cs) ≡ cond (nat_le from c.size) c.part 0 + claimed_in from cs
claimed_in-cons from c cs =
    let rest = filter (λ (x : Claim). nat_le from x.size) cs in
    let part : Claim → ℕ = λ x. x.part in
    elim (nat_le from c.size) as (λ b. sum_by part (cond b (c ∷ rest) rest) ≡ cond b c.part 0 + sum_by part rest) [
      | true ↦ sum_by-cons part c rest
      | false ↦ sym (zero-add (sum_by part rest))
    ]

-- as the code sums it: each claim, with 0 for one that is too small
pub claimed_in-each : (from : ℕ) (cs : List Claim) → sum_by (λ (c : Claim). cond (nat_le from c.size) c.part 0) cs ≡ claimed_in from cs
claimed_in-each from [] = refl
claimed_in-each from (c ∷ cs) =
    let counted : Claim → ℕ = λ x. cond (nat_le from x.size) x.part 0 in
    sum_by-cons counted c cs ∙ ap (λ n. counted c + n) (claimed_in-each from cs) ∙ sym (claimed_in-cons from c cs)

pub claimed_in-le : (from : ℕ) (cs : List Claim) → claimed_in from cs ≤ sum (parts_in cs)
claimed_in-le from cs =
    let part : Claim → ℕ = λ x. x.part in
    omega (arith, sum_by-filter_both (λ (x : Claim). nat_le from x.size) (λ x. not (nat_le from x.size)) (λ x. refl) part cs, sum-map part cs)

pub front-le : (k : ℕ) (cs : List Claim) → sum (parts_in (take k cs)) ≤ sum (parts_in cs)
front-le k cs = let part : Claim → ℕ = λ x. x.part in omega (arith, sum-map part (take k cs), sum-map part cs, sum_by-take-le part cs k)

pub back-le : (k : ℕ) (cs : List Claim) → sum (parts_in (drop k cs)) ≤ sum (parts_in cs)
back-le k cs = let part : Claim → ℕ = λ x. x.part in omega (arith, sum-map part (drop k cs), sum-map part cs, sum_by-take-drop part cs k)

pub size-le : (cs : List Claim) (i : ℕ) (d : Claim) → i < length cs → (get_or cs i d).size ≤ sum (sizes_in cs)
size-le cs i d lt = let size : Claim → ℕ = λ x. x.size in omega (arith, sum-map size cs, get_or-le-sum_by size cs i d lt)

module _ (p : ℕ → ℕ) where
  claimed-by : (from : ℕ) (cs : List Claim) → parts_in cs ≡ map p (sizes_in cs) → claimed_in from cs ≡ claimed p from (sizes_in cs)
  claimed-by from [] e = refl
  claimed-by from (c ∷ cs) e =
      let first : c.part ≡ p c.size = ap (λ (w : List ℕ). get_or w 0 0) e in
      claimed_in-cons from c cs ∙ ap₂ ◌+◌ (ap (λ (n : ℕ). cond (nat_le from c.size) n 0) first) (claimed-by from cs (ap (drop 1) e))

  -- claims of the parts of sizes are ranked as the sizes are
  ranked-by : (q : ℕ) (earlier cs : List Claim) → parts_in earlier ≡ map p (sizes_in earlier) → parts_in cs ≡ map p (sizes_in cs) → ranked q earlier cs ≡ by_rank p q (sizes_in earlier) (sizes_in cs)
  ranked-by q earlier [] before e = refl
  ranked-by q earlier (c ∷ later) before e =
      let first : c.part ≡ p c.size = ap (λ (w : List ℕ). get_or w 0 0) e in
      let rest : parts_in later ≡ map p (sizes_in later) = ap (drop 1) e in
      let here : min c.part (q - (claimed_in c.size earlier + claimed_in (suc c.size) later)) ≡ min (p c.size) (q - (claimed p c.size (sizes_in earlier) + claimed p (suc c.size) (sizes_in later))) = omega (arith, first, claimed-by c.size earlier before, claimed-by (suc c.size) later rest) in
      let sizes : sizes_in (earlier ++ c ∷ []) ≡ sizes_in earlier ++ c.size ∷ [] = map-append (λ (x : Claim). x.size) earlier (c ∷ []) in
      let parts : parts_in (earlier ++ c ∷ []) ≡ map p (sizes_in (earlier ++ c ∷ [])) =
      map-append (λ (x : Claim). x.part) earlier (c ∷ []) ∙ ap₂ (λ (w : List ℕ) (n : ℕ). w ++ n ∷ []) before first ∙ sym (ap (map p) sizes ∙ map-append p (sizes_in earlier) (c.size ∷ [])) in
      ap₂ (λ (n : ℕ) (w : List ℕ). n ∷ w) here (ranked-by q (earlier ++ c ∷ []) later parts rest ∙ ap (λ (w : List ℕ). by_rank p q w (sizes_in later)) sizes)

pub pro_rata-by : (quantity : ℕ) (ns : List ℕ) (given whole : ℕ) (cs : List Claim) → whole ≡ total ns → given ≡ min quantity whole → sizes_in cs ≡ ns → parts_in cs ≡ map (part (min quantity whole) whole) ns → ranked given [] cs ≡ pro_rata quantity ns
pro_rata-by quantity ns given whole cs is-whole is-given sizes parts =
    let p = part (min quantity whole) whole in
    ranked-by p given [] cs refl (parts ∙ ap (map p) (sym sizes))
    ∙ ap₂ (λ (q : ℕ) (w : List ℕ). by_rank p q [] w) is-given sizes
    ∙ ap (λ (t : ℕ). by_rank (part (min quantity t) t) (min quantity t) [] ns) is-whole

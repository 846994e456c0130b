-- What a size gets by rank, place by place.
use Rattle.std.specs.Prelude.{◌≡◌, ℕ, zero, suc, ◌+◌, ◌-◌, ◌<◌, ◌≤◌, min, List, [], ◌∷◌, ◌++◌, length, slice_index, slice_index_or}
use Rattle.std.proofs.Common.{ap, arith, inl, inr}
use Rattle.std.proofs.lemmas.List.{append_assoc}
use Rattle.std.proofs.lemmas.Bool.{cases_lt}
use Rattle.sharing.specs.ProRata.{claimed, by_rank}
use Rattle.sharing.specs.Claims.{claimed-yes, claimed-no, claimed-append, claimed-down}

module _ (p : ℕ → ℕ) (q : ℕ) where
  pub rank-part : (earlier ns : List ℕ) (i : ℕ) → slice_index (by_rank p q earlier ns) i ≤ p (slice_index ns i)
  rank-part earlier [] i = omega arith
  rank-part earlier (n ∷ later) zero = omega arith
  rank-part earlier (n ∷ later) (suc i) = rank-part (earlier ++ n ∷ []) later i

  pub rank_left : (earlier ns : List ℕ) (i : ℕ) → slice_index (by_rank p q earlier ns) i ≤ q
  rank_left earlier [] i = omega arith
  rank_left earlier (n ∷ later) zero = omega arith
  rank_left earlier (n ∷ later) (suc i) = rank_left (earlier ++ n ∷ []) later i

  -- before it come the earlier ones that are as large, and all that are larger
  pub rank-high : (earlier ns : List ℕ) (i : ℕ) → slice_index (by_rank p q earlier ns) i ≤ q - (claimed p (slice_index ns i) earlier + claimed p (suc (slice_index ns i)) ns)
  rank-high earlier [] i = omega arith
  rank-high earlier (n ∷ later) zero = omega (arith, claimed-no p (suc n) n later (omega arith))
  rank-high earlier (n ∷ later) (suc i) =
      let x = slice_index_or later i 0 in
      let ih = rank-high (earlier ++ n ∷ []) later i in
      let push = claimed-append p x earlier (n ∷ []) in
      elim (cases_lt n x) [
        | inl lt ↦ omega (arith, ih, push, claimed-no p x n [] lt, claimed-no p (suc x) n later (omega arith))
        | inr le ↦ elim (cases_lt n (suc x)) [
          | inl lt ↦ omega (arith, ih, push, claimed-yes p x n [] le, claimed-no p (suc x) n later lt)
          | inr more ↦ omega (arith, ih, push, claimed-yes p x n [] le, claimed-yes p (suc x) n later more)
        ]
      ]

  -- and none but those that are as large
  pub rank-low : (earlier ns : List ℕ) (i : ℕ) → i < length ns → min (p (slice_index ns i)) (q - claimed p (slice_index ns i) (earlier ++ ns)) ≤ slice_index (by_rank p q earlier ns) i
  rank-low earlier [] i lt = absurd (omega arith)
  rank-low earlier (n ∷ later) zero lt =
      omega (arith, claimed-append p n earlier (n ∷ later), claimed-yes p n n later (omega arith), claimed-down p n (suc n) later (omega arith))
  rank-low earlier (n ∷ later) (suc i) lt =
      omega (arith, rank-low (earlier ++ n ∷ []) later i (omega arith), ap (claimed p (slice_index later i)) (append_assoc earlier (n ∷ []) later))

  pub rank-larger : ((m n : ℕ) → m ≤ n → p m ≤ p n) → (ns : List ℕ) (i j : ℕ) → i < length ns → slice_index ns j < slice_index ns i → slice_index (by_rank p q [] ns) j ≤ slice_index (by_rank p q [] ns) i
  rank-larger mono ns i j lt less =
      omega (arith, rank-part [] ns j, rank-high [] ns j, rank-low [] ns i lt, mono (slice_index ns j) (slice_index ns i) (omega arith), claimed-down p (suc (slice_index ns j)) (slice_index ns i) ns less)

  pub rank-earlier : (earlier ns : List ℕ) (i j : ℕ) → i < j → j < length ns → slice_index ns j ≡ slice_index ns i → slice_index (by_rank p q earlier ns) j ≤ slice_index (by_rank p q earlier ns) i
  rank-earlier earlier [] i j lt there e = absurd (omega arith)
  rank-earlier earlier (n ∷ later) i zero lt there e = absurd (omega arith)
  rank-earlier earlier (n ∷ later) zero (suc j) lt there e =
      let same : claimed p (slice_index later j) (earlier ++ n ∷ []) + claimed p (suc (slice_index later j)) later ≡ claimed p n (earlier ++ n ∷ []) + claimed p (suc n) later = ap (λ (x : ℕ). claimed p x (earlier ++ n ∷ []) + claimed p (suc x) later) e in
      omega (arith, rank-high (earlier ++ n ∷ []) later j, rank-part (earlier ++ n ∷ []) later j, ap p e, same, claimed-append p n earlier (n ∷ []))
  rank-earlier earlier (n ∷ later) (suc i) (suc j) lt there e = rank-earlier (earlier ++ n ∷ []) later i j (omega arith) (omega arith) e

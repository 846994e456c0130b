-- The shares by rank add up: size by size from the largest down, and among equals in their order.
use Rattle.std.specs.Prelude.{◌≡◌, ℕ, zero, suc, ◌+◌, ◌-◌, ◌<◌, ◌≤◌, min, cond, List, [], ◌∷◌, ◌++◌, map, length, ◌==◌, nat_le, refl}
use Rattle.std.proofs.Common.{ap, inl, inr, arith}
use Rattle.std.proofs.lemmas.Bool.{cases_order, le-leb, lt-leb, eq-eqb, ne_eqb, cond-true, cond-false}
use Rattle.sharing.specs.Totals.{total, EachAtMost}
use Rattle.sharing.specs.ProRata.{claimed, by_rank}
use Rattle.sharing.specs.Claims.{claimed-yes, claimed-no, claimed-append, claimed-all, claimed-none}

module _ (p : ℕ → ℕ) (q : ℕ) where
  abbrev pub share : List ℕ → ℕ → List ℕ → ℕ
  share earlier n later = min (p n) (q - (claimed p n earlier + claimed p (suc n) later))

  -- what the sizes from s on get, and what those of s get
  abbrev pub shared_from : ℕ → List ℕ → List ℕ → ℕ
  shared_from s earlier [] = 0
  shared_from s earlier (n ∷ later) = cond (nat_le s n) (share earlier n later) 0 + shared_from s (earlier ++ n ∷ []) later

  abbrev pub shared_at : ℕ → List ℕ → List ℕ → ℕ
  shared_at s earlier [] = 0
  shared_at s earlier (n ∷ later) = cond (n == s) (share earlier n later) 0 + shared_at s (earlier ++ n ∷ []) later

  pub split : (s : ℕ) (earlier ns : List ℕ) → shared_from s earlier ns ≡ shared_at s earlier ns + shared_from (suc s) earlier ns
  split s earlier [] = refl
  split s earlier (n ∷ later) =
      let ih = split s (earlier ++ n ∷ []) later in
      let x = share earlier n later in
      elim (cases_order n s) [
        | inl e ↦ omega (arith, ih, cond-true (nat_le s n) x 0 (le-leb s n (omega arith)), cond-true (n == s) x 0 (eq-eqb n s e), cond-false (nat_le (suc s) n) x 0 (lt-leb (suc s) n (omega arith)))
        | inr (inl lt) ↦ omega (arith, ih, cond-false (nat_le s n) x 0 (lt-leb s n lt), cond-false (n == s) x 0 (ne_eqb n s (λ e. omega arith)), cond-false (nat_le (suc s) n) x 0 (lt-leb (suc s) n (omega arith)))
        | inr (inr gt) ↦ omega (arith, ih, cond-true (nat_le s n) x 0 (le-leb s n (omega arith)), cond-false (n == s) x 0 (ne_eqb n s (λ e. omega arith)), cond-true (nat_le (suc s) n) x 0 (le-leb (suc s) n gt))
      ]

  push-yes : (s n : ℕ) (earlier : List ℕ) → s ≤ n → claimed p s (earlier ++ n ∷ []) ≡ claimed p s earlier + p n
  push-yes s n earlier le = omega (arith, claimed-append p s earlier (n ∷ []), claimed-yes p s n [] le)

  push-no : (s n : ℕ) (earlier : List ℕ) → n < s → claimed p s (earlier ++ n ∷ []) ≡ claimed p s earlier
  push-no s n earlier lt = omega (arith, claimed-append p s earlier (n ∷ []), claimed-no p s n [] lt)

  -- equals in their order
  pub level : (s : ℕ) (earlier ns : List ℕ) → shared_at s earlier ns + min q (claimed p s earlier + claimed p (suc s) ns) ≡ min q (claimed p s earlier + claimed p s ns)
  level s earlier [] = omega arith
  level s earlier (n ∷ later) =
      let ih = level s (earlier ++ n ∷ []) later in
      let x = share earlier n later in
      elim (cases_order n s) [
        | inl e ↦
            let is : x ≡ min (p n) (q - (claimed p s earlier + claimed p (suc s) later)) = ap (λ (m : ℕ). min (p n) (q - (claimed p m earlier + claimed p (suc m) later))) e in
            omega (arith, ih, is, push-yes s n earlier (omega arith), claimed-yes p s n later (omega arith), claimed-no p (suc s) n later (omega arith), cond-true (n == s) x 0 (eq-eqb n s e))
        | inr (inl lt) ↦ omega (arith, ih, push-no s n earlier lt, claimed-no p s n later lt, claimed-no p (suc s) n later (omega arith), cond-false (n == s) x 0 (ne_eqb n s (λ e. omega arith)))
        | inr (inr gt) ↦ omega (arith, ih, push-yes s n earlier (omega arith), claimed-yes p s n later (omega arith), claimed-yes p (suc s) n later gt, cond-false (n == s) x 0 (ne_eqb n s (λ e. omega arith)))
      ]

  none_from : (s : ℕ) (earlier ns : List ℕ) → total ns < s → shared_from s earlier ns ≡ 0
  none_from s earlier [] lt = refl
  none_from s earlier (n ∷ later) lt =
      omega (arith, none_from s (earlier ++ n ∷ []) later (omega arith), cond-false (nat_le s n) (share earlier n later) 0 (lt-leb s n (omega arith)))

  -- from the largest down
  pub down : (ns : List ℕ) (d s : ℕ) → s + d ≡ suc (total ns) → shared_from s [] ns ≡ min q (claimed p s ns)
  down ns zero s e = omega (arith, none_from s [] ns (omega arith), claimed-none p s ns (omega arith))
  down ns (suc d) s e = omega (arith, split s [] ns, level s [] ns, down ns d (suc s) (omega arith))

  all_from : (earlier ns : List ℕ) → shared_from 0 earlier ns ≡ total (by_rank p q earlier ns)
  all_from earlier [] = refl
  all_from earlier (n ∷ later) =
      omega (arith, all_from (earlier ++ n ∷ []) later, cond-true (nat_le 0 n) (share earlier n later) 0 (le-leb 0 n (omega arith)))

  pub rank-whole : (ns : List ℕ) → total (by_rank p q [] ns) ≡ min q (total (map p ns))
  rank-whole ns = omega (arith, all_from [] ns, down ns (suc (total ns)) 0 (omega arith), claimed-all p ns)

  pub rank-length : (earlier ns : List ℕ) → length (by_rank p q earlier ns) ≡ length ns
  rank-length earlier [] = refl
  rank-length earlier (n ∷ later) = ap suc (rank-length (earlier ++ n ∷ []) later)

  pub rank-within : ((n : ℕ) → p n ≤ n) → (earlier ns : List ℕ) → EachAtMost (by_rank p q earlier ns) ns
  rank-within le earlier [] = tt
  rank-within le earlier (n ∷ later) = (omega (arith, le n), rank-within le (earlier ++ n ∷ []) later)

-- What the rows served before a row get together, and so what remains for it.
use Rattle.std.specs.Prelude.{◌≡◌, ℕ, zero, suc, ◌+◌, ◌-◌, ◌<◌, ◌≤◌, min, Bool, true, false, cond, ◌&&◌, ◌||◌, List, [], ◌∷◌, ◌++◌, length, take, drop, replicate, ◌==◌, nat_le, nat_lt, slice_index, slice_index_or, refl}
use Rattle.std.proofs.Common.{ap, ap₂, arith, drop-cons}
use Rattle.std.proofs.lemmas.List.{append_assoc, append-nil}
use Rattle.std.proofs.lemmas.Bool.Decides.{nat_tests}
use Rattle.sharing.specs.Totals.{total, padded}
use Rattle.sharing.specs.InOrder.{in_order}
use Rattle.sharing.specs.ProRata.{claimed, by_rank}
use Rattle.sharing.specs.Promises.{shares_where}
use Rattle.sharing.specs.Claims.{claimed-no, at-le-total}
use Rattle.sharing.specs.RankTotals.{share, shared_from, shared_at, split, level, down}

where-none : (t : ℕ → Bool) (xs : List ℕ) → ((j : ℕ) → t j ≡ false) → shares_where t xs ≡ 0
where-none t [] h = refl
where-none t (x ∷ xs) h = omega (arith, ap (λ (b : Bool). cond b x 0) (h 0), where-none (λ j. t (suc j)) xs (λ j. h (suc j)))

none : (b : Bool) → ◌≡◌ {A = ℕ} (cond b 0 0) 0
none true = refl
none false = refl

where-zeros : (t : ℕ → Bool) (xs : List ℕ) (m : ℕ) → shares_where t (xs ++ replicate m 0) ≡ shares_where t xs
where-zeros t [] zero = refl
where-zeros t [] (suc m) = omega (arith, none (t 0), where-zeros (λ j. t (suc j)) [] m)
where-zeros t (x ∷ xs) m = omega (arith, where-zeros (λ j. t (suc j)) xs m)

pub where-padded : (t : ℕ → Bool) (xs : List ℕ) → shares_where t (padded xs) ≡ shares_where t xs
where-padded t xs = where-zeros t xs (128 - length xs)

-- in order: the test is passed by the earlier ones that have a size
pub order-turn : (q : ℕ) (ns : List ℕ) (t : ℕ → Bool) (i : ℕ)
    → ((j : ℕ) → j < i → t j ≡ nat_lt 0 (slice_index ns j)) → ((j : ℕ) → i ≤ j → t j ≡ false)
    → slice_index (in_order q ns) i ≡ min (slice_index ns i) (q - shares_where t (in_order q ns))
order-turn q [] t i before after = omega arith
order-turn q (n ∷ ns) t zero before after =
    omega (arith, where-none t (in_order q (n ∷ ns)) (λ j. after j (omega arith)))
order-turn q (n ∷ ns) t (suc i) before after =
    let ih = order-turn (q - n) ns (λ j. t (suc j)) i (λ j lt. before (suc j) (omega arith)) (λ j le. after (suc j) (omega arith)) in
    let first : cond (t 0) (min n q) 0 ≡ cond (nat_lt 0 n) (min n q) 0 = ap (λ (b : Bool). cond b (min n q) 0) (before 0 (omega arith)) in
    let same : cond (nat_lt 0 n) (min n q) 0 ≡ min n q = grind (arith, nat_tests) in
    omega (arith, ih, first, same)

module _ (p : ℕ → ℕ) (q : ℕ) where
  -- the larger ones
  turn-larger : (n : ℕ) (t : ℕ → Bool) (earlier ns : List ℕ) → ((j : ℕ) → t j ≡ nat_le (suc n) (slice_index ns j)) → shares_where t (by_rank p q earlier ns) ≡ shared_from p q (suc n) earlier ns
  turn-larger n t earlier [] h = refl
  turn-larger n t earlier (m ∷ later) h =
      ap₂ ◌+◌ (ap (λ (b : Bool). cond b (share p q earlier m later) 0) (h 0)) (turn-larger n (λ j. t (suc j)) (earlier ++ m ∷ []) later (λ j. h (suc j)))

  -- the larger ones and the earlier equals: those as large, but for the equals from i on
  turn-before : (n : ℕ) (t : ℕ → Bool) (i : ℕ) (earlier ns : List ℕ)
      → ((j : ℕ) → j < i → t j ≡ nat_le n (slice_index ns j)) → ((j : ℕ) → i ≤ j → t j ≡ nat_le (suc n) (slice_index ns j))
      → shares_where t (by_rank p q earlier ns) + shared_at p q n (earlier ++ take i ns) (drop i ns) ≡ shared_from p q n earlier ns
  turn-before n t zero earlier ns before after =
      omega (arith, turn-larger n t earlier ns (λ j. after j (omega arith)), split p q n earlier ns, ap (λ (w : List ℕ). shared_at p q n w ns) (append-nil earlier))
  turn-before n t (suc i) earlier [] before after = refl
  turn-before n t (suc i) earlier (m ∷ later) before after =
      let ih = turn-before n (λ j. t (suc j)) i (earlier ++ m ∷ []) later (λ j lt. before (suc j) (omega arith)) (λ j le. after (suc j) (omega arith)) in
      omega (arith, ih, ap (λ (b : Bool). cond b (share p q earlier m later) 0) (before 0 (omega arith)), ap (λ (w : List ℕ). shared_at p q n w (drop i later)) (append_assoc earlier (m ∷ []) (take i later)))

  rank-at : (earlier ns : List ℕ) (i : ℕ) → i < length ns
      → slice_index (by_rank p q earlier ns) i ≡ min (p (slice_index ns i)) (q - (claimed p (slice_index ns i) (earlier ++ take i ns) + claimed p (suc (slice_index ns i)) (drop (suc i) ns)))
  rank-at earlier [] i lt = absurd (omega arith)
  rank-at earlier (n ∷ later) zero lt = omega (arith, ap (claimed p n) (append-nil earlier))
  rank-at earlier (n ∷ later) (suc i) lt =
      omega (arith, rank-at (earlier ++ n ∷ []) later i (omega arith), ap (claimed p (slice_index later i)) (append_assoc earlier (n ∷ []) (take i later)))

  front-back : (s : ℕ) (i : ℕ) (ns : List ℕ) → claimed p s (take i ns) + claimed p s (drop i ns) ≡ claimed p s ns
  front-back s zero ns = omega arith
  front-back s (suc i) [] = refl
  front-back s (suc i) (n ∷ ns) = omega (arith, front-back s i ns)

  -- what those before it get is the quantity, or their parts if those are less
  pub rank-turn : (ns : List ℕ) (t : ℕ → Bool) (i : ℕ) → i < length ns
      → ((j : ℕ) → j < i → t j ≡ nat_le (slice_index ns i) (slice_index ns j)) → ((j : ℕ) → i ≤ j → t j ≡ nat_le (suc (slice_index ns i)) (slice_index ns j))
      → slice_index (by_rank p q [] ns) i ≡ min (p (slice_index ns i)) (q - shares_where t (by_rank p q [] ns))
  rank-turn ns t i lt before after =
      let n = slice_index_or ns i 0 in
      let small : n ≤ total ns = at-le-total ns i in
      omega (
        arith,
        rank-at [] ns i lt,
        turn-before n t i [] ns before after,
        level p q n (take i ns) (drop i ns),
        down p q ns (suc (total ns) - n) n (omega arith),
        front-back n i ns,
        ap (claimed p (suc n)) (drop-cons ns i 0 lt),
        claimed-no p (suc n) n (drop (suc i) ns) (omega arith),
      )

-- the tests of who is served before
pub before-earlier : (m n j i : ℕ) → j < i → (nat_lt n m || (m == n && nat_lt j i)) ≡ nat_le n m
before-earlier m n j i lt = grind (arith, nat_tests)

pub before-later : (m n j i : ℕ) → i ≤ j → (nat_lt n m || (m == n && nat_lt j i)) ≡ nat_le (suc n) m
before-later m n j i le = grind (arith, nat_tests)

pub before-sized : (m n j i : ℕ) → 0 < n → (nat_lt n m || (m == n && nat_lt j i)) ≡ true → 0 < m
before-sized m n j i pos e = grind (arith, nat_tests)

pub customer-earlier : (m j i : ℕ) → j < i → (nat_lt 0 m && nat_lt j i) ≡ nat_lt 0 m
customer-earlier m j i lt = grind (arith, nat_tests)

pub customer-later : (m j i : ℕ) → i ≤ j → (nat_lt 0 m && nat_lt j i) ≡ false
customer-later m j i le = grind (arith, nat_tests)

-- The parts of the larger sizes.
use Rattle.std.specs.Prelude.{◌≡◌, ℕ, zero, suc, ◌+◌, ◌<◌, ◌≤◌, cond, List, [], ◌∷◌, ◌++◌, map, length, take, drop, nat_le, slice_index, refl}
use Rattle.std.proofs.Common.{ap, ◌∙◌, inl, inr, arith}
use Rattle.std.proofs.lemmas.List.{drop_more, get_or-map}
use Rattle.std.proofs.lemmas.Bool.{cases_lt, le-leb, lt-leb, cond-true, cond-false}
use Rattle.sharing.specs.Totals.{total}
use Rattle.sharing.specs.ProRata.{claimed}

pub claimed-yes : (p : ℕ → ℕ) (from n : ℕ) (ns : List ℕ) → from ≤ n → claimed p from (n ∷ ns) ≡ p n + claimed p from ns
claimed-yes p from n ns le = ap (λ (m : ℕ). m + claimed p from ns) (cond-true (nat_le from n) (p n) 0 (le-leb from n le))

pub claimed-no : (p : ℕ → ℕ) (from n : ℕ) (ns : List ℕ) → n < from → claimed p from (n ∷ ns) ≡ claimed p from ns
claimed-no p from n ns lt =
    let e : cond (nat_le from n) (p n) 0 ≡ 0 = cond-false (nat_le from n) (p n) 0 (lt-leb from n lt) in
    omega (arith, e)

pub claimed-append : (p : ℕ → ℕ) (from : ℕ) (ms ns : List ℕ) → claimed p from (ms ++ ns) ≡ claimed p from ms + claimed p from ns
claimed-append p from [] ns = omega arith
claimed-append p from (m ∷ ms) ns = omega (arith, claimed-append p from ms ns)

pub claimed-le : (p : ℕ → ℕ) (from : ℕ) (ns : List ℕ) → claimed p from ns ≤ total (map p ns)
claimed-le p from [] = omega arith
claimed-le p from (n ∷ ns) = elim (cases_lt n from) [
  | inl lt ↦ omega (arith, claimed-no p from n ns lt, claimed-le p from ns)
  | inr le ↦ omega (arith, claimed-yes p from n ns le, claimed-le p from ns)
]

-- the further down, the more
pub claimed-down : (p : ℕ → ℕ) (low high : ℕ) (ns : List ℕ) → low ≤ high → claimed p high ns ≤ claimed p low ns
claimed-down p low high [] le = omega arith
claimed-down p low high (n ∷ ns) le = elim (cases_lt n low) [
  | inl lt ↦ omega (arith, claimed-no p low n ns lt, claimed-no p high n ns (omega arith), claimed-down p low high ns le)
  | inr from_low ↦ elim (cases_lt n high) [
    | inl lt ↦ omega (arith, claimed-yes p low n ns from_low, claimed-no p high n ns lt, claimed-down p low high ns le)
    | inr from-high ↦ omega (arith, claimed-yes p low n ns from_low, claimed-yes p high n ns from-high, claimed-down p low high ns le)
  ]
]

pub claimed-all : (p : ℕ → ℕ) (ns : List ℕ) → claimed p 0 ns ≡ total (map p ns)
claimed-all p [] = refl
claimed-all p (n ∷ ns) = omega (arith, claimed-yes p 0 n ns (omega arith), claimed-all p ns)

pub claimed-none : (p : ℕ → ℕ) (from : ℕ) (ns : List ℕ) → total ns < from → claimed p from ns ≡ 0
claimed-none p from [] lt = refl
claimed-none p from (n ∷ ns) lt = omega (arith, claimed-no p from n ns (omega arith), claimed-none p from ns (omega arith))

pub part-read : (p : ℕ → ℕ) (ns ps : List ℕ) (i : ℕ) → ps ≡ map p ns → i < length ns → slice_index ps i ≡ p (slice_index ns i)
part-read p ns ps i e lt = ap (λ (w : List ℕ). slice_index w i) e ∙ get_or-map p ns i 0 0 lt

-- a step of the loop, which reads the parts from a list
pub claim-more : (p : ℕ → ℕ) (from : ℕ) (ns ps : List ℕ) (i got : ℕ) → ps ≡ map p ns → i < length ns → got ≡ cond (nat_le from (slice_index ns i)) (slice_index ps i) 0
    → claimed p from (drop i ns) ≡ got + claimed p from (drop (i + 1) ns)
claim-more p from ns ps i got e lt is =
    let same : got ≡ cond (nat_le from (slice_index ns i)) (p (slice_index ns i)) 0 = is ∙ ap (λ (k : ℕ). cond (nat_le from (slice_index ns i)) k 0) (part-read p ns ps i e lt) in
    omega (arith, ap (claimed p from) (drop_more ns i 0 lt), same)

pub total-take-le : (k : ℕ) (ns : List ℕ) → total (take k ns) ≤ total ns
total-take-le zero ns = omega arith
total-take-le (suc k) [] = omega arith
total-take-le (suc k) (n ∷ ns) = omega (arith, total-take-le k ns)

pub total-drop-le : (k : ℕ) (ns : List ℕ) → total (drop k ns) ≤ total ns
total-drop-le zero ns = omega arith
total-drop-le (suc k) [] = omega arith
total-drop-le (suc k) (n ∷ ns) = omega (arith, total-drop-le k ns)

pub at-le-total : (ns : List ℕ) (i : ℕ) → slice_index ns i ≤ total ns
at-le-total [] i = omega arith
at-le-total (n ∷ ns) zero = omega arith
at-le-total (n ∷ ns) (suc i) = omega (arith, at-le-total ns i)

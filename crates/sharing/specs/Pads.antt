-- An array whose front was written.
use Rattle.std.specs.Prelude.{◌≡◌, ℕ, zero, suc, ◌-◌, ◌≤◌, List, [], ◌∷◌, ◌++◌, length, take, drop, replicate, slice_index, refl}
use Rattle.std.proofs.Common.{sym, ap, ◌∙◌, arith}
use Rattle.std.proofs.lemmas.List.{drop-replicate, length-append, length-drop, length-replicate, length-take-le}
use Rattle.sharing.specs.Totals.{total, padded}

pub pad-all : (ns : List ℕ) (n : ℕ) → length ns ≡ n → ns ++ drop n (replicate 128 0) ≡ padded ns
pad-all ns n e = ap (λ w. ns ++ w) (drop-replicate n 128 0 ∙ ap (λ (k : ℕ). replicate (128 - k) 0) (sym e))

pub pad-length : (ns : List ℕ) (n : ℕ) → length ns ≡ n → n ≤ 128 → length (ns ++ drop n (replicate 128 0)) ≡ 128
pad-length ns n e le = omega (arith, length-append ns (drop n (replicate 128 0)), length-drop {A = ℕ} n (replicate 128 0), length-replicate {A = ℕ} 128 0)

zeros : (m i : ℕ) → ◌≡◌ {A = ℕ} (slice_index (replicate m 0) i) 0
zeros zero i = refl
zeros (suc m) zero = refl
zeros (suc m) (suc i) = zeros m i

more-zeros : (ns : List ℕ) (m i : ℕ) → slice_index (ns ++ replicate m 0) i ≡ slice_index ns i
more-zeros [] m i = zeros m i
more-zeros (n ∷ ns) m zero = refl
more-zeros (n ∷ ns) m (suc i) = more-zeros ns m i

pub pad-at : (ns : List ℕ) (i : ℕ) → slice_index (padded ns) i ≡ slice_index ns i
pad-at ns i = more-zeros ns (128 - length ns) i

pub same-fronts : (n : ℕ) (xs ys : List ℕ) → n ≤ length xs → n ≤ length ys → length (take (n - 0) xs) ≡ length (take (n - 0) ys)
same-fronts n xs ys lx ly = omega (arith, length-take-le (n - 0) xs (omega arith), length-take-le (n - 0) ys (omega arith))

pub front-is : (n : ℕ) (xs ys : List ℕ) → take n xs ≡ ys → take (n - 0) xs ≡ ys
front-is n xs ys e = let same : n - 0 ≡ n = omega arith in ap (λ (k : ℕ). take k xs) same ∙ e

total-zeros : (ns : List ℕ) (m : ℕ) → total (ns ++ replicate m 0) ≡ total ns
total-zeros [] zero = refl
total-zeros [] (suc m) = omega (arith, total-zeros [] m)
total-zeros (n ∷ ns) m = omega (arith, total-zeros ns m)

pub pad-total : (ns : List ℕ) → total (padded ns) ≡ total ns
pad-total ns = total-zeros ns (128 - length ns)

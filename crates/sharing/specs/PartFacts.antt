-- A size's part of a quantity, rounded up.
use Rattle.std.specs.Prelude.{◌≡◌, ℕ, zero, suc, ◌*◌, ◌/◌, ◌%◌, ◌<◌, ◌≤◌, min, List, [], ◌∷◌, map, refl}
use Rattle.std.proofs.Common.{ap, inl, inr, mul-zero, mul-le-mul_left, mul-le-mul_right, add-mul, zero-mul, mul_comm, div-add-mod', mod-lt, arith}
use Rattle.std.proofs.Math.Nat.{div-zero, mod-zero}
use Rattle.std.proofs.lemmas.Bool.{cases_lt, cases_eq}
use Rattle.sharing.specs.Totals.{total}
use Rattle.sharing.specs.ProRata.{part}

-- a part is no less than the quotient
pub part-covers : (q t s : ℕ) → 0 < t → s * q ≤ part q t s * t
part-covers q t s pos =
    let x = s * q in
    let sum = add-mul (x / t) (min 1 (x % t)) t in
    elim (cases_eq (x % t) 0) [
      | inl even ↦ omega (arith, div-add-mod' x t, even, sum)
      | inr over ↦
          let one : min 1 (x % t) ≡ 1 = omega (arith, over) in
          omega (arith, div-add-mod' x t, mod-lt x {m = t} pos, sum, ap (λ (k : ℕ). k * t) one)
    ]

-- and the least such number
pub part-least : (q t s n : ℕ) → 0 < t → s * q ≤ n * t → part q t s ≤ n
part-least q t s n pos le =
    let x = s * q in
    let d = x / t in
    let parts = div-add-mod' x t in
    elim (cases_lt n d) [
      | inl lt ↦ absurd (omega (arith, parts, le, add-mul n 1 t, mul-le-mul_right t lt))
      | inr ge ↦ elim (cases_lt d n) [
        | inl more ↦ omega arith
        | inr same ↦ omega (arith, parts, le, mul-le-mul_right t same)
      ]
    ]

pub part_none : (s : ℕ) → part 0 0 s ≡ 0
part_none s = omega (arith, div-zero (s * 0), mod-zero (s * 0), mul-zero s)

pub part-le : (q t s : ℕ) → q ≤ t → part q t s ≤ s
part-le zero zero s le = omega (arith, part_none s)
part-le (suc q) zero s le = absurd (omega arith)
part-le q (suc t) s le = part-least q (suc t) s s (omega arith) (mul-le-mul_left s le)

-- a larger size has no smaller part
pub part-mono : (q t r s : ℕ) → r ≤ s → part q t r ≤ part q t s
part-mono q zero r s le = omega (arith, div-zero (r * q), div-zero (s * q), mod-zero (r * q), mod-zero (s * q), mul-le-mul_right q le)
part-mono q (suc t) r s le = part-least q (suc t) r (part q (suc t) s) (omega arith) (omega (arith, part-covers q (suc t) s (omega arith), mul-le-mul_right q le))

parts-cover-by : (q t : ℕ) → 0 < t → (ns : List ℕ) → total ns * q ≤ total (map (part q t) ns) * t
parts-cover-by q t pos [] = omega (arith, zero-mul q, zero-mul t)
parts-cover-by q t pos (n ∷ ns) = omega (arith, add-mul n (total ns) q, add-mul (part q t n) (total (map (part q t) ns)) t, part-covers q t n pos, parts-cover-by q t pos ns)

-- the parts of the whole cover the quantity
pub parts-cover : (q : ℕ) (ns : List ℕ) → q ≤ total ns → q ≤ total (map (part q (total ns)) ns)
parts-cover q ns le = go (total ns) refl
  where
    go : (t : ℕ) → total ns ≡ t → q ≤ total (map (part q (total ns)) ns)
    go zero e = omega (arith, e)
    go (suc t) e = elim (cases_lt (total (map (part q (total ns)) ns)) q) [
      | inl lt ↦
          let a = parts-cover-by q (total ns) (omega (arith, e)) ns in
          let b = mul-le-mul_right {m = suc (total (map (part q (total ns)) ns))} {n = q} (total ns) lt in
          absurd (omega (arith, a, b, e, mul_comm (total ns) q, add-mul (total (map (part q (total ns)) ns)) 1 (total ns)))
      | inr le ↦ le
    ]

pub parts-le : (q t : ℕ) → q ≤ t → (ns : List ℕ) → total (map (part q t) ns) ≤ total ns
parts-le q t le [] = omega arith
parts-le q t le (n ∷ ns) = omega (arith, part-le q t n le, parts-le q t le ns)

-- The totals of one side: each contract is in one of four places, and one row more.
use Rattle.std.proofs.Common.{◌≡◌, ℕ, zero, suc, ◌+◌, ◌*◌, ◌<◌, ◌≤◌, Bool, true, false, cond, List, [], ◌∷◌, length, get_or, take, sym, refl, ap, ◌∙◌, arith}
use Rattle.std.proofs.lemmas.Bool.{and_parts, and_from, cond-true, cond-false}
use Rattle.std.proofs.lemmas.List.{length-take}
use Rattle.std.specs.List.{AllByRecursion}
use Rattle.std.proofs.lemmas.List.Sums.{sum_by-cons, sum_by_more}
use Rattle.std.proofs.ByRecursion.{sum_by_le, All-weaker}
use Rattle.interest.specs.declared.Side.{Side}
use Rattle.book.specs.declared.row.Row.{Row}
use Rattle.book.specs.declared.row.Totals.{Totals}
use Rattle.book.specs.Rows.{sound_row, every}
use Rattle.book.specs.Ranks.{of_side, total_of}
use Rattle.book.specs.Reads.{totals_of, plus_row}
use Rattle.book.proofs.SoundFacts.{every-all}
use Rattle.book.proofs.SumFacts.{size-le}
use Rattle.book.proofs.RewriteFacts.{row-sound}

cond-held : (b : Bool) (s t r c l : ℕ) → t + r + c + l ≡ s → cond b s 0 ≡ cond b t 0 + cond b r 0 + cond b c 0 + cond b l 0
cond-held true s t r c l e = sym e
cond-held false s t r c l e = refl

-- each contract of the rows that pass a test is in one of the four places
pub total-held : (test : Row → Bool) (rows : List Row) → every sound_row rows ≡ true → total_of (λ (r : Row). r.size) test rows ≡ total_of (λ (r : Row). r.traded) test rows + total_of (λ (r : Row). r.routed) test rows + total_of (λ (r : Row). r.cancelled) test rows + total_of (λ (r : Row). r.left) test rows
total-held test [] h = refl
total-held test (r ∷ rs) h =
    let p = and_parts (sound_row r) (every sound_row rs) h in
    let part : (f : Row → ℕ) → total_of f test (r ∷ rs) ≡ cond (test r) (f r) 0 + total_of f test rs = λ f. sum_by-cons (λ (x : Row). cond (test x) (f x) 0) r rs in
    omega (arith, part (λ (x : Row). x.size), part (λ (x : Row). x.traded), part (λ (x : Row). x.routed), part (λ (x : Row). x.cancelled), part (λ (x : Row). x.left), cond-held (test r) r.size r.traded r.routed r.cancelled r.left (row-sound r p.0).0, total-held test rs p.1)

sizes-small : (test : Row → Bool) (rows : List Row) → every sound_row rows ≡ true → AllByRecursion (λ (r : Row). cond (test r) r.size 0 ≤ 1000000) rows
sizes-small test rows h = All-weaker (λ (r : Row). sound_row r ≡ true) (λ (r : Row). cond (test r) r.size 0 ≤ 1000000) (λ r k. size-le (test r) r.size 1000000 (row-sound r k).2) rows (every-all sound_row rows h)

pub total-small : (test : Row → Bool) (rows : List Row) → every sound_row rows ≡ true → total_of (λ (r : Row). r.size) test rows ≤ length rows * 1000000
total-small test rows h = sum_by_le (λ (r : Row). cond (test r) r.size 0) 1000000 rows (sizes-small test rows h)

pub every_take : (test : Row → Bool) (n : ℕ) (rows : List Row) → every test rows ≡ true → every test (take n rows) ≡ true
every_take test zero rows h = refl
every_take test (suc n) [] h = refl
every_take test (suc n) (r ∷ rs) h =
    let p = and_parts (test r) (every test rs) h in
    and_from (test r) (every test (take n rs)) p.0 (every_take test n rs p.1)

abbrev totals_by : ℕ → ℕ → ℕ → ℕ → ℕ → Totals
totals_by a b c d e = record { accepted = a; traded = b; routed = c; cancelled = d; left = e }

same-totals : (t u : Totals) → t.accepted ≡ u.accepted → t.traded ≡ u.traded → t.routed ≡ u.routed → t.cancelled ≡ u.cancelled → t.left ≡ u.left → t ≡ u
same-totals t u a b c d e =
    ap (λ (n : ℕ). totals_by n t.traded t.routed t.cancelled t.left) a
    ∙ ap (λ (n : ℕ). totals_by u.accepted n t.routed t.cancelled t.left) b
    ∙ ap (λ (n : ℕ). totals_by u.accepted u.traded n t.cancelled t.left) c
    ∙ ap (λ (n : ℕ). totals_by u.accepted u.traded u.routed n t.left) d
    ∙ ap (λ (n : ℕ). totals_by u.accepted u.traded u.routed u.cancelled n) e

module _ (side : Side) (rows : List Row) (i : ℕ) (d : Row) (lt : i < length rows) where
  total-yes : of_side side (get_or rows i d) ≡ true → (f : Row → ℕ) → total_of f (of_side side) (take (i + 1) rows) ≡ total_of f (of_side side) (take i rows) + f (get_or rows i d)
  total-yes e f = sum_by_more (λ (r : Row). cond (of_side side r) (f r) 0) rows i d lt ∙ ap (λ (n : ℕ). total_of f (of_side side) (take i rows) + n) (cond-true (of_side side (get_or rows i d)) (f (get_or rows i d)) 0 e)

  total-no : of_side side (get_or rows i d) ≡ false → (f : Row → ℕ) → total_of f (of_side side) (take (i + 1) rows) ≡ total_of f (of_side side) (take i rows)
  total-no e f = omega (arith, sum_by_more (λ (r : Row). cond (of_side side r) (f r) 0) rows i d lt, cond-false (of_side side (get_or rows i d)) (f (get_or rows i d)) 0 e)

  pub totals-yes : (t : Totals) → t ≡ totals_of side (take i rows) → of_side side (get_or rows i d) ≡ true → plus_row t (get_or rows i d) ≡ totals_of side (take (i + 1) rows)
  totals-yes t h e =
      ap (λ (u : Totals). plus_row u (get_or rows i d)) h
      ∙ sym (same-totals (totals_of side (take (i + 1) rows)) (plus_row (totals_of side (take i rows)) (get_or rows i d)) (total-yes e (λ (r : Row). r.size)) (total-yes e (λ (r : Row). r.traded)) (total-yes e (λ (r : Row). r.routed)) (total-yes e (λ (r : Row). r.cancelled)) (total-yes e (λ (r : Row). r.left)))

  pub totals-no : (t : Totals) → t ≡ totals_of side (take i rows) → of_side side (get_or rows i d) ≡ false → t ≡ totals_of side (take (i + 1) rows)
  totals-no t h e = h ∙ sym (same-totals (totals_of side (take (i + 1) rows)) (totals_of side (take i rows)) (total-no e (λ (r : Row). r.size)) (total-no e (λ (r : Row). r.traded)) (total-no e (λ (r : Row). r.routed)) (total-no e (λ (r : Row). r.cancelled)) (total-no e (λ (r : Row). r.left)))

  -- what the totals are with the row's contracts added fits
  module _ (sound : every sound_row rows ≡ true) (few : length rows ≤ 128) (t : Totals) (h : t ≡ totals_of side (take i rows)) (e : of_side side (get_or rows i d) ≡ true) where
    pub totals-fit : (t.accepted + (get_or rows i d).size ≤ 128000000) × (t.traded + (get_or rows i d).traded ≤ 128000000) × (t.routed + (get_or rows i d).routed ≤ 128000000) × (t.cancelled + (get_or rows i d).cancelled ≤ 128000000) × (t.left + (get_or rows i d).left ≤ 128000000)
    totals-fit =
        let front = take (i + 1) rows in
        let good = every_take sound_row (i + 1) rows sound in
        let more : plus_row t (get_or rows i d) ≡ totals_of side front = totals-yes t h e in
        let len : length front ≤ 128 = omega (arith, length-take (i + 1) rows) in
        let held_in = total-held (of_side side) front good in
        let small = total-small (of_side side) front good in
        let a = ap (λ (u : Totals). u.accepted) more in
        let b = ap (λ (u : Totals). u.traded) more in
        let c = ap (λ (u : Totals). u.routed) more in
        let f = ap (λ (u : Totals). u.cancelled) more in
        let g = ap (λ (u : Totals). u.left) more in
        (omega arith, omega arith, omega arith, omega arith, omega arith)

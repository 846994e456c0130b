-- Totals of lists.
use Rattle.std.proofs.Common.{◌≡◌, ℕ, ◌+◌, ◌*◌, ◌<◌, ◌≤◌, Bool, true, false, cond, List, [], ◌∷◌, ◌++◌, length, get_or, take, drop, sum, zero, suc, nat_le, refl, sym, ap, ap₂, ◌∙◌, arith}
use Rattle.std.specs.List.{refill}
use Rattle.std.proofs.lemmas.List.{map_more, take_at}
use Rattle.std.proofs.lemmas.List.Sums.{sum_by-cons}
use Rattle.std.proofs.lemmas.Bool.{and_parts, leb-true}
use Rattle.interest.specs.Bounds.{sized}
use Rattle.interest.specs.declared.Class.{Class}
use Rattle.sharing.specs.declared.level.Holding.{Holding}
use Rattle.sharing.specs.Holdings.{all_sized}
use Rattle.sharing.specs.Totals.{total}
use Rattle.sharing.specs.Sizes.{size_where, sizes_where}

-- as std sums it
pub sum-is-total : (ns : List ℕ) → sum ns ≡ total ns
sum-is-total [] = refl
sum-is-total (n ∷ ns) = omega (arith, sum_by-cons (λ x. x) n ns, sum-is-total ns)

total_push : (ns : List ℕ) (n : ℕ) → total (ns ++ n ∷ []) ≡ total ns + n
total_push [] n = omega arith
total_push (m ∷ ns) n = omega (arith, total_push ns n)

size-small : (rows : List Holding) (i : ℕ) (d : Holding) → all_sized rows ≡ true → i < length rows → (get_or rows i d).size ≤ 1000000
size-small [] i d e lt = absurd (omega arith)
size-small (h ∷ rows) zero d e lt = leb-true h.size 1000000 (and_parts (nat_le 1 h.size) (nat_le h.size 1000000) (and_parts (sized h.size) (all_sized rows) e).0).1
size-small (h ∷ rows) (suc i) d e lt = size-small rows i d (and_parts (sized h.size) (all_sized rows) e).1 (omega arith)

-- one size more
pub total-more : (rows : List Holding) (xs ys : List ℕ) (i n : ℕ) (b : Bool) (d : Holding) → all_sized rows ≡ true → i < length rows → n ≡ cond b (get_or rows i d).size 0 → ys ≡ xs ++ n ∷ [] → total xs ≤ i * 1000000 → total ys ≤ (i + 1) * 1000000
total-more rows xs ys i n true d sound lt e is small = omega (arith, e, ap total is, total_push xs n, size-small rows i d sound lt, small)
total-more rows xs ys i n false d sound lt e is small = omega (arith, e, ap total is, total_push xs n, small)

pub sizes-more : (test : Class → Bool) (rows : List Holding) (xs ys : List ℕ) (i n : ℕ) (b : Bool) (d : Holding) → i < length rows → n ≡ cond b (get_or rows i d).size 0 → b ≡ test (get_or rows i d).class → ys ≡ xs ++ n ∷ [] → xs ≡ sizes_where test (take i rows) → ys ≡ sizes_where test (take (i + 1) rows)
sizes-more test rows xs ys i n b d lt e says is so_far =
    is ∙ ap₂ (λ (w : List ℕ) (m : ℕ). w ++ m ∷ []) so_far (e ∙ ap (λ (t : Bool). cond t (get_or rows i d).size 0) says) ∙ sym (map_more (size_where test) rows i d lt)

-- a list lent whole and given back as long as it was
pub given_back : (ns ms : List ℕ) → length ms ≡ length ns → refill (length ns) ns ms ≡ ms
given_back ns ms e = take_at ms (drop (length ms) ns) (length ns) e

-- Sharing in order: a step of the loop, and the laws.
use Rattle.std.specs.Prelude.{◌≡◌, ℕ, suc, ◌+◌, ◌-◌, ◌<◌, ◌≤◌, min, List, [], ◌∷◌, ◌++◌, length, take, drop, slice_index, slice_index_or, slice_set, refl}
use Rattle.std.proofs.Common.{sym, ap, ap₂, ◌∙◌, arith}
use Rattle.std.proofs.lemmas.List.{take_more_set, drop-set-lt, drop_more, append_assoc, append-nil, take_all, drop_all}
use Rattle.sharing.specs.Totals.{total, EachAtMost}
use Rattle.sharing.specs.InOrder.{in_order}

pub order-more : (xs : List ℕ) (i left s : ℕ) → i < length xs → s ≡ min (slice_index xs i) left
    → take (i + 1) (slice_set xs i s) ++ in_order (left - s) (drop (i + 1) (slice_set xs i s)) ≡ take i xs ++ in_order left (drop i xs)
order-more xs i left s lt e =
    let less : left - s ≡ left - slice_index_or xs i 0 = omega arith in
    let a : take (i + 1) (slice_set xs i s) ++ in_order (left - s) (drop (i + 1) (slice_set xs i s)) ≡ (take i xs ++ s ∷ []) ++ in_order (left - slice_index xs i) (drop (i + 1) xs) = ap₂ ◌++◌ (take_more_set xs i s lt) (ap₂ in_order less (drop-set-lt (i + 1) xs i s (omega arith))) in
    let b : (take i xs ++ s ∷ []) ++ in_order (left - slice_index xs i) (drop (i + 1) xs) ≡ take i xs ++ (s ∷ in_order (left - slice_index xs i) (drop (i + 1) xs)) = append_assoc (take i xs) (s ∷ []) (in_order (left - slice_index xs i) (drop (i + 1) xs)) in
    let d : s ∷ in_order (left - slice_index xs i) (drop (i + 1) xs) ≡ in_order left (drop i xs) = ap (λ (x : ℕ). x ∷ in_order (left - slice_index xs i) (drop (i + 1) xs)) e ∙ ap (in_order left) (sym (drop_more xs i 0 lt)) in
    a ∙ b ∙ ap (λ (w : List ℕ). take i xs ++ w) d

pub order-end : (xs : List ℕ) (i left : ℕ) → length xs ≤ i → xs ≡ take i xs ++ in_order left (drop i xs)
order-end xs i left le = sym (ap₂ ◌++◌ (take_all i xs le) (ap (in_order left) (drop_all i xs le)) ∙ append-nil xs)

pub left-more : (xs : List ℕ) (i left s : ℕ) → i < length xs → s ≡ min (slice_index xs i) left
    → (left - s) - total (drop (i + 1) (slice_set xs i s)) ≡ left - total (drop i xs)
left-more xs i left s lt e =
    omega (arith, ap total (drop-set-lt (i + 1) xs i s (omega arith)), ap total (drop_more xs i 0 lt))

pub order-length : (q : ℕ) (ns : List ℕ) → length (in_order q ns) ≡ length ns
order-length q [] = refl
order-length q (n ∷ ns) = ap suc (order-length (q - n) ns)

pub order-within : (q : ℕ) (ns : List ℕ) → EachAtMost (in_order q ns) ns
order-within q [] = tt
order-within q (n ∷ ns) = (omega arith, order-within (q - n) ns)

pub order-whole : (q : ℕ) (ns : List ℕ) → total (in_order q ns) ≡ min q (total ns)
order-whole q [] = omega arith
order-whole q (n ∷ ns) = omega (arith, order-whole (q - n) ns)

-- what is enough fills each
pub order-full : (q : ℕ) (ns : List ℕ) → total ns ≤ q → in_order q ns ≡ ns
order-full q [] le = refl
order-full q (n ∷ ns) le = let e : min n q ≡ n = omega arith in ap₂ ◌∷◌ e (order-full (q - n) ns (omega arith))

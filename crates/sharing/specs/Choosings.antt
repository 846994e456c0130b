-- Customers' shares from one list and the others' from another.
use Rattle.std.specs.Prelude.{◌≡◌, ℕ, zero, suc, ◌+◌, ◌*◌, ◌<◌, ◌≤◌, Bool, true, false, cond, List, [], ◌∷◌, ◌++◌, length, take, drop, nat_le, slice_index, slice_index_or, slice_set, refl}
use Rattle.std.proofs.Common.{sym, ap, ap₂, ◌∙◌, arith}
use Rattle.std.proofs.lemmas.List.{take_more_set, drop-set-lt, drop_more, append_assoc, append-nil, take_all, drop_all}
use Rattle.std.proofs.lemmas.Bool.{and_parts, leb-true}
use Rattle.interest.specs.Bounds.{sized}
use Rattle.sharing.specs.declared.level.Holding.{Holding}
use Rattle.interest.specs.declared.Class.{Class}
use Rattle.interest.specs.declared.Class.TheVariants.{Routable, Fixed, Other}
use Rattle.sharing.specs.Holdings.{all_sized}
use Rattle.sharing.specs.Totals.{total, contracts, EachAtMost}
use Rattle.sharing.specs.Sizes.{of_customer, of_other, sizes_where}
use Rattle.sharing.specs.ProRata.{chosen}
use Rattle.sharing.specs.Promises.{shares_where}

class-whole : (k : Class) (n c o : ℕ) → c ≤ cond (of_customer k) n 0 → o ≤ cond (of_other k) n 0 → cond (of_customer k) c o ≡ c + o
class-whole Routable n c o lc lo = omega arith
class-whole Fixed n c o lc lo = omega arith
class-whole Other n c o lc lo = omega arith

class-sizes : (k : Class) (n : ℕ) → cond (of_customer k) n 0 + cond (of_other k) n 0 ≡ n
class-sizes Routable n = omega arith
class-sizes Fixed n = omega arith
class-sizes Other n = omega arith

class-within : (k : Class) (n c o : ℕ) → c ≤ cond (of_customer k) n 0 → o ≤ cond (of_other k) n 0 → cond (of_customer k) c o ≤ n
class-within k n c o lc lo = omega (arith, class-whole k n c o lc lo, class-sizes k n)

class-other : (k : Class) (n c o : ℕ) → 0 < cond (of_other k) n 0 → cond (of_customer k) c o ≡ o
class-other Routable n c o lt = absurd (omega arith)
class-other Fixed n c o lt = absurd (omega arith)
class-other Other n c o lt = refl

class-customer : (k : Class) (n c o : ℕ) → 0 < cond (of_customer k) n 0 → cond (of_customer k) c o ≡ c
class-customer Routable n c o lt = refl
class-customer Fixed n c o lt = refl
class-customer Other n c o lt = absurd (omega arith)

size-if-le : (b : Bool) (n : ℕ) → cond b n 0 ≤ n
size-if-le true n = omega arith
size-if-le false n = omega arith

pub sizes-small : (counts : Class → Bool) (rows : List Holding) → all_sized rows ≡ true → total (sizes_where counts rows) ≤ length rows * 1000000
sizes-small counts [] e = omega arith
sizes-small counts (h ∷ rows) e =
    let both = and_parts (sized h.size) (all_sized rows) e in
    omega (arith, size-if-le (counts h.class) h.size, leb-true h.size 1000000 (and_parts (nat_le 1 h.size) (nat_le h.size 1000000) both.0).1, sizes-small counts rows both.1)

pub sizes-whole : (rows : List Holding) → total (sizes_where of_customer rows) + total (sizes_where of_other rows) ≡ total (contracts rows)
sizes-whole [] = refl
sizes-whole (h ∷ rows) = omega (arith, class-sizes h.class h.size, sizes-whole rows)

pub chosen-length : (rows : List Holding) (cs os : List ℕ) → length cs ≡ length rows → length os ≡ length rows → length (chosen rows cs os) ≡ length rows
chosen-length [] cs os ec eo = refl
chosen-length (h ∷ rows) [] os ec eo = absurd (omega arith)
chosen-length (h ∷ rows) (c ∷ cs) [] ec eo = absurd (omega arith)
chosen-length (h ∷ rows) (c ∷ cs) (o ∷ os) ec eo = ap suc (chosen-length rows cs os (omega arith) (omega arith))

pub chosen-within : (rows : List Holding) (cs os : List ℕ) → EachAtMost cs (sizes_where of_customer rows) → EachAtMost os (sizes_where of_other rows) → EachAtMost (chosen rows cs os) (contracts rows)
chosen-within [] cs os wc wo = tt
chosen-within (h ∷ rows) [] os wc wo = tt
chosen-within (h ∷ rows) (c ∷ cs) [] wc wo = tt
chosen-within (h ∷ rows) (c ∷ cs) (o ∷ os) wc wo = (class-within h.class h.size c o wc.0 wo.0, chosen-within rows cs os wc.1 wo.1)

pub chosen-whole : (rows : List Holding) (cs os : List ℕ) → length cs ≡ length rows → length os ≡ length rows → EachAtMost cs (sizes_where of_customer rows) → EachAtMost os (sizes_where of_other rows) → total (chosen rows cs os) ≡ total cs + total os
chosen-whole [] [] [] ec eo wc wo = refl
chosen-whole [] [] (o ∷ os) ec eo wc wo = absurd (omega arith)
chosen-whole [] (c ∷ cs) os ec eo wc wo = absurd (omega arith)
chosen-whole (h ∷ rows) [] os ec eo wc wo = absurd (omega arith)
chosen-whole (h ∷ rows) (c ∷ cs) [] ec eo wc wo = absurd (omega arith)
chosen-whole (h ∷ rows) (c ∷ cs) (o ∷ os) ec eo wc wo =
    omega (arith, class-whole h.class h.size c o wc.0 wo.0, chosen-whole rows cs os (omega arith) (omega arith) wc.1 wo.1)

pub chosen-other : (rows : List Holding) (cs os : List ℕ) (i : ℕ) → length cs ≡ length rows → length os ≡ length rows → 0 < slice_index (sizes_where of_other rows) i → slice_index (chosen rows cs os) i ≡ slice_index os i
chosen-other [] cs os i ec eo lt = absurd (omega arith)
chosen-other (h ∷ rows) [] os i ec eo lt = absurd (omega arith)
chosen-other (h ∷ rows) (c ∷ cs) [] i ec eo lt = absurd (omega arith)
chosen-other (h ∷ rows) (c ∷ cs) (o ∷ os) zero ec eo lt = class-other h.class h.size c o lt
chosen-other (h ∷ rows) (c ∷ cs) (o ∷ os) (suc i) ec eo lt = chosen-other rows cs os i (omega arith) (omega arith) lt

pub chosen-customer : (rows : List Holding) (cs os : List ℕ) (i : ℕ) → length cs ≡ length rows → length os ≡ length rows → 0 < slice_index (sizes_where of_customer rows) i → slice_index (chosen rows cs os) i ≡ slice_index cs i
chosen-customer [] cs os i ec eo lt = absurd (omega arith)
chosen-customer (h ∷ rows) [] os i ec eo lt = absurd (omega arith)
chosen-customer (h ∷ rows) (c ∷ cs) [] i ec eo lt = absurd (omega arith)
chosen-customer (h ∷ rows) (c ∷ cs) (o ∷ os) zero ec eo lt = class-customer h.class h.size c o lt
chosen-customer (h ∷ rows) (c ∷ cs) (o ∷ os) (suc i) ec eo lt = chosen-customer rows cs os i (omega arith) (omega arith) lt

cond_same : (b : Bool) (x y : ℕ) → (b ≡ true → x ≡ y) → cond b x 0 ≡ cond b y 0
cond_same true x y h = h refl
cond_same false x y h = refl

-- a sum over rows of one kind only
pub where-others : (t : ℕ → Bool) (rows : List Holding) (cs os : List ℕ) → length cs ≡ length rows → length os ≡ length rows → ((j : ℕ) → t j ≡ true → 0 < slice_index (sizes_where of_other rows) j) → shares_where t (chosen rows cs os) ≡ shares_where t os
where-others t [] cs [] ec eo h = refl
where-others t [] cs (o ∷ os) ec eo h = absurd (omega arith)
where-others t (h ∷ rows) [] os ec eo some = absurd (omega arith)
where-others t (h ∷ rows) (c ∷ cs) [] ec eo some = absurd (omega arith)
where-others t (h ∷ rows) (c ∷ cs) (o ∷ os) ec eo some =
    ap₂ ◌+◌ (cond_same (t 0) (cond (of_customer h.class) c o) o (λ e. class-other h.class h.size c o (some 0 e))) (where-others (λ j. t (suc j)) rows cs os (omega arith) (omega arith) (λ j. some (suc j)))

pub where-customers : (t : ℕ → Bool) (rows : List Holding) (cs os : List ℕ) → length cs ≡ length rows → length os ≡ length rows → ((j : ℕ) → t j ≡ true → 0 < slice_index (sizes_where of_customer rows) j) → shares_where t (chosen rows cs os) ≡ shares_where t cs
where-customers t [] [] os ec eo h = refl
where-customers t [] (c ∷ cs) os ec eo h = absurd (omega arith)
where-customers t (h ∷ rows) [] os ec eo some = absurd (omega arith)
where-customers t (h ∷ rows) (c ∷ cs) [] ec eo some = absurd (omega arith)
where-customers t (h ∷ rows) (c ∷ cs) (o ∷ os) ec eo some =
    ap₂ ◌+◌ (cond_same (t 0) (cond (of_customer h.class) c o) c (λ e. class-customer h.class h.size c o (some 0 e))) (where-customers (λ j. t (suc j)) rows cs os (omega arith) (omega arith) (λ j. some (suc j)))

-- a step of the loop
pub chosen_more : (rows : List Holding) (cs os : List ℕ) (i y : ℕ) (h : Holding) → i < length rows → i < length cs → i < length os
    → y ≡ cond (of_customer (slice_index_or rows i h).class) (slice_index cs i) (slice_index os i)
    → take (i + 1) (slice_set cs i y) ++ chosen (drop (i + 1) rows) (drop (i + 1) (slice_set cs i y)) (drop (i + 1) os) ≡ take i cs ++ chosen (drop i rows) (drop i cs) (drop i os)
chosen_more rows cs os i y h lr lc lo e =
    let rest = chosen (drop (i + 1) rows) (drop (i + 1) cs) (drop (i + 1) os) in
    let a : take (i + 1) (slice_set cs i y) ++ chosen (drop (i + 1) rows) (drop (i + 1) (slice_set cs i y)) (drop (i + 1) os) ≡ (take i cs ++ y ∷ []) ++ rest = ap₂ ◌++◌ (take_more_set cs i y lc) (ap (λ (w : List ℕ). chosen (drop (i + 1) rows) w (drop (i + 1) os)) (drop-set-lt (i + 1) cs i y (omega arith))) in
    let b : (take i cs ++ y ∷ []) ++ rest ≡ take i cs ++ (y ∷ rest) = append_assoc (take i cs) (y ∷ []) rest in
    let d : chosen (drop i rows) (drop i cs) (drop i os) ≡ cond (of_customer (slice_index_or rows i h).class) (slice_index cs i) (slice_index os i) ∷ rest = rw (drop_more rows i h lr, drop_more cs i 0 lc, drop_more os i 0 lo) in
    a ∙ b ∙ ap (λ (w : List ℕ). take i cs ++ w) (ap (λ (x : ℕ). x ∷ rest) e ∙ sym d)

pub chosen-end : (rows : List Holding) (cs os : List ℕ) (i : ℕ) → length rows ≤ i → length cs ≤ i → cs ≡ take i cs ++ chosen (drop i rows) (drop i cs) (drop i os)
chosen-end rows cs os i le long = sym (ap₂ ◌++◌ (take_all i cs long) (ap (λ (w : List Holding). chosen w (drop i cs) (drop i os)) (drop_all i rows le)) ∙ append-nil cs)

-- Rank: which limits a price takes, and sums below a rank.
use Rattle.std.proofs.Common.{◌≡◌, ℕ, zero, suc, ◌+◌, ◌-◌, ◌*◌, ◌≤◌, min, Bool, true, false, cond, ◌&&◌, eqb, ltb, leb, List, [], ◌∷◌, length, sym, refl, ap, ◌∙◌, arith}
use Rattle.std.proofs.lemmas.Bool.Decides.{nat_tests}
use Rattle.std.proofs.lemmas.Bool.{and_parts, leb-true}
use Rattle.std.proofs.lemmas.List.Sums.{sum_by-cons}
use Rattle.interest.specs.declared.Side.{Side}
use Rattle.interest.specs.declared.Side.TheVariants.{Buy, Sell}
use Rattle.interest.specs.declared.Limit.{Limit}
use Rattle.interest.specs.declared.Limit.TheVariants.{Market, At}
use Rattle.interest.specs.Bounds.{priced}
use Rattle.interest.specs.Sides.{same_side}
use Rattle.book.specs.declared.row.Row.{Row}
use Rattle.book.specs.Rows.{bounded_limit, sound_row, every, held, sound_table}
use Rattle.book.specs.Ranks.{of_side, routable_class, can_route, takes_price, through_price, total_of, interest_at, routable_at, interest_through, routable_through, rank, rank_of, below, at_rank, ranks_at}
use Rattle.book.proofs.RewriteFacts.{row-sound, table-rows}

pub bounds : (p : ℕ) → priced p ≡ true → (1 ≤ p) × (p ≤ 100000)
bounds p h = let q = and_parts (leb 1 p) (leb p 100000) h in (leb-true 1 p q.0, leb-true p 100000 q.1)

-- the limits that take a price are those of a rank below `ranks_at`; those through it, of a rank below its own
pub takes-rank : (side : Side) (p : ℕ) (l : Limit) → priced p ≡ true → bounded_limit l ≡ true → takes_price side p l ≡ ltb (rank side l) (ranks_at side p)
takes-rank side p Market hp hl = sym (grind (arith, nat_tests))
takes-rank Buy p (At x) hp hl = let b = bounds p hp in let d = bounds x hl in grind (arith, nat_tests)
takes-rank Sell p (At x) hp hl = let b = bounds p hp in let d = bounds x hl in grind (arith, nat_tests)

pub through-rank : (side : Side) (p : ℕ) (l : Limit) → priced p ≡ true → bounded_limit l ≡ true → through_price side p l ≡ ltb (rank side l) (rank side (At p))
through-rank Buy p Market hp hl = let b = bounds p hp in sym (grind (arith, nat_tests))
through-rank Sell p Market hp hl = let b = bounds p hp in sym (grind (arith, nat_tests))
through-rank Buy p (At x) hp hl = let b = bounds p hp in let d = bounds x hl in grind (arith, nat_tests)
through-rank Sell p (At x) hp hl = let b = bounds p hp in let d = bounds x hl in grind (arith, nat_tests)

pub rank-top : (side : Side) (l : Limit) → bounded_limit l ≡ true → rank side l ≤ 100000
rank-top side Market hl = omega arith
rank-top Buy (At x) hl = let d = bounds x hl in omega arith
rank-top Sell (At x) hl = let d = bounds x hl in omega arith

-- a row of a side has its rank there
pub side-rank : (a side : Side) (l : Limit) (n : ℕ) → (same_side a side && ltb (rank side l) n) ≡ (same_side a side && ltb (rank a l) n)
side-rank Buy Buy l n = refl
side-rank Buy Sell l n = refl
side-rank Sell Buy l n = refl
side-rank Sell Sell l n = refl

and-swap : (a b c : Bool) → ((a && b) && c) ≡ (b && (a && c))
and-swap true true c = refl
and-swap true false c = refl
and-swap false true c = refl
and-swap false false c = refl

-- the rows of a side that take a price, and the routable ones, by rank
pub takes-below : (side : Side) (p : ℕ) (r : Row) → priced p ≡ true → sound_row r ≡ true → (of_side side r && takes_price side p r.limit) ≡ (of_side side r && ltb (rank_of r) (ranks_at side p))
takes-below side p r hp hr = ap (λ (b : Bool). of_side side r && b) (takes-rank side p r.limit hp (row-sound r hr).3) ∙ side-rank r.side side r.limit (ranks_at side p)

pub through-below : (side : Side) (p : ℕ) (r : Row) → priced p ≡ true → sound_row r ≡ true → (of_side side r && through_price side p r.limit) ≡ (of_side side r && ltb (rank_of r) (rank side (At p)))
through-below side p r hp hr = ap (λ (b : Bool). of_side side r && b) (through-rank side p r.limit hp (row-sound r hr).3) ∙ side-rank r.side side r.limit (rank side (At p))

pub routable-takes-below : (side : Side) (p : ℕ) (r : Row) → priced p ≡ true → sound_row r ≡ true → (can_route side r && takes_price side p r.limit) ≡ (can_route side r && ltb (rank_of r) (ranks_at side p))
routable-takes-below side p r hp hr =
    let c = routable_class r.class in
    and-swap (of_side side r) c (takes_price side p r.limit) ∙ ap (λ (b : Bool). c && b) (takes-below side p r hp hr) ∙ sym (and-swap (of_side side r) c (ltb (rank_of r) (ranks_at side p)))

pub routable-through-below : (side : Side) (p : ℕ) (r : Row) → priced p ≡ true → sound_row r ≡ true → (can_route side r && through_price side p r.limit) ≡ (can_route side r && ltb (rank_of r) (rank side (At p)))
routable-through-below side p r hp hr =
    let c = routable_class r.class in
    and-swap (of_side side r) c (through_price side p r.limit) ∙ ap (λ (b : Bool). c && b) (through-below side p r hp hr) ∙ sym (and-swap (of_side side r) c (ltb (rank_of r) (rank side (At p))))

-- sums over tests that agree on sound rows
pub total-by : (f : Row → ℕ) (test test₂ : Row → Bool) → ((r : Row) → sound_row r ≡ true → test r ≡ test₂ r) → (rows : List Row) → every sound_row rows ≡ true → total_of f test rows ≡ total_of f test₂ rows
total-by f test test₂ same [] h = refl
total-by f test test₂ same (r ∷ rows) h =
    let p = and_parts (sound_row r) (every sound_row rows) h in
    let e : cond (test r) (f r) 0 ≡ cond (test₂ r) (f r) 0 = ap (λ (b : Bool). cond b (f r) 0) (same r p.0) in
    omega (arith, sum_by-cons (λ x. cond (test x) (f x) 0) r rows, sum_by-cons (λ x. cond (test₂ x) (f x) 0) r rows, e, total-by f test test₂ same rows p.1)

module _ (side : Side) (p : ℕ) (rows : List Row) (hp : priced p ≡ true) (h : sound_table rows ≡ true) where
  pub interest-below : interest_at side p rows ≡ below (of_side side) (ranks_at side p) rows
  interest-below = total-by (λ (r : Row). r.left) (λ r. of_side side r && takes_price side p r.limit) (λ r. of_side side r && ltb (rank_of r) (ranks_at side p)) (λ r s. takes-below side p r hp s) rows (table-rows rows h)

  pub routable-below : routable_at side p rows ≡ below (can_route side) (ranks_at side p) rows
  routable-below = total-by (λ (r : Row). r.left) (λ r. can_route side r && takes_price side p r.limit) (λ r. can_route side r && ltb (rank_of r) (ranks_at side p)) (λ r s. routable-takes-below side p r hp s) rows (table-rows rows h)

  pub interest-through-below : interest_through side p rows ≡ below (of_side side) (rank side (At p)) rows
  interest-through-below = total-by (λ (r : Row). r.left) (λ r. of_side side r && through_price side p r.limit) (λ r. of_side side r && ltb (rank_of r) (rank side (At p))) (λ r s. through-below side p r hp s) rows (table-rows rows h)

  pub routable-through-below-all : routable_through side p rows ≡ below (can_route side) (rank side (At p)) rows
  routable-through-below-all = total-by (λ (r : Row). r.left) (λ r. can_route side r && through_price side p r.limit) (λ r. can_route side r && ltb (rank_of r) (rank side (At p))) (λ r s. routable-through-below side p r hp s) rows (table-rows rows h)

-- one level more
split-here : (b : Bool) (k n x : ℕ) → cond (b && ltb k (n + 1)) x 0 ≡ cond (b && ltb k n) x 0 + cond (b && eqb k n) x 0
split-here true k n x = grind (arith, nat_tests)
split-here false k n x = omega arith

pub below_more : (test : Row → Bool) (n : ℕ) (rows : List Row) → below test (n + 1) rows ≡ below test n rows + at_rank test n rows
below_more test n [] = omega arith
below_more test n (r ∷ rows) =
    omega (arith, below_more test n rows, split-here (test r) (rank_of r) n r.left, sum_by-cons (λ (x : Row). cond (test x && ltb (rank_of x) (n + 1)) x.left 0) r rows, sum_by-cons (λ (x : Row). cond (test x && ltb (rank_of x) n) x.left 0) r rows, sum_by-cons (λ (x : Row). cond (test x && eqb (rank_of x) n) x.left 0) r rows)

none_here : (b : Bool) (k x : ℕ) → cond (b && ltb k 0) x 0 ≡ 0
none_here true k x = grind (arith, nat_tests)
none_here false k x = refl

pub below_none : (test : Row → Bool) (rows : List Row) → below test 0 rows ≡ 0
below_none test [] = refl
below_none test (r ∷ rows) = omega (arith, below_none test rows, none_here (test r) (rank_of r) r.left, sum_by-cons (λ (x : Row). cond (test x && ltb (rank_of x) 0) x.left 0) r rows)

-- what a level takes of what those before it leave
pub level-takes : (test : Row → Bool) (v n : ℕ) (rows : List Row) → min v (below test n rows) + min (v - below test n rows) (at_rank test n rows) ≡ min v (below test (n + 1) rows)
level-takes test v n rows = omega (arith, below_more test n rows)

pub below_up : (test : Row → Bool) (n d : ℕ) (rows : List Row) → below test n rows ≤ below test (n + d) rows
below_up test n zero rows = let e : n + 0 ≡ n = omega arith in omega (arith, ap (λ (x : ℕ). below test x rows) e)
below_up test n (suc d) rows =
    let e : n + suc d ≡ (n + d) + 1 = omega arith in
    omega (arith, below_up test n d rows, ap (λ (x : ℕ). below test x rows) e, below_more test (n + d) rows)

-- a sum of parts of sound rows is small
cond-le : (b : Bool) (n : ℕ) → cond b n 0 ≤ n
cond-le true n = omega arith
cond-le false n = omega arith

pub total-le : (f : Row → ℕ) → ((r : Row) → f r ≤ held r) → (test : Row → Bool) (rows : List Row) → every sound_row rows ≡ true → total_of f test rows ≤ length rows * 1000000
total-le f part test [] h = omega arith
total-le f part test (x ∷ xs) h =
    let p = and_parts (sound_row x) (every sound_row xs) h in
    let s = row-sound x p.0 in
    omega (arith, cond-le (test x) (f x), part x, s.0, s.2, sum_by-cons (λ y. cond (test y) (f y) 0) x xs, total-le f part test xs p.1)

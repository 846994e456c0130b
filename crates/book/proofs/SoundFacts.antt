-- What the invariant of a table says, row by row and pair by pair, and the edits that keep it.
use Rattle.std.proofs.Common.{◌≡◌, ℕ, zero, suc, ◌+◌, ◌<◌, ◌≤◌, Bool, true, false, cond, not, ◌||◌, eqb, leb, List, [], ◌∷◌, ◌++◌, length, get_or, take, drop, sum_by, count_by, filter, sym, refl, ap, ◌∙◌, subst, inl, inr, arith}
use Rattle.std.specs.List.{insert, AllByRecursion}
use Rattle.std.specs.List.Sorted.{IsPartitionedBy, IsPartitionPoint}
use Rattle.std.proofs.lemmas.Bool.{and_parts, and_from, cond_both, cond-true, cond-false, leb-true, le-leb, both_ways, cases_Bool, not-true, not_from_false, true≢false, lt-leb}
use Rattle.std.proofs.lemmas.List.{take_at, drop_at, length-append}
use Rattle.std.proofs.ByRecursion.{All-append, All-weaker, all_kept_by}
use Rattle.std.proofs.lemmas.List.Sums.{sum_by-cons, sum_by-append, length-filter, count_by-le-length}
use Rattle.std.proofs.lemmas.List.Filters.{sum_by-filter_both, length-filter_both}
use Rattle.interest.specs.declared.Side.{Side}
use Rattle.interest.specs.declared.Side.TheVariants.{Buy, Sell}
use Rattle.interest.specs.declared.Class.{Class}
use Rattle.interest.specs.declared.Limit.{Limit}
use Rattle.interest.specs.Bounds.{sized, maker_numbered}
use Rattle.book.specs.declared.row.Owner.{Owner}
use Rattle.book.specs.declared.row.Owner.TheVariants.{Order, Quote}
use Rattle.book.specs.declared.row.Row.{Row}
use Rattle.book.specs.Rows.{held, bounded_limit, quotable, sound_owner, sound_row, sound_table, every, place, place_by, following, in_row_order, is_order, is_quote_of, order_owned, new_number, distinct_numbers, below_limit, below_offer, bids_below_offers, order_count}
use Rattle.book.specs.Edits.{placed}

-- tests of every row

pub every-all : (test : Row → Bool) (rows : List Row) → every test rows ≡ true → AllByRecursion (λ r. test r ≡ true) rows
every-all test [] h = tt
every-all test (r ∷ rs) h =
    let p = and_parts (test r) (every test rs) h in
    (p.0, every-all test rs p.1)

pub all-every : (test : Row → Bool) (rows : List Row) → AllByRecursion (λ r. test r ≡ true) rows → every test rows ≡ true
all-every test [] h = refl
all-every test (r ∷ rs) h = and_from (test r) (every test rs) h.0 (all-every test rs h.1)

-- each row with each later one

abbrev pub Pairs : (Row → Row → Type 0) → List Row → Type 0
Pairs R [] = Unit {0}
Pairs R (r ∷ rs) = AllByRecursion (R r) rs × Pairs R rs

pub pairs-append : (R : Row → Row → Type 0) (xs ys : List Row) → Pairs R xs → Pairs R ys → AllByRecursion (λ x. AllByRecursion (R x) ys) xs → Pairs R (xs ++ ys)
pairs-append R [] ys p q cross = q
pairs-append R (x ∷ xs) ys p q cross = (All-append (R x) xs ys p.0 cross.0, pairs-append R xs ys p.1 q cross.1)

all-later : (P : Row → Type 0) (xs ys : List Row) → AllByRecursion P (xs ++ ys) → AllByRecursion P ys
all-later P [] ys h = h
all-later P (x ∷ xs) ys h = all-later P xs ys h.1

pub pairs-cross : (R : Row → Row → Type 0) (xs ys : List Row) → Pairs R (xs ++ ys) → AllByRecursion (λ x. AllByRecursion (R x) ys) xs
pairs-cross R [] ys p = tt
pairs-cross R (x ∷ xs) ys p = (all-later (R x) xs ys p.0, pairs-cross R xs ys p.1)

pub pairs-kept : (R : Row → Row → Type 0) (test : Row → Bool) (rows : List Row) → Pairs R rows → Pairs R (filter test rows)
pairs-kept R test [] p = tt
pairs-kept R test (r ∷ rs) p =
    cond_both (test r) (r ∷ filter test rs) (filter test rs) (Pairs R)
    (λ _. (all_kept_by test (R r) rs p.0, pairs-kept R test rs p.1))
    (λ _. pairs-kept R test rs p.1)

-- what a filter keeps

pub kept-all : (test : Row → Bool) (rows : List Row) → AllByRecursion (λ r. test r ≡ true) rows → filter test rows ≡ rows
kept-all test [] h = refl
kept-all test (r ∷ rs) h = cond-true (test r) (r ∷ filter test rs) (filter test rs) h.0 ∙ ap (λ (ys : List Row). r ∷ ys) (kept-all test rs h.1)

pub kept-none : (test : Row → Bool) (rows : List Row) → AllByRecursion (λ r. test r ≡ false) rows → filter test rows ≡ []
kept-none test [] h = refl
kept-none test (r ∷ rs) h = cond-false (test r) (r ∷ filter test rs) (filter test rs) h.0 ∙ kept-none test rs h.1

pub all-kept-when : (test : Row → Bool) (P : Row → Type 0) (rows : List Row) → AllByRecursion (λ r. test r ≡ true → P r) rows → AllByRecursion P (filter test rows)
all-kept-when test P [] h = tt
all-kept-when test P (r ∷ rs) h =
    cond_both (test r) (r ∷ filter test rs) (filter test rs) (AllByRecursion P)
    (λ e. (h.0 e, all-kept-when test P rs h.1))
    (λ _. all-kept-when test P rs h.1)

abbrev pub others : (Row → Bool) → Row → Bool
others test r = not (test r)

-- where no row that passes follows one that does not, the rows are those that pass and then the others
pub split-kept : (R : Row → Row → Type 0) (test : Row → Bool) → ((r s : Row) → R r s → test s ≡ true → test r ≡ true) → (rows : List Row) → Pairs R rows → filter test rows ++ filter (λ r. not (test r)) rows ≡ rows
split-kept R test down [] p = refl
split-kept R test down (r ∷ rs) p =
    let parts : Bool → List Row = λ b. cond b (r ∷ filter test rs) (filter test rs) ++ cond (not b) (r ∷ filter (others test) rs) (filter (others test) rs) in
    elim (cases_Bool (test r)) [
      | inl e ↦ ap parts e ∙ ap (λ (ys : List Row). r ∷ ys) (split-kept R test down rs p.1)
      | inr e ↦
          let none : AllByRecursion (λ s. test s ≡ false) rs = All-weaker (R r) (λ s. test s ≡ false) (λ s h. elim (cases_Bool (test s)) [ inl t ↦ absurd (both_ways (test r) e (down r s h t)) | inr f ↦ f ]) rs p.0 in
          let rest : AllByRecursion (λ s. others test s ≡ true) rs = All-weaker (λ s. test s ≡ false) (λ s. others test s ≡ true) (λ s f. not_from_false (test s) f) rs none in
          ap parts e ∙ ap (λ (ys : List Row). ys ++ r ∷ filter (others test) rs) (kept-none test rs none) ∙ ap (λ (ys : List Row). r ∷ ys) (kept-all (others test) rs rest)
    ]

-- there the rows that pass stand in front, and how many there are is where the others begin
all-at : (P : Row → Type 0) (rows : List Row) (j : ℕ) (d : Row) → AllByRecursion P rows → j < length rows → P (get_or rows j d)
all-at P [] j d h lt = absurd (omega arith)
all-at P (r ∷ rs) zero d h lt = h.0
all-at P (r ∷ rs) (suc j) d h lt = all-at P rs j d h.1 (omega arith)

partitioned : (R : Row → Row → Type 0) (test : Row → Bool) → ((r s : Row) → R r s → test s ≡ true → test r ≡ true) → (rows : List Row) → Pairs R rows → IsPartitionedBy test rows
partitioned R test down [] p i j d le lt h = absurd (omega arith)
partitioned R test down (r ∷ rs) p zero zero d le lt h = h
partitioned R test down (r ∷ rs) p zero (suc j) d le lt h = down r (get_or rs j d) (all-at (R r) rs j d p.0 (omega arith)) h
partitioned R test down (r ∷ rs) p (suc i) zero d le lt h = absurd (omega arith)
partitioned R test down (r ∷ rs) p (suc i) (suc j) d le lt h = partitioned R test down rs p.1 i j d (omega arith) (omega arith) h

parted-count : (test : Row → Bool) (rows : List Row) (i : ℕ) → i ≤ length rows → IsPartitionPoint (λ r. test r ≡ true) (λ r. test r ≡ false) rows i → i ≡ count_by test rows
parted-count test [] i le h = omega arith
parted-count test (r ∷ rs) zero le h =
    let rest = parted-count test rs 0 (omega arith) ((λ k d low high. absurd (omega arith)), (λ k d low high. h.1 (suc k) d (omega arith) (omega arith))) in
    omega (arith, sum_by-cons (λ (x : Row). cond (test x) 1 0) r rs, cond-false {A = ℕ} (test r) 1 0 (h.1 0 r (omega arith) (omega arith)), rest)
parted-count test (r ∷ rs) (suc i) le h =
    let rest = parted-count test rs i (omega arith) ((λ k d low high. h.0 (suc k) d (omega arith) (omega arith)), (λ k d low high. h.1 (suc k) d (omega arith) (omega arith))) in
    omega (arith, sum_by-cons (λ (x : Row). cond (test x) 1 0) r rs, cond-true {A = ℕ} (test r) 1 0 (h.0 0 r (omega arith) (omega arith)), rest)

-- what two rows of a table are to one another

abbrev pub differs : Owner → Row → Bool
differs (Order n) s = not (is_order n s)
differs (Quote m) s = true

abbrev pub under : Owner → Limit → Row → Bool
under (Order n) l s = true
under (Quote m) l s = not (is_quote_of m s) || below_limit l s.limit

pub record Fits (r s : Row) : Type 0 where
  pub order : following (place r) ≤ place s
  pub number : differs r.owner s ≡ true
  pub below : under r.owner r.limit s ≡ true

pub record Sound (rows : List Row) : Type 0 where
  pub each : AllByRecursion (λ r. sound_row r ≡ true) rows
  pub pairs : Pairs Fits rows
  pub few : order_count rows ≤ 96

pub follows : (p : ℕ) → p ≤ following p
follows zero = omega arith
follows (suc n) = omega arith

places-from : (from : ℕ) (rows : List Row) → in_row_order from rows ≡ true → AllByRecursion (λ s. from ≤ place s) rows
places-from from [] h = tt
places-from from (r ∷ rs) h =
    let p = and_parts (leb from (place r)) (in_row_order (following (place r)) rs) h in
    let at = leb-true from (place r) p.0 in
    (at, All-weaker (λ s. following (place r) ≤ place s) (λ s. from ≤ place s) (λ s k. omega (arith, follows (place r))) rs (places-from (following (place r)) rs p.1))

numbers-from : (o : Owner) (rows : List Row) → new_number o rows ≡ true → AllByRecursion (λ s. differs o s ≡ true) rows
numbers-from (Order n) rows h = every-all (λ s. not (is_order n s)) rows h
numbers-from (Quote m) [] h = tt
numbers-from (Quote m) (r ∷ rs) h = (refl, numbers-from (Quote m) rs h)

below-from : (o : Owner) (l : Limit) (rows : List Row) → below_offer o l rows ≡ true → AllByRecursion (λ s. under o l s ≡ true) rows
below-from (Order n) l [] h = tt
below-from (Order n) l (r ∷ rs) h = (refl, below-from (Order n) l rs h)
below-from (Quote m) l rows h = every-all (λ s. not (is_quote_of m s) || below_limit l s.limit) rows h

all_fit : (r : Row) (rows : List Row) → AllByRecursion (λ s. following (place r) ≤ place s) rows → AllByRecursion (λ s. differs r.owner s ≡ true) rows → AllByRecursion (λ s. under r.owner r.limit s ≡ true) rows → AllByRecursion (Fits r) rows
all_fit r [] a b c = tt
all_fit r (s ∷ ss) a b c = (record { order = a.0; number = b.0; below = c.0 }, all_fit r ss a.1 b.1 c.1)

pairs-fit : (from : ℕ) (rows : List Row) → in_row_order from rows ≡ true → distinct_numbers rows ≡ true → bids_below_offers rows ≡ true → Pairs Fits rows
pairs-fit from [] a b c = tt
pairs-fit from (r ∷ rs) a b c =
    let p = and_parts (leb from (place r)) (in_row_order (following (place r)) rs) a in
    let q = and_parts (new_number r.owner rs) (distinct_numbers rs) b in
    let s = and_parts (below_offer r.owner r.limit rs) (bids_below_offers rs) c in
    (all_fit r rs (places-from (following (place r)) rs p.1) (numbers-from r.owner rs q.0) (below-from r.owner r.limit rs s.0), pairs-fit (following (place r)) rs p.1 q.1 s.1)

pub sound-opened : (rows : List Row) → sound_table rows ≡ true → Sound rows
sound-opened rows h =
    let a = and_parts (every sound_row rows) _ h in
    let b = and_parts (in_row_order 0 rows) _ a.1 in
    let c = and_parts (distinct_numbers rows) _ b.1 in
    let d = and_parts (bids_below_offers rows) (leb (order_count rows) 96) c.1 in
    record { each = every-all sound_row rows a.0; pairs = pairs-fit 0 rows b.0 c.0 d.0; few = leb-true (order_count rows) 96 d.1 }

order-closed : (from : ℕ) (rows : List Row) → AllByRecursion (λ s. from ≤ place s) rows → Pairs Fits rows → in_row_order from rows ≡ true
order-closed from [] a p = refl
order-closed from (r ∷ rs) a p =
    and_from (leb from (place r)) (in_row_order (following (place r)) rs) (le-leb from (place r) a.0)
    (order-closed (following (place r)) rs (All-weaker (Fits r) (λ s. following (place r) ≤ place s) (λ s f. f.order) rs p.0) p.1)

numbers-closed : (o : Owner) (rows : List Row) → AllByRecursion (λ s. differs o s ≡ true) rows → new_number o rows ≡ true
numbers-closed (Order n) rows h = all-every (λ s. not (is_order n s)) rows h
numbers-closed (Quote m) rows h = refl

below-closed : (o : Owner) (l : Limit) (rows : List Row) → AllByRecursion (λ s. under o l s ≡ true) rows → below_offer o l rows ≡ true
below-closed (Order n) l rows h = refl
below-closed (Quote m) l rows h = all-every (λ s. not (is_quote_of m s) || below_limit l s.limit) rows h

distinct-closed : (rows : List Row) → Pairs Fits rows → distinct_numbers rows ≡ true
distinct-closed [] p = refl
distinct-closed (r ∷ rs) p = and_from (new_number r.owner rs) (distinct_numbers rs) (numbers-closed r.owner rs (All-weaker (Fits r) (λ s. differs r.owner s ≡ true) (λ s f. f.number) rs p.0)) (distinct-closed rs p.1)

bids-closed : (rows : List Row) → Pairs Fits rows → bids_below_offers rows ≡ true
bids-closed [] p = refl
bids-closed (r ∷ rs) p = and_from (below_offer r.owner r.limit rs) (bids_below_offers rs) (below-closed r.owner r.limit rs (All-weaker (Fits r) (λ s. under r.owner r.limit s ≡ true) (λ s f. f.below) rs p.0)) (bids-closed rs p.1)

all-least : (rows : List Row) → AllByRecursion (λ s. 0 ≤ place s) rows
all-least [] = tt
all-least (r ∷ rs) = (omega arith, all-least rs)

pub sound-closed : (rows : List Row) → Sound rows → sound_table rows ≡ true
sound-closed rows h =
    and_from (every sound_row rows) _ (all-every sound_row rows h.each)
    (and_from (in_row_order 0 rows) _ (order-closed 0 rows (all-least rows) h.pairs)
    (and_from (distinct_numbers rows) _ (distinct-closed rows h.pairs)
    (and_from (bids_below_offers rows) (leb (order_count rows) 96) (bids-closed rows h.pairs) (le-leb (order_count rows) 96 h.few))))

-- rows taken out

pub sum_kept : (f : Row → ℕ) (test : Row → Bool) (rows : List Row) → sum_by f (filter test rows) + sum_by f (filter (others test) rows) ≡ sum_by f rows
sum_kept f test rows = sum_by-filter_both test (others test) (λ _. refl) f rows

pub sound-kept : (test : Row → Bool) (rows : List Row) → sound_table rows ≡ true → sound_table (filter test rows) ≡ true
sound-kept test rows h =
    let s = sound-opened rows h in
    let few : order_count (filter test rows) ≤ 96 = omega (arith, s.few, sum_kept (λ (r : Row). cond (order_owned r.owner) 1 0) test rows) in
    sound-closed (filter test rows) (record { each = all_kept_by test (λ r. sound_row r ≡ true) rows s.each; pairs = pairs-kept Fits test rows s.pairs; few = few })

-- at most 128 rows: 96 orders, and one bid and one offer of each maker

following-past : (p : ℕ) → 1 ≤ p → following p ≡ suc p
following-past zero h = absurd (omega arith)
following-past (suc n) h = refl

owner-places : (o : Owner) (side : Side) (l : Limit) (c : Class) → sound_owner o l c ≡ true → (order_owned o ≡ false → 1 ≤ place_by o side) × (place_by o side ≤ 32)
owner-places (Order n) side l c h = (λ e. absurd (true≢false e), omega arith)
owner-places (Quote m) Buy l c h =
    let p = and_parts (leb 1 m) (leb m 16) (and_parts (maker_numbered m) (quotable l c) h).0 in
    let low = leb-true 1 m p.0 in
    let high = leb-true m 16 p.1 in
    (λ _. omega arith, omega arith)
owner-places (Quote m) Sell l c h =
    let p = and_parts (leb 1 m) (leb m 16) (and_parts (maker_numbered m) (quotable l c) h).0 in
    let low = leb-true 1 m p.0 in
    let high = leb-true m 16 p.1 in
    (λ _. omega arith, omega arith)

pub sound-owner : (r : Row) → sound_row r ≡ true → sound_owner r.owner r.limit r.class ≡ true
sound-owner r h =
    let a = and_parts (sized r.size) _ h in
    let b = and_parts (eqb (held r) r.size) _ a.1 in
    (and_parts (bounded_limit r.limit) _ b.1).1

row-places : (r : Row) → sound_row r ≡ true → (order_owned r.owner ≡ false → 1 ≤ place r) × (place r ≤ 32)
row-places r h = owner-places r.owner r.side r.limit r.class (sound-owner r h)

quotes-few : (from : ℕ) (rows : List Row) → 1 ≤ from → from ≤ 33 → AllByRecursion (λ s. from ≤ place s) rows → Pairs Fits rows → AllByRecursion (λ r. sound_row r ≡ true) rows → length rows + from ≤ 33
quotes-few from [] low high a p h = omega arith
quotes-few from (r ∷ rs) low high a p h =
    let up = (row-places r h.0).1 in
    let here = a.0 in
    let step : following (place r) ≡ suc (place r) = following-past (place r) (omega arith) in
    let later : AllByRecursion (λ s. suc (place r) ≤ place s) rs = All-weaker (Fits r) (λ s. suc (place r) ≤ place s) (λ s f. omega (arith, f.order)) rs p.0 in
    omega (arith, quotes-few (suc (place r)) rs (omega arith) (omega arith) later p.1 h.1)

rows_few : (rows : List Row) → Pairs Fits rows → AllByRecursion (λ r. sound_row r ≡ true) rows → length rows ≤ order_count rows + 32
rows_few [] p h = omega arith
rows_few (r ∷ rs) p h =
    let ones : Row → ℕ = λ (x : Row). cond (order_owned x.owner) 1 0 in
    let sum : order_count (r ∷ rs) ≡ ones r + order_count rs = sum_by-cons ones r rs in
    elim (cases_Bool (order_owned r.owner)) [
      | inl e ↦ omega (arith, rows_few rs p.1 h.1, cond-true {A = ℕ} (order_owned r.owner) 1 0 e)
      | inr e ↦
          let at = row-places r h.0 in
          let low = at.0 e in
          let up = at.1 in
          let step : following (place r) ≡ suc (place r) = following-past (place r) low in
          let later : AllByRecursion (λ s. suc (place r) ≤ place s) rs = All-weaker (Fits r) (λ s. suc (place r) ≤ place s) (λ s f. omega (arith, f.order)) rs p.0 in
          omega (arith, quotes-few (suc (place r)) rs (omega arith) (omega arith) later p.1 h.1)
    ]

pub sound-few : (rows : List Row) → sound_table rows ≡ true → length rows ≤ 128
sound-few rows h =
    let s = sound-opened rows h in
    omega (arith, s.few, rows_few rows s.pairs s.each)

-- among sound rows the orders are those of place 0

owner-first : (o : Owner) (side : Side) (l : Limit) (c : Class) → sound_owner o l c ≡ true → order_owned o ≡ leb (place_by o side) 0
owner-first (Order n) side l c h = refl
owner-first (Quote m) side l c h = sym (lt-leb (place_by (Quote m) side) 0 ((owner-places (Quote m) side l c h).0 refl))

pub orders-first : (rows : List Row) → AllByRecursion (λ r. sound_row r ≡ true) rows → AllByRecursion (λ r. order_owned r.owner ≡ leb (place r) 0) rows
orders-first rows h = All-weaker (λ r. sound_row r ≡ true) (λ r. order_owned r.owner ≡ leb (place r) 0) (λ r k. owner-first r.owner r.side r.limit r.class (sound-owner r k)) rows h

-- a row put in its place

all_both : (P Q : Row → Type 0) (rows : List Row) → AllByRecursion P rows → AllByRecursion Q rows → AllByRecursion (λ r. P r × Q r) rows
all_both P Q [] a b = tt
all_both P Q (r ∷ rs) a b = ((a.0, b.0), all_both P Q rs a.1 b.1)

abbrev pub up_to : Row → Row → Bool
up_to row r = leb (place r) (place row)

up_to-down : (row r s : Row) → Fits r s → up_to row s ≡ true → up_to row r ≡ true
up_to-down row r s f e = le-leb (place r) (place row) (omega (arith, f.order, follows (place r), leb-true (place s) (place row) e))

pub split-place : (row : Row) (rows : List Row) → sound_table rows ≡ true → filter (up_to row) rows ++ filter (others (up_to row)) rows ≡ rows
split-place row rows h = split-kept Fits (up_to row) (up_to-down row) rows (sound-opened rows h).pairs

-- of the rows as they are listed
pub place-counted : (row : Row) (rows listed : List Row) → listed ≡ rows → sound_table rows ≡ true → (i : ℕ) → i ≤ length listed
    → (IsPartitionedBy (up_to row) listed → IsPartitionPoint (λ r. up_to row r ≡ true) (λ r. up_to row r ≡ false) listed i) → i ≡ count_by (up_to row) rows
place-counted row rows listed same h i le point =
    let parted : IsPartitionedBy (up_to row) rows = partitioned Fits (up_to row) (up_to-down row) rows (sound-opened rows h).pairs in
    parted-count (up_to row) listed i le (point (subst (IsPartitionedBy (up_to row)) (sym same) parted)) ∙ ap (count_by (up_to row)) same

pub inserted-placed : (row : Row) (rows : List Row) → sound_table rows ≡ true → insert rows (count_by (up_to row) rows) row ≡ placed row rows
inserted-placed row rows h =
    let n = count_by (up_to row) rows in
    let lows = filter (up_to row) rows in
    let highs = filter (others (up_to row)) rows in
    let split = split-place row rows h in
    let at : length lows ≡ n = length-filter (up_to row) rows in
    let front : take n rows ≡ lows = ap (take n) (sym split) ∙ take_at lows highs n at in
    let back : drop n rows ≡ highs = ap (drop n) (sym split) ∙ drop_at lows highs n at in
    ap (λ (ys : List Row). ys ++ row ∷ drop n rows) front ∙ ap (λ (ys : List Row). lows ++ row ∷ ys) back

pub length-placed : (row : Row) (rows : List Row) → length (placed row rows) ≡ length rows + 1
length-placed row rows = omega (arith, length-append (filter (up_to row) rows) (row ∷ filter (others (up_to row)) rows), length-filter_both (up_to row) (others (up_to row)) (λ _. refl) rows)

-- whether a row fits beside a new one: before it if it is up to its place, else behind it
abbrev pub Beside : Row → Row → Type 0
Beside row r = (up_to row r ≡ true → Fits r row) × (up_to row r ≡ false → Fits row r)

pub sound-placed : (row : Row) (rows : List Row) → sound_table rows ≡ true → sound_row row ≡ true → cond (order_owned row.owner) 1 0 + order_count rows ≤ 96 → AllByRecursion (Beside row) rows → sound_table (placed row rows) ≡ true
sound-placed row rows h good room beside =
    let s = sound-opened rows h in
    let lows = filter (up_to row) rows in
    let highs = filter (others (up_to row)) rows in
    let near : AllByRecursion (λ r. Fits r row) lows = all-kept-when (up_to row) (λ r. Fits r row) rows (All-weaker (Beside row) (λ r. up_to row r ≡ true → Fits r row) (λ r b. b.0) rows beside) in
    let far : AllByRecursion (Fits row) highs = all-kept-when (others (up_to row)) (Fits row) rows (All-weaker (Beside row) (λ r. others (up_to row) r ≡ true → Fits row r) (λ r b e. b.1 (not-true (up_to row r) e)) rows beside) in
    let cross : AllByRecursion (λ r. AllByRecursion (Fits r) highs) lows = pairs-cross Fits lows highs (subst (Pairs Fits) (sym (split-place row rows h)) s.pairs) in
    let ones : Row → ℕ = λ (r : Row). cond (order_owned r.owner) 1 0 in
    let few : order_count (placed row rows) ≤ 96 = omega (arith, room, sum_by-append ones lows (row ∷ highs), sum_by-cons ones row highs, sum_kept ones (up_to row) rows) in
    sound-closed (placed row rows) (record {
      each = All-append (λ r. sound_row r ≡ true) lows (row ∷ highs) (all_kept_by (up_to row) (λ r. sound_row r ≡ true) rows s.each) (good, all_kept_by (others (up_to row)) (λ r. sound_row r ≡ true) rows s.each);
      pairs = pairs-append Fits lows (row ∷ highs) (pairs-kept Fits (up_to row) rows s.pairs) (far, pairs-kept Fits (others (up_to row)) rows s.pairs) (all_both (λ r. Fits r row) (λ r. AllByRecursion (Fits r) highs) lows near cross);
      few = few;
    })

-- a row put into a table: there is room, and its place among the rows is how many are up to it
module _ (row : Row) (rows : List Row) (h : sound_table rows ≡ true) (at : ℕ) (is : at ≡ count_by (up_to row) rows) where
  pub insert-inside : at ≤ length rows
  insert-inside = omega (arith, count_by-le-length (up_to row) rows)

  pub insert-room : sound_table (placed row rows) ≡ true → length rows < 128
  insert-room then = omega (arith, sound-few (placed row rows) then, length-placed row rows)

  pub insert-done : insert rows at row ≡ placed row rows
  insert-done = ap (λ (n : ℕ). insert rows n row) is ∙ inserted-placed row rows h

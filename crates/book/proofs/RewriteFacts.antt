-- A row changed in its place: the table stays sound where the row stays the same interest.
use Rattle.std.proofs.Common.{◌≡◌, ℕ, zero, suc, ◌+◌, ◌<◌, ◌≤◌, Bool, true, false, cond, not, ◌&&◌, ◌||◌, eqb, leb, List, [], ◌∷◌, ◌++◌, map, length, min, get_or, take, drop, set, sym, refl, ap, ◌∙◌, arith}
use Rattle.std.proofs.lemmas.Bool.{and_parts, leb-true, eqb-true, false≢true}
use Rattle.std.proofs.lemmas.List.Sums.{sum_by-cons}
use Rattle.std.proofs.lemmas.List.{take_more, take_more_set, drop-set-lt, append_assoc, append-nil, take_all, drop_all, at_drop_more}
use Rattle.interest.specs.declared.Limit.{Limit}
use Rattle.interest.specs.Bounds.{sized}
use Rattle.book.specs.declared.row.Owner.{Owner}
use Rattle.book.specs.declared.row.Owner.TheVariants.{Order, Quote}
use Rattle.book.specs.declared.row.Row.{Row}
use Rattle.book.specs.declared.book.Book.{Book}
use Rattle.book.specs.Rows.{held, bounded_limit, sound_row, every, place, following, in_row_order, is_order, owned_by_order, is_quote_of, new_number, distinct_numbers, below_limit, below_offer, bids_below_offers, order_owned, order_count, sound_table}
use Rattle.book.specs.Books.{rows_of}
use Rattle.book.proofs.SoundFacts.{sound-few}
use Rattle.book.specs.Rewrites.{changed_at, less_left, trade_row, route_row, cancel_row, rest_row, SameRow, SameRows}

-- what a sound row holds
pub row-sound : (r : Row) → sound_row r ≡ true → (held r ≡ r.size) × (1 ≤ r.size) × (r.size ≤ 1000000) × (bounded_limit r.limit ≡ true)
row-sound r h =
    let p = and_parts (sized r.size) _ h in
    let q = and_parts (eqb (held r) r.size) _ p.1 in
    let s = and_parts (leb 1 r.size) (leb r.size 1000000) p.0 in
    (eqb-true (held r) r.size q.0, leb-true 1 r.size s.0, leb-true r.size 1000000 s.1, (and_parts (bounded_limit r.limit) _ q.1).0)

pub every-at : (test : Row → Bool) (rows : List Row) (i : ℕ) (d : Row) → every test rows ≡ true → i < length rows → test (get_or rows i d) ≡ true
every-at test [] i d h lt = absurd (omega arith)
every-at test (x ∷ xs) zero d h lt = (and_parts (test x) (every test xs) h).0
every-at test (x ∷ xs) (suc i) d h lt = every-at test xs i d (and_parts (test x) (every test xs) h).1 (omega arith)

pub table-rows : (rows : List Row) → sound_table rows ≡ true → every sound_row rows ≡ true
table-rows rows h = (and_parts (every sound_row rows) _ h).0

pub sound-at : (rows : List Row) (i : ℕ) (d : Row) → sound_table rows ≡ true → i < length rows → sound_row (get_or rows i d) ≡ true
sound-at rows i d h lt = every-at sound_row rows i d (table-rows rows h) lt

-- the changes keep the interest
pub same_self : (r : Row) → SameRow r r
same_self r = record { owner = refl; side = refl; limit = refl; class = refl; size = refl; held = refl }

pub same-trade : (n : ℕ) (r : Row) → SameRow r (trade_row n r)
same-trade n r = record { owner = refl; side = refl; limit = refl; class = refl; size = refl; held = omega arith }

pub same_route : (n : ℕ) (r : Row) → SameRow r (route_row n r)
same_route n r = record { owner = refl; side = refl; limit = refl; class = refl; size = refl; held = omega arith }

pub same-cancel : (r : Row) → SameRow r (cancel_row r)
same-cancel r = record { owner = refl; side = refl; limit = refl; class = refl; size = refl; held = omega arith }

pub same_rest : (w s : ℕ) (r : Row) → SameRow r (rest_row w s r)
same_rest w s r = record { owner = refl; side = refl; limit = refl; class = refl; size = refl; held = refl }

-- contracts taken from those left, and counted as traded or routed
abbrev more_traded : ℕ → Row → Row
more_traded n r = record { owner = r.owner; side = r.side; limit = r.limit; class = r.class; size = r.size; traded = r.traded + n; routed = r.routed; cancelled = r.cancelled; left = r.left; working = r.working; shown = r.shown }

abbrev more_routed : ℕ → Row → Row
more_routed n r = record { owner = r.owner; side = r.side; limit = r.limit; class = r.class; size = r.size; traded = r.traded; routed = r.routed + n; cancelled = r.cancelled; left = r.left; working = r.working; shown = r.shown }

module _ (n taken : ℕ) (row rest : Row) (e : taken ≡ min n row.left) (less : rest ≡ less_left n row) where
  pub traded-is : more_traded taken rest ≡ trade_row n row
  traded-is = ap (more_traded taken) less ∙ ap (λ (t : ℕ). more_traded t (less_left n row)) e

  pub routed-is : more_routed taken rest ≡ route_row n row
  routed-is = ap (more_routed taken) less ∙ ap (λ (t : ℕ). more_routed t (less_left n row)) e

pub rows_same : (rows : List Row) → SameRows rows rows
rows_same [] = tt
rows_same (r ∷ rows) = (same_self r, rows_same rows)

pub changed-same : (at : ℕ) (f : Row → Row) (rows : List Row) → ((r : Row) → SameRow r (f r)) → SameRows rows (changed_at at f rows)
changed-same at f [] keeps = tt
changed-same zero f (r ∷ rows) keeps = (keeps r, rows_same rows)
changed-same (suc at) f (r ∷ rows) keeps = (same_self r, changed-same at f rows keeps)

-- what is said of the interest alone is said of both tables
every-same : (test test₂ : Row → Bool) → ((r s : Row) → SameRow r s → test₂ s ≡ test r) → (xs ys : List Row) → SameRows xs ys → every test₂ ys ≡ every test xs
every-same test test₂ e [] [] h = refl
every-same test test₂ e [] (y ∷ ys) h = absurd h
every-same test test₂ e (x ∷ xs) [] h = absurd h
every-same test test₂ e (x ∷ xs) (y ∷ ys) h = cc (e x y h.0, every-same test test₂ e xs ys h.1)

sound-same : (r s : Row) → SameRow r s → sound_row s ≡ sound_row r
sound-same r s h = cc

order_same : (from : ℕ) (xs ys : List Row) → SameRows xs ys → in_row_order from ys ≡ in_row_order from xs
order_same from [] [] h = refl
order_same from [] (y ∷ ys) h = absurd h
order_same from (x ∷ xs) [] h = absurd h
order_same from (x ∷ xs) (y ∷ ys) h =
    let p : place y ≡ place x = cc (h.0.owner, h.0.side) in
    let ih = order_same (following (place x)) xs ys h.1 in
    ap (λ (n : ℕ). leb from n && in_row_order (following n) ys) p ∙ ap (λ (b : Bool). leb from (place x) && b) ih

new-same : (o : Owner) (xs ys : List Row) → SameRows xs ys → new_number o ys ≡ new_number o xs
new-same (Order n) xs ys h = every-same (λ r. not (is_order n r)) (λ r. not (is_order n r)) (λ r s k. ap (λ (o : Owner). not (owned_by_order n o)) k.owner) xs ys h
new-same (Quote m) xs ys h = refl

distinct-same : (xs ys : List Row) → SameRows xs ys → distinct_numbers ys ≡ distinct_numbers xs
distinct-same [] [] h = refl
distinct-same [] (y ∷ ys) h = absurd h
distinct-same (x ∷ xs) [] h = absurd h
distinct-same (x ∷ xs) (y ∷ ys) h =
    ap (λ (o : Owner). new_number o ys && distinct_numbers ys) h.0.owner
    ∙ ap (λ (b : Bool). b && distinct_numbers ys) (new-same x.owner xs ys h.1)
    ∙ ap (λ (b : Bool). new_number x.owner xs && b) (distinct-same xs ys h.1)

offer-same : (o : Owner) (l : Limit) (xs ys : List Row) → SameRows xs ys → below_offer o l ys ≡ below_offer o l xs
offer-same (Order n) l xs ys h = refl
offer-same (Quote m) l xs ys h = every-same (λ r. not (is_quote_of m r) || below_limit l r.limit) (λ r. not (is_quote_of m r) || below_limit l r.limit) (λ r s k. cc (k.owner, k.limit)) xs ys h

bids-same : (xs ys : List Row) → SameRows xs ys → bids_below_offers ys ≡ bids_below_offers xs
bids-same [] [] h = refl
bids-same [] (y ∷ ys) h = absurd h
bids-same (x ∷ xs) [] h = absurd h
bids-same (x ∷ xs) (y ∷ ys) h =
    ap (λ (o : Owner). below_offer o y.limit ys && bids_below_offers ys) h.0.owner
    ∙ ap (λ (l : Limit). below_offer x.owner l ys && bids_below_offers ys) h.0.limit
    ∙ ap (λ (b : Bool). b && bids_below_offers ys) (offer-same x.owner x.limit xs ys h.1)
    ∙ ap (λ (b : Bool). below_offer x.owner x.limit xs && b) (bids-same xs ys h.1)

count_same : (xs ys : List Row) → SameRows xs ys → order_count ys ≡ order_count xs
count_same [] [] h = refl
count_same [] (y ∷ ys) h = absurd h
count_same (x ∷ xs) [] h = absurd h
count_same (x ∷ xs) (y ∷ ys) h =
    let c : Row → ℕ = λ r. cond (order_owned r.owner) 1 0 in
    let e : c y ≡ c x = ap (λ (o : Owner). cond (order_owned o) 1 0) h.0.owner in
    omega (arith, sum_by-cons c x xs, sum_by-cons c y ys, e, count_same xs ys h.1)

pub table_same : (xs ys : List Row) → SameRows xs ys → sound_table ys ≡ sound_table xs
table_same xs ys h = cc (every-same sound_row sound_row sound-same xs ys h, order_same 0 xs ys h, distinct-same xs ys h, bids-same xs ys h, count_same xs ys h)

-- one place of the table written
pub changed-is : (at : ℕ) (f : Row → Row) (rows : List Row) (d : Row) → at < length rows → changed_at at f rows ≡ set rows at (f (get_or rows at d))
changed-is at f [] d lt = absurd (omega arith)
changed-is zero f (r ∷ rows) d lt = refl
changed-is (suc at) f (r ∷ rows) d lt = ap (λ (xs : List Row). r ∷ xs) (changed-is at f rows d (omega arith))

pub changed-past : (at : ℕ) (f : Row → Row) (rows : List Row) → length rows ≤ at → changed_at at f rows ≡ rows
changed-past at f [] le = refl
changed-past zero f (r ∷ rows) le = absurd (omega arith)
changed-past (suc at) f (r ∷ rows) le = ap (λ (xs : List Row). r ∷ xs) (changed-past at f rows (omega arith))

-- a row written where it stands
module _ (at : ℕ) (f : Row → Row) (rows : List Row) (row v : Row) (lt : at < length rows) (stood : row ≡ get_or rows at row) (is : v ≡ f row) where
  pub written : set rows at v ≡ changed_at at f rows
  written = ap (set rows at) (is ∙ ap f stood) ∙ sym (changed-is at f rows row lt)

  pub written-sound : ((r : Row) → SameRow r (f r)) → sound_table rows ≡ true → sound_table (set rows at v) ≡ true
  written-sound keeps h = ap sound_table written ∙ table_same rows (changed_at at f rows) (changed-same at f rows keeps) ∙ h

-- no row stands there
pub past-standing : (at : ℕ) (f : Row → Row) (rows : List Row) → (at < length rows → false ≡ true) → rows ≡ changed_at at f rows
past-standing at f rows none =
    let no : at < length rows → ⊥ = λ lt. false≢true (none lt) in
    sym (changed-past at f rows (omega arith))

-- one row changed in its place: the rows before it, and what is left of the rows after it
pub changed-length : (at : ℕ) (f : Row → Row) (rows : List Row) → length (changed_at at f rows) ≡ length rows
changed-length at f [] = refl
changed-length zero f (r ∷ rows) = refl
changed-length (suc at) f (r ∷ rows) = ap suc (changed-length at f rows)

pub changed-step : (G : List Row → List Row) (at : ℕ) (f : Row → Row) (rows : List Row) (d : Row) → at < length rows
    → take (at + 1) (changed_at at f rows) ++ G (drop (at + 1) (changed_at at f rows)) ≡ take at rows ++ (f (get_or rows at d) ∷ G (drop (at + 1) rows))
changed-step G at f rows d lt =
    let v = f (get_or rows at d) in
    let is = changed-is at f rows d lt in
    let front : take (at + 1) (set rows at v) ≡ take at rows ++ v ∷ [] = take_more_set rows at v lt in
    let rest : drop (at + 1) (set rows at v) ≡ drop (at + 1) rows = drop-set-lt (at + 1) rows at v (omega arith) in
    ap (λ (xs : List Row). take (at + 1) xs ++ G (drop (at + 1) xs)) is
    ∙ ap (λ (xs : List Row). xs ++ G (drop (at + 1) (set rows at v))) front
    ∙ ap (λ (xs : List Row). (take at rows ++ v ∷ []) ++ G xs) rest
    ∙ append_assoc (take at rows) (v ∷ []) (G (drop (at + 1) rows))

pub drop-changed : (at : ℕ) (f : Row → Row) (rows : List Row) → drop (at + 1) (changed_at at f rows) ≡ drop (at + 1) rows
drop-changed at f rows = let e : at + 1 ≡ suc at = omega arith in ap (λ (n : ℕ). drop n (changed_at at f rows)) e ∙ past at rows ∙ ap (λ (n : ℕ). drop n rows) (sym e)
  where
    past : (at : ℕ) (rows : List Row) → drop (suc at) (changed_at at f rows) ≡ drop (suc at) rows
    past at [] = refl
    past zero (r ∷ rows) = refl
    past (suc at) (r ∷ rows) = past at rows

-- a row passed over
pub passed-step : (G : List Row → List Row) (at : ℕ) (rows : List Row) (d : Row) → at < length rows
    → take (at + 1) rows ++ G (drop (at + 1) rows) ≡ take at rows ++ (get_or rows at d ∷ G (drop (at + 1) rows))
passed-step G at rows d lt =
    ap (λ (xs : List Row). xs ++ G (drop (at + 1) rows)) (take_more rows at d lt) ∙ append_assoc (take at rows) (get_or rows at d ∷ []) (G (drop (at + 1) rows))

-- the end of a pass
pub pass-end : (G : List Row → List Row) (at : ℕ) (rows : List Row) → G [] ≡ [] → length rows ≤ at → take at rows ++ G (drop at rows) ≡ rows
pass-end G at rows none le =
    ap (λ (xs : List Row). xs ++ G (drop at rows)) (take_all at rows le) ∙ ap (λ (xs : List Row). rows ++ G xs) (drop_all at rows le) ∙ ap (λ (xs : List Row). rows ++ xs) none ∙ append-nil rows

-- a pass that changes each row by itself
pub map-step : (f change : Row → Row) (at : ℕ) (rows : List Row) (d : Row) → at < length rows → change (get_or rows at d) ≡ f (get_or rows at d)
    → take (at + 1) (changed_at at change rows) ++ map f (drop (at + 1) (changed_at at change rows)) ≡ take at rows ++ map f (drop at rows)
map-step f change at rows d lt e =
    changed-step (map f) at change rows d lt
    ∙ ap (λ (r : Row). take at rows ++ (r ∷ map f (drop (at + 1) rows))) e
    ∙ ap (λ (xs : List Row). take at rows ++ xs) (sym (at_drop_more (map f) rows at d lt))

pub map-passed : (f : Row → Row) (at : ℕ) (rows : List Row) (d : Row) → at < length rows → get_or rows at d ≡ f (get_or rows at d)
    → take (at + 1) rows ++ map f (drop (at + 1) rows) ≡ take at rows ++ map f (drop at rows)
map-passed f at rows d lt e =
    passed-step (map f) at rows d lt
    ∙ ap (λ (r : Row). take at rows ++ (r ∷ map f (drop (at + 1) rows))) e
    ∙ ap (λ (xs : List Row). take at rows ++ xs) (sym (at_drop_more (map f) rows at d lt))

-- a book has at most 128 rows
pub rows_few : (b : Book) → length (rows_of b) ≤ 128
rows_few b = sound-few (rows_of b) b.sound

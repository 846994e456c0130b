-- Lemmas on rows put in and taken out: the edits keep a table sound, and what follows for readings and sums.
use Rattle.std.proofs.Common.{◌≡◌, ℕ, zero, suc, ◌+◌, ◌-◌, ◌*◌, ◌<◌, ◌≤◌, Bool, true, false, cond, not, ◌&&◌, ◌||◌, eqb, ltb, leb, List, [], ◌∷◌, ◌++◌, Some, None, Ok, sum_by, filter, Option, sym, refl, ap, ◌∙◌, subst, inl, inr, arith}
use Rattle.std.specs.Option.{option_map}
use Rattle.std.specs.List.{AllByRecursion}
use Rattle.std.proofs.lemmas.Bool.{and_parts, and_from, or_left, or_right, cond-true, cond-false, cond_both, leb-true, leb-false, le-leb, lt-leb, lt-ltb, le-ltb, ltb-true, eqb-true, eqb-false, eq-eqb, ne_eqb, both_ways, cases_Bool, not-true, not-false, not_from_true, not_from_false, true≢false, false≢true}
use Rattle.std.proofs.lemmas.Bool.Decides.{nat_tests}
use Rattle.std.proofs.lemmas.List.{append_assoc, append-nil}
use Rattle.std.proofs.lemmas.List.Elements.{filter-append}
use Rattle.std.proofs.ByRecursion.{All-append, All-weaker, all_kept_by, kept_by_passes}
use Rattle.std.proofs.lemmas.List.Sums.{sum_by-cons, sum_by-append}
use Rattle.interest.specs.declared.Side.{Side}
use Rattle.interest.specs.declared.Side.TheVariants.{Buy, Sell}
use Rattle.interest.specs.declared.Limit.{Limit}
use Rattle.interest.specs.declared.Refusal.{Refusal}
use Rattle.interest.specs.Bounds.{sized, priced, maker_numbered}
use Rattle.interest.specs.Sides.{same_side}
use Rattle.book.specs.declared.row.Owner.{Owner}
use Rattle.book.specs.declared.row.Owner.TheVariants as owner
use Rattle.book.specs.declared.row.Row.{Row}
use Rattle.book.specs.declared.row.Order.{Order}
use Rattle.book.specs.declared.row.Quote.{Quote}
use Rattle.book.specs.Rows.{bounded_limit, sound_row, sound_table, every, place, place_by, quote_place, following, owned_by_order, is_order, owned_by_maker, is_quote_of, order_owned, order_count}
use Rattle.book.specs.Ranks.{of_side, total_of, contracts}
use Rattle.book.specs.Reads.{is_quote_side, first, stands, reading_of}
use Rattle.book.specs.Edits.{of_order, owned_before, owned_after, before_maker, after_maker, order_row, quote_row, bid_row, offer_row, quote_rows, placed, added, without_quote, quoted, answered, add_cause, sized_quote, priced_quote, quote_cause, left_in}
use Rattle.book.specs.Effects.{OthersStay, untouched, accepted_in}
use Rattle.book.proofs.SoundFacts.{Pairs, Fits, Beside, up_to, others, differs, under, sound-opened, sound-placed, split-place, sum_kept, orders-first, every-all, kept-all, kept-none}
use Rattle.book.proofs.ReadFacts.{first-none, first-later, first-kept, none-stands, sum_same}

-- filters

pub kept_same : (s t : Row → Bool) (rows : List Row) → AllByRecursion (λ r. s r ≡ t r) rows → filter s rows ≡ filter t rows
kept_same s t [] h = refl
kept_same s t (r ∷ rs) h =
    ap (λ (b : Bool). cond b (r ∷ filter s rs) (filter s rs)) h.0 ∙ ap (λ (ys : List Row). cond (t r) (r ∷ ys) ys) (kept_same s t rs h.1)

-- a filter after a weaker one
pub kept-sub : (s t : Row → Bool) → ((r : Row) → s r ≡ true → t r ≡ true) → (rows : List Row) → filter s (filter t rows) ≡ filter s rows
kept-sub s t sub [] = refl
kept-sub s t sub (r ∷ rs) =
    let rest = filter t rs in
    let by : Bool → List Row = λ b. filter s (cond b (r ∷ rest) rest) in
    elim (cases_Bool (s r)) [
      | inl e ↦ ap by (sub r e) ∙ ap (λ (ys : List Row). cond (s r) (r ∷ ys) ys) (kept-sub s t sub rs)
      | inr e ↦
          cond_both (t r) (r ∷ rest) rest (λ (xs : List Row). filter s xs ≡ filter s rest) (λ _. cond-false (s r) (r ∷ filter s rest) (filter s rest) e) (λ _. refl)
          ∙ kept-sub s t sub rs ∙ sym (cond-false (s r) (r ∷ filter s rs) (filter s rs) e)
    ]

kept-twice : (s : Row → Bool) (rows : List Row) → filter s (filter s rows) ≡ filter s rows
kept-twice s rows = kept-sub s s (λ r e. e) rows

kept-apart : (s t : Row → Bool) → ((r : Row) → t r ≡ true → s r ≡ false) → (rows : List Row) → filter s (filter t rows) ≡ []
kept-apart s t apart rows = kept-none s (filter t rows) (All-weaker (λ r. t r ≡ true) (λ r. s r ≡ false) apart (filter t rows) (kept_by_passes t rows))

-- a row put in its place: what else there is stays, and sums have its part more

pub placed-kept : (keep : Row → Bool) (row : Row) (rows : List Row) → sound_table rows ≡ true → keep row ≡ false → filter keep (placed row rows) ≡ filter keep rows
placed-kept keep row rows h e =
    let lows = filter (up_to row) rows in
    let highs = filter (others (up_to row)) rows in
    filter-append keep lows (row ∷ highs)
    ∙ ap (λ (ys : List Row). filter keep lows ++ ys) (cond-false (keep row) (row ∷ filter keep highs) (filter keep highs) e)
    ∙ sym (filter-append keep lows highs) ∙ ap (filter keep) (split-place row rows h)

pub placed_first : (test : Row → Bool) (row : Row) (rows : List Row) → AllByRecursion (λ r. test r ≡ false) rows → test row ≡ true → first test (placed row rows) ≡ Some row
placed_first test row rows h e =
    let highs = filter (others (up_to row)) rows in
    first-later test (filter (up_to row) rows) (row ∷ highs) (all_kept_by (up_to row) (λ r. test r ≡ false) rows h)
    ∙ cond-true (test row) (Some row) (first test highs) e

pub placed-sum : (part : Row → ℕ) (test : Row → Bool) (row : Row) (rows : List Row) → total_of part test (placed row rows) ≡ total_of part test rows + cond (test row) (part row) 0
placed-sum part test row rows =
    let f : Row → ℕ = λ r. cond (test r) (part r) 0 in
    let lows = filter (up_to row) rows in
    let highs = filter (others (up_to row)) rows in
    omega (arith, sum_by-append f lows (row ∷ highs), sum_by-cons f row highs, sum_kept f (up_to row) rows)

pub all_placed : (P : Row → Type 0) (row : Row) (rows : List Row) → AllByRecursion P rows → P row → AllByRecursion P (placed row rows)
all_placed P row rows h k = All-append P (filter (up_to row) rows) (row ∷ filter (others (up_to row)) rows) (all_kept_by (up_to row) P rows h) (k, all_kept_by (others (up_to row)) P rows h)

-- rows taken out

pub taken-sum : (part : Row → ℕ) (test mine : Row → Bool) (rows : List Row) → total_of part test rows ≡ total_of part test (filter (λ r. not (mine r)) rows) + total_of part (λ r. mine r && test r) rows
taken-sum part test mine [] = refl
taken-sum part test mine (r ∷ rs) =
    let f : Row → ℕ = λ x. cond (test x) (part x) 0 in
    let g : Row → ℕ = λ x. cond (mine x && test x) (part x) 0 in
    let rest = filter (λ x. not (mine x)) rs in
    let ih = taken-sum part test mine rs in
    elim (cases_Bool (mine r)) [
      | inl e ↦
          let a : filter (λ x. not (mine x)) (r ∷ rs) ≡ rest = ap (λ (b : Bool). cond (not b) (r ∷ rest) rest) e in
          let b : g r ≡ f r = ap (λ (t : Bool). cond (t && test r) (part r) 0) e in
          omega (arith, sum_by-cons f r rs, sum_by-cons g r rs, ap (sum_by f) a, b, ih)
      | inr e ↦
          let a : filter (λ x. not (mine x)) (r ∷ rs) ≡ r ∷ rest = ap (λ (b : Bool). cond (not b) (r ∷ rest) rest) e in
          let b : g r ≡ 0 = ap (λ (t : Bool). cond (t && test r) (part r) 0) e in
          omega (arith, sum_by-cons f r rs, sum_by-cons g r rs, ap (sum_by f) a, sum_by-cons f r rest, b, ih)
    ]

pub taken-gone : (test mine : Row → Bool) → ((r : Row) → test r ≡ true → mine r ≡ true) → (rows : List Row) → first test (filter (λ r. not (mine r)) rows) ≡ None
taken-gone test mine sub rows =
    first-none test (filter (λ r. not (mine r)) rows)
    (All-weaker (λ r. not (mine r) ≡ true) (λ r. test r ≡ false) (λ r e. elim (cases_Bool (test r)) [ inl t ↦ absurd (both_ways (mine r) (not-true (mine r) e) (sub r t)) | inr f ↦ f ]) (filter (λ r. not (mine r)) rows) (kept_by_passes (λ r. not (mine r)) rows))

-- readings of other owners

abbrev same_owner : Owner → Owner → Bool
same_owner (owner.Order n) w = owned_by_order n w
same_owner (owner.Quote m) w = owned_by_maker m w

abbrev pub owned_by : Owner → Row → Bool
owned_by o r = same_owner o r.owner

order_other : (n : ℕ) (o w : Owner) → (owner.Order n ≡ o → ⊥) → owned_by_order n w ≡ true → not (same_owner o w) ≡ true
order_other n (owner.Order k) (owner.Order j) ne e = not_from_false (eqb j k) (ne_eqb j k (λ f. ne (ap (λ (i : ℕ). owner.Order i) (sym (eqb-true j n e) ∙ f))))
order_other n (owner.Order k) (owner.Quote m) ne e = refl
order_other n (owner.Quote m) (owner.Order j) ne e = refl
order_other n (owner.Quote m) (owner.Quote j) ne e = absurd (false≢true e)

maker-other : (m : ℕ) (o w : Owner) → (owner.Quote m ≡ o → ⊥) → owned_by_maker m w ≡ true → not (same_owner o w) ≡ true
maker-other m (owner.Quote k) (owner.Quote j) ne e = not_from_false (eqb j k) (ne_eqb j k (λ f. ne (ap (λ (i : ℕ). owner.Quote i) (sym (eqb-true j m e) ∙ f))))
maker-other m (owner.Quote k) (owner.Order n) ne e = refl
maker-other m (owner.Order n) (owner.Quote j) ne e = refl
maker-other m (owner.Order n) (owner.Order j) ne e = absurd (false≢true e)

pub others-stay : (mine : Owner) (before after : List Row) → filter (λ r. not (owned_by mine r)) after ≡ filter (λ r. not (owned_by mine r)) before → OthersStay mine before after
others-stay mine before after e =
    let keep : Row → Bool = λ r. not (owned_by mine r) in
    let same : (test : Row → Bool) → ((r : Row) → test r ≡ true → keep r ≡ true) → first test after ≡ first test before = λ test sub. sym (first-kept test keep sub after) ∙ ap (first test) e ∙ first-kept test keep sub before in
    record {
      orders = λ n ne. ap (option_map reading_of) (same (is_order n) (λ r t. order_other n mine r.owner ne t));
      quotes = λ m side ne. ap (option_map reading_of) (same (is_quote_side m side) (λ r t. maker-other m mine r.owner ne (and_parts (is_quote_of m r) (of_side side r) t).0));
    }

-- one row passes: the sum is that row's part

abbrev part_of : (Row → ℕ) → Option Row → ℕ
part_of part None = 0
part_of part (Some r) = part r

total-none : (part : Row → ℕ) (test : Row → Bool) (rows : List Row) → AllByRecursion (λ r. test r ≡ false) rows → total_of part test rows ≡ 0
total-none part test [] h = refl
total-none part test (r ∷ rs) h = omega (arith, sum_by-cons (λ (x : Row). cond (test x) (part x) 0) r rs, cond-false (test r) (part r) 0 h.0, total-none part test rs h.1)

abbrev Once : (Row → Bool) → Row → Row → Type 0
Once test r s = test r ≡ true → test s ≡ false

pairs-weaker : (R S : Row → Row → Type 0) → ((r s : Row) → R r s → S r s) → (rows : List Row) → Pairs R rows → Pairs S rows
pairs-weaker R S to [] p = tt
pairs-weaker R S to (r ∷ rs) p = (All-weaker (R r) (S r) (to r) rs p.0, pairs-weaker R S to rs p.1)

total_first : (part : Row → ℕ) (test : Row → Bool) (rows : List Row) → Pairs (Once test) rows → total_of part test rows ≡ part_of part (first test rows)
total_first part test [] p = refl
total_first part test (r ∷ rs) p =
    let sum = sum_by-cons (λ (x : Row). cond (test x) (part x) 0) r rs in
    elim (cases_Bool (test r)) [
      | inl e ↦
          let none : AllByRecursion (λ s. test s ≡ false) rs = All-weaker (Once test r) (λ s. test s ≡ false) (λ s o. o e) rs p.0 in
          omega (arith, sum, cond-true (test r) (part r) 0 e, total-none part test rs none, ap (part_of part) (cond-true (test r) (Some r) (first test rs) e))
      | inr e ↦ omega (arith, sum, cond-false (test r) (part r) 0 e, total_first part test rs p.1, ap (part_of part) (cond-false (test r) (Some r) (first test rs) e))
    ]

order-once : (n : ℕ) (w : Owner) (s : Row) → differs w s ≡ true → owned_by_order n w ≡ true → is_order n s ≡ false
order-once n (owner.Order k) s d e = ap (λ (i : ℕ). is_order i s) (sym (eqb-true k n e)) ∙ not-true (is_order k s) d
order-once n (owner.Quote m) s d e = absurd (false≢true e)

side-place : (m : ℕ) (w : Owner) (a b : Side) → (owned_by_maker m w && same_side a b) ≡ true → place_by w a ≡ quote_place m b
side-place m (owner.Order n) a b e = absurd (false≢true e)
side-place m (owner.Quote k) Buy Buy e = ap (λ (i : ℕ). 2 * i - 1) (eqb-true k m (and_parts (eqb k m) true e).0)
side-place m (owner.Quote k) Sell Sell e = ap (λ (i : ℕ). 2 * i) (eqb-true k m (and_parts (eqb k m) true e).0)
side-place m (owner.Quote k) Buy Sell e = absurd (false≢true (and_parts (eqb k m) false e).1)
side-place m (owner.Quote k) Sell Buy e = absurd (false≢true (and_parts (eqb k m) false e).1)

follows-past : (p : ℕ) → 1 ≤ p → following p ≤ p → ⊥
follows-past zero low h = omega arith
follows-past (suc n) low h = omega arith

low-place : (m : ℕ) (side : Side) → 1 ≤ m → 1 ≤ quote_place m side
low-place m Buy h = omega arith
low-place m Sell h = omega arith

side-once : (m : ℕ) (side : Side) → 1 ≤ m → (r s : Row) → Fits r s → Once (is_quote_side m side) r s
side-once m side low r s f = λ e. elim (cases_Bool (is_quote_side m side s)) [
  | inl t ↦
      let a : place r ≡ quote_place m side = side-place m r.owner r.side side e in
      let b : place s ≡ quote_place m side = side-place m s.owner s.side side t in
      let past : following (quote_place m side) ≤ quote_place m side = subst (λ (p : ℕ). following p ≤ quote_place m side) a (subst (λ (p : ℕ). following (place r) ≤ p) b f.order) in
      absurd (follows-past (quote_place m side) (low-place m side low) past)
  | inr k ↦ k
]

pub order-part : (part : Row → ℕ) (n : ℕ) (rows : List Row) → sound_table rows ≡ true → total_of part (is_order n) rows ≡ part_of part (first (is_order n) rows)
order-part part n rows h = total_first part (is_order n) rows (pairs-weaker Fits (Once (is_order n)) (λ r s f e. order-once n r.owner s f.number e) rows (sound-opened rows h).pairs)

pub side-part : (part : Row → ℕ) (m : ℕ) (side : Side) (rows : List Row) → 1 ≤ m → sound_table rows ≡ true → total_of part (is_quote_side m side) rows ≡ part_of part (first (is_quote_side m side) rows)
side-part part m side rows low h = total_first part (is_quote_side m side) rows (pairs-weaker Fits (Once (is_quote_side m side)) (side-once m side low) rows (sound-opened rows h).pairs)

pub left_is : (o : Option Row) → part_of (λ (r : Row). r.left) o ≡ left_in o
left_is None = refl
left_is (Some r) = refl

pub untouched-sum : (test : Row → Bool) (rows : List Row) → every untouched rows ≡ true → accepted_in test rows ≡ contracts test rows
untouched-sum test rows h =
    sum_same (λ (r : Row). cond (test r) r.size 0) (λ (r : Row). cond (test r) r.left 0) rows
    (All-weaker (λ (r : Row). untouched r ≡ true) (λ (r : Row). cond (test r) r.size 0 ≡ cond (test r) r.left 0) (λ r e. ap (λ (n : ℕ). cond (test r) n 0) (sym (eqb-true r.left r.size e))) rows (every-all untouched rows h))

-- causes to refuse

pub past-cause : (b : Bool) (cause : Refusal) (rest : Option Refusal) → cond b (Some cause) rest ≡ None → (b ≡ false) × (rest ≡ None)
past-cause true cause rest h = let z : ◌≡◌ {A = ℕ} 0 1 = cc in absurd (omega arith)
past-cause false cause rest h = (refl, h)

pub no-cause : (cause : Option Refusal) (x : Unit {0}) → Ok x ≡ answered cause tt → cause ≡ None
no-cause None x h = refl
no-cause (Some refusal) x h = cc

-- a new order

pub record GoodOrder (order : Order) (rows : List Row) : Type 0 where
  pub sound : sound_row (order_row order) ≡ true
  pub fresh : AllByRecursion (λ r. is_order order.number r ≡ false) rows
  pub room : order_count rows < 96

pub good-order : (order : Order) (rows : List Row) → add_cause order rows ≡ None → GoodOrder order rows
good-order o rows h =
    let a = past-cause (eqb o.number 0) _ _ h in
    let b = past-cause (not (sized o.size)) _ _ a.1 in
    let c = past-cause (not (bounded_limit o.limit)) _ _ b.1 in
    let d = past-cause (stands (is_order o.number) rows) _ _ c.1 in
    let e = past-cause (leb 96 (order_count rows)) _ None d.1 in
    let nonzero = eqb-false o.number 0 a.0 in
    record {
      sound =
          and_from (sized o.size) _ (not-false (sized o.size) b.0)
          (and_from (eqb (0 + 0 + 0 + o.size) o.size) _ (eq-eqb (0 + 0 + 0 + o.size) o.size (omega arith))
          (and_from (bounded_limit o.limit) (leb 1 o.number) (not-false (bounded_limit o.limit) c.0) (le-leb 1 o.number (omega arith))));
      fresh = none-stands (is_order o.number) rows d.0;
      room = leb-false 96 (order_count rows) e.0;
    }

following-none : (p : ℕ) → p ≤ 0 → following p ≤ 0
following-none zero h = omega arith
following-none (suc n) h = absurd (omega arith)

order-differs : (order : Order) (w : Owner) → owned_by_order order.number w ≡ false → differs w (order_row order) ≡ true
order-differs o (owner.Order k) e = not_from_false (eqb o.number k) (ne_eqb o.number k (λ f. eqb-false k o.number e (sym f)))
order-differs o (owner.Quote m) e = refl

order-under : (order : Order) (w : Owner) (l : Limit) → under w l (order_row order) ≡ true
order-under o (owner.Order k) l = refl
order-under o (owner.Quote m) l = refl

order-beside : (order : Order) (r : Row) → is_order order.number r ≡ false → Beside (order_row order) r
order-beside o r e = (
  λ up. record { order = following-none (place r) (leb-true (place r) 0 up); number = order-differs o r.owner e; below = order-under o r.owner r.limit },
  λ past. record { order = omega arith; number = not_from_false (is_order o.number r) e; below = refl },
)

pub placed-added : (order : Order) (rows : List Row) → sound_table rows ≡ true → placed (order_row order) rows ≡ added order rows
placed-added o rows h =
    let first_rows = orders-first rows (sound-opened rows h).each in
    let low : filter (λ r. leb (place r) 0) rows ≡ filter of_order rows = sym (kept_same of_order (λ r. leb (place r) 0) rows first_rows) in
    let high : filter (λ r. not (leb (place r) 0)) rows ≡ filter (λ r. not (of_order r)) rows = sym (kept_same (λ r. not (of_order r)) (λ r. not (leb (place r) 0)) rows (All-weaker (λ r. of_order r ≡ leb (place r) 0) (λ r. not (of_order r) ≡ not (leb (place r) 0)) (λ r e. ap not e) rows first_rows)) in
    ap (λ (ys : List Row). ys ++ order_row o ∷ filter (λ r. not (leb (place r) 0)) rows) low ∙ ap (λ (ys : List Row). filter of_order rows ++ order_row o ∷ ys) high

pub sound-added : (order : Order) (rows : List Row) → sound_table rows ≡ true → add_cause order rows ≡ None → sound_table (placed (order_row order) rows) ≡ true
sound-added o rows h cause =
    let g = good-order o rows cause in
    sound-placed (order_row o) rows h g.sound (omega (arith, g.room)) (All-weaker (λ r. is_order o.number r ≡ false) (Beside (order_row o)) (order-beside o) rows g.fresh)

-- a new quote

pub record GoodQuote (m : ℕ) (quote : Quote) : Type 0 where
  pub low : 1 ≤ m
  pub offer : sound_row (offer_row m quote) ≡ true
  pub bid : eqb quote.bid 0 ≡ false → sound_row (bid_row m quote) ≡ true
  pub below : quote.bid < quote.offer

quote-sound : (m : ℕ) (side : Side) (price size : ℕ) → maker_numbered m ≡ true → sized size ≡ true → priced price ≡ true → sound_row (quote_row m side price size) ≡ true
quote-sound m side price size a b c =
    and_from (sized size) _ b
    (and_from (eqb (0 + 0 + 0 + size) size) _ (eq-eqb (0 + 0 + 0 + size) size (omega arith))
    (and_from (priced price) _ c (and_from (maker_numbered m) true a refl)))

or-known : (a b : Bool) → a ≡ false → (a || b) ≡ true → b ≡ true
or-known true b e h = absurd (true≢false e)
or-known false b e h = h

pub good-quote : (m : ℕ) (quote : Quote) → quote_cause m quote ≡ None → GoodQuote m quote
good-quote m q h =
    let a = past-cause (not (maker_numbered m)) _ _ h in
    let b = past-cause (not (sized_quote q)) _ _ a.1 in
    let c = past-cause (not (priced_quote q)) _ _ b.1 in
    let d = past-cause (leb q.offer q.bid) _ None c.1 in
    let maker = not-false (maker_numbered m) a.0 in
    let sizes = and_parts (cond (eqb q.bid 0) (eqb q.bid_size 0) (sized q.bid_size)) (sized q.offer_size) (not-false (sized_quote q) b.0) in
    let prices = and_parts (eqb q.bid 0 || priced q.bid) (priced q.offer) (not-false (priced_quote q) c.0) in
    record {
      low = leb-true 1 m (and_parts (leb 1 m) (leb m 16) maker).0;
      offer = quote-sound m Sell q.offer q.offer_size maker sizes.1 prices.1;
      bid = λ e. quote-sound m Buy q.bid q.bid_size maker (sym (cond-false (eqb q.bid 0) (eqb q.bid_size 0) (sized q.bid_size) e) ∙ sizes.0) (or-known (eqb q.bid 0) (priced q.bid) e prices.0);
      below = leb-false q.offer q.bid d.0;
    }

follows-lt : (p q : ℕ) → p < q → following p ≤ q
follows-lt zero q h = omega arith
follows-lt (suc n) q h = omega arith

-- a row of another owner at or before a maker's place stands before it
apart_from : (m : ℕ) (side : Side) (w : Owner) (a : Side) → 1 ≤ m → owned_by_maker m w ≡ false → place_by w a ≤ quote_place m side → following (place_by w a) ≤ quote_place m side
apart_from m side (owner.Order n) a low e h = omega arith
apart_from m Buy (owner.Quote k) Buy low e h = let ne = eqb-false k m e in follows-lt (2 * k - 1) (2 * m - 1) (grind arith)
apart_from m Buy (owner.Quote k) Sell low e h = let ne = eqb-false k m e in follows-lt (2 * k) (2 * m - 1) (grind arith)
apart_from m Sell (owner.Quote k) Buy low e h = let ne = eqb-false k m e in follows-lt (2 * k - 1) (2 * m) (grind arith)
apart_from m Sell (owner.Quote k) Sell low e h = let ne = eqb-false k m e in follows-lt (2 * k) (2 * m) (grind arith)

quote-differs : (m : ℕ) (side : Side) (price size : ℕ) (w : Owner) → differs w (quote_row m side price size) ≡ true
quote-differs m side price size (owner.Order n) = refl
quote-differs m side price size (owner.Quote k) = refl

quote-under : (m : ℕ) (side : Side) (price size : ℕ) (w : Owner) (l : Limit) → owned_by_maker m w ≡ false → under w l (quote_row m side price size) ≡ true
quote-under m side price size (owner.Order n) l e = refl
quote-under m side price size (owner.Quote k) l e = or_left (not (eqb m k)) _ (not_from_false (eqb m k) (ne_eqb m k (λ f. eqb-false k m e (sym f))))

quote-beside : (m : ℕ) (side : Side) (price size : ℕ) → 1 ≤ m → (r : Row) → is_quote_of m r ≡ false → Beside (quote_row m side price size) r
quote-beside m side price size low r e = (
  λ up. record { order = apart_from m side r.owner r.side low e (leb-true (place r) (quote_place m side) up); number = quote-differs m side price size r.owner; below = quote-under m side price size r.owner r.limit e },
  λ past. record { order = follows-lt (quote_place m side) (place r) (leb-false (place r) (quote_place m side) past); number = refl; below = or_left (not (is_quote_of m r)) _ (not_from_false (is_quote_of m r) e) },
)

bid-beside : (m : ℕ) (quote : Quote) → 1 ≤ m → quote.bid < quote.offer → Beside (offer_row m quote) (bid_row m quote)
bid-beside m q low lt = (
  λ up. record { order = follows-lt (2 * m - 1) (2 * m) (omega arith); number = refl; below = or_right (not (eqb m m)) (ltb q.bid q.offer) (lt-ltb q.bid q.offer lt) },
  λ past. absurd (omega (arith, leb-false (2 * m - 1) (2 * m) past)),
)

module _ (m : ℕ) (quote : Quote) (rows : List Row) (h : sound_table rows ≡ true) (good : GoodQuote m quote) (none : AllByRecursion (λ r. is_quote_of m r ≡ false) rows) where
  few-rows : order_count rows ≤ 96
  few-rows = (sound-opened rows h).few

  beside-all : (side : Side) (price size : ℕ) → AllByRecursion (Beside (quote_row m side price size)) rows
  beside-all side price size = All-weaker (λ r. is_quote_of m r ≡ false) (Beside (quote_row m side price size)) (quote-beside m side price size good.low) rows none

  pub sound-bid : eqb quote.bid 0 ≡ false → sound_table (placed (bid_row m quote) rows) ≡ true
  sound-bid e = sound-placed (bid_row m quote) rows h (good.bid e) (omega (arith, few-rows)) (beside-all Buy quote.bid quote.bid_size)

  pub sound-offer : sound_table (placed (offer_row m quote) rows) ≡ true
  sound-offer = sound-placed (offer_row m quote) rows h good.offer (omega (arith, few-rows)) (beside-all Sell quote.offer quote.offer_size)

  pub sound-both : eqb quote.bid 0 ≡ false → sound_table (placed (offer_row m quote) (placed (bid_row m quote) rows)) ≡ true
  sound-both e =
      let bid = bid_row m quote in
      let ones : Row → ℕ = λ (r : Row). cond (order_owned r.owner) 1 0 in
      let count : order_count (placed bid rows) ≤ 96 = omega (arith, few-rows, sum_by-append ones (filter (up_to bid) rows) (bid ∷ filter (others (up_to bid)) rows), sum_by-cons ones bid (filter (others (up_to bid)) rows), sum_kept ones (up_to bid) rows) in
      sound-placed (offer_row m quote) (placed bid rows) (sound-bid e) good.offer (omega (arith, count)) (all_placed (Beside (offer_row m quote)) bid rows (beside-all Sell quote.offer quote.offer_size) (bid-beside m quote good.low good.below))

-- the sides of a quote stand between the rows before its maker and those after

before-place : (m : ℕ) (side : Side) (w : Owner) (a : Side) → 1 ≤ m → owned_by_maker m w ≡ false → leb (place_by w a) (quote_place m side) ≡ owned_before m w
before-place m side (owner.Order n) a low e = le-leb 0 (quote_place m side) (omega arith)
before-place m Buy (owner.Quote k) Buy low e = let ne = eqb-false k m e in grind (arith, nat_tests)
before-place m Buy (owner.Quote k) Sell low e = let ne = eqb-false k m e in grind (arith, nat_tests)
before-place m Sell (owner.Quote k) Buy low e = let ne = eqb-false k m e in grind (arith, nat_tests)
before-place m Sell (owner.Quote k) Sell low e = let ne = eqb-false k m e in grind (arith, nat_tests)

after-before : (m : ℕ) (w : Owner) → owned_by_maker m w ≡ false → not (owned_before m w) ≡ owned_after m w
after-before m (owner.Order n) e = refl
after-before m (owner.Quote k) e = let ne = eqb-false k m e in grind (arith, nat_tests)

before-up : (m : ℕ) (w : Owner) (a : Side) → owned_before m w ≡ true → leb (place_by w a) (2 * m) ≡ true
before-up m (owner.Order n) a e = le-leb 0 (2 * m) (omega arith)
before-up m (owner.Quote k) Buy e = le-leb (2 * k - 1) (2 * m) (omega (arith, ltb-true k m e))
before-up m (owner.Quote k) Sell e = le-leb (2 * k) (2 * m) (omega (arith, ltb-true k m e))

after-past : (m : ℕ) (w : Owner) (a : Side) → owned_after m w ≡ true → leb (place_by w a) (2 * m) ≡ false
after-past m (owner.Order n) a e = absurd (false≢true e)
after-past m (owner.Quote k) Buy e = lt-leb (2 * k - 1) (2 * m) (omega (arith, ltb-true m k e))
after-past m (owner.Quote k) Sell e = lt-leb (2 * k) (2 * m) (omega (arith, ltb-true m k e))

before-other : (m : ℕ) (w : Owner) → owned_before m w ≡ true → not (owned_by_maker m w) ≡ true
before-other m (owner.Order n) e = refl
before-other m (owner.Quote k) e = not_from_false (eqb k m) (ne_eqb k m (λ f. omega (arith, ltb-true k m e)))

after-other : (m : ℕ) (w : Owner) → owned_after m w ≡ true → not (owned_by_maker m w) ≡ true
after-other m (owner.Order n) e = absurd (false≢true e)
after-other m (owner.Quote k) e = not_from_false (eqb k m) (ne_eqb k m (λ f. omega (arith, ltb-true m k e)))

after-not-before : (m : ℕ) (w : Owner) → owned_after m w ≡ true → owned_before m w ≡ false
after-not-before m (owner.Order n) e = absurd (false≢true e)
after-not-before m (owner.Quote k) e = le-ltb k m (omega (arith, ltb-true m k e))

before-not-after : (m : ℕ) (w : Owner) → owned_before m w ≡ true → owned_after m w ≡ false
before-not-after m (owner.Order n) e = refl
before-not-after m (owner.Quote k) e = le-ltb m k (omega (arith, ltb-true k m e))

module _ (m : ℕ) (quote : Quote) (rows : List Row) where
  abbrev lows : List Row
  lows = filter (before_maker m) rows

  abbrev highs : List Row
  highs = filter (after_maker m) rows

  placed-side : (side : Side) (price size : ℕ) → 1 ≤ m → AllByRecursion (λ r. is_quote_of m r ≡ false) rows → placed (quote_row m side price size) rows ≡ lows ++ quote_row m side price size ∷ highs
  placed-side side price size low none =
      let row = quote_row m side price size in
      let a : filter (up_to row) rows ≡ lows = kept_same (up_to row) (before_maker m) rows (All-weaker (λ r. is_quote_of m r ≡ false) (λ r. up_to row r ≡ before_maker m r) (λ r e. before-place m side r.owner r.side low e) rows none) in
      let b : filter (others (up_to row)) rows ≡ highs = kept_same (others (up_to row)) (after_maker m) rows (All-weaker (λ r. is_quote_of m r ≡ false) (λ r. others (up_to row) r ≡ after_maker m r) (λ r e. ap not (before-place m side r.owner r.side low e) ∙ after-before m r.owner e) rows none) in
      ap (λ (ys : List Row). ys ++ row ∷ filter (others (up_to row)) rows) a ∙ ap (λ (ys : List Row). lows ++ row ∷ ys) b

  placed-both : placed (offer_row m quote) (lows ++ bid_row m quote ∷ highs) ≡ lows ++ (bid_row m quote ∷ offer_row m quote ∷ highs)
  placed-both =
      let bid = bid_row m quote in
      let offer = offer_row m quote in
      let up = up_to offer in
      let past = others (up_to offer) in
      let lows-up : AllByRecursion (λ r. up r ≡ true) lows = All-weaker (λ r. before_maker m r ≡ true) (λ r. up r ≡ true) (λ r e. before-up m r.owner r.side e) lows (kept_by_passes (before_maker m) rows) in
      let highs-past : AllByRecursion (λ r. up r ≡ false) highs = All-weaker (λ r. after_maker m r ≡ true) (λ r. up r ≡ false) (λ r e. after-past m r.owner r.side e) highs (kept_by_passes (after_maker m) rows) in
      let bid-up : up bid ≡ true = le-leb (2 * m - 1) (2 * m) (omega arith) in
      let front : filter up (lows ++ bid ∷ highs) ≡ lows ++ bid ∷ [] =
      filter-append up lows (bid ∷ highs)
      ∙ ap (λ (ys : List Row). ys ++ filter up (bid ∷ highs)) (kept-all up lows lows-up)
      ∙ ap (λ (ys : List Row). lows ++ ys) (cond-true (up bid) (bid ∷ filter up highs) (filter up highs) bid-up ∙ ap (λ (ys : List Row). bid ∷ ys) (kept-none up highs highs-past)) in
      let back : filter past (lows ++ bid ∷ highs) ≡ highs =
      filter-append past lows (bid ∷ highs)
      ∙ ap (λ (ys : List Row). ys ++ filter past (bid ∷ highs)) (kept-none past lows (All-weaker (λ r. up r ≡ true) (λ r. past r ≡ false) (λ r e. not_from_true (up r) e) lows lows-up))
      ∙ cond-false (past bid) (bid ∷ filter past highs) (filter past highs) (not_from_true (up bid) bid-up)
      ∙ kept-all past highs (All-weaker (λ r. up r ≡ false) (λ r. past r ≡ true) (λ r e. not_from_false (up r) e) highs highs-past) in
      ap (λ (ys : List Row). ys ++ offer ∷ filter past (lows ++ bid ∷ highs)) front
      ∙ ap (λ (ys : List Row). (lows ++ bid ∷ []) ++ offer ∷ ys) back
      ∙ append_assoc lows (bid ∷ []) (offer ∷ highs)

  quoted-by : (news : List Row) → quote_rows m quote ≡ news → lows ++ (news ++ highs) ≡ quoted m quote rows
  quoted-by news e = ap (λ (ys : List Row). lows ++ (ys ++ highs)) (sym e)

  pub put-offer : 1 ≤ m → AllByRecursion (λ r. is_quote_of m r ≡ false) rows → eqb quote.bid 0 ≡ true → placed (offer_row m quote) rows ≡ quoted m quote rows
  put-offer low none e = placed-side Sell quote.offer quote.offer_size low none ∙ quoted-by (offer_row m quote ∷ []) (cond-true (eqb quote.bid 0) (offer_row m quote ∷ []) (bid_row m quote ∷ offer_row m quote ∷ []) e)

  pub put_both : 1 ≤ m → AllByRecursion (λ r. is_quote_of m r ≡ false) rows → eqb quote.bid 0 ≡ false → placed (offer_row m quote) (placed (bid_row m quote) rows) ≡ quoted m quote rows
  put_both low none e = ap (placed (offer_row m quote)) (placed-side Buy quote.bid quote.bid_size low none) ∙ placed-both ∙ quoted-by (bid_row m quote ∷ offer_row m quote ∷ []) (cond-false (eqb quote.bid 0) (offer_row m quote ∷ []) (bid_row m quote ∷ offer_row m quote ∷ []) e)

  pub quoted-fresh : quoted m quote (without_quote m rows) ≡ quoted m quote rows
  quoted-fresh =
      let a : filter (before_maker m) (without_quote m rows) ≡ lows = kept-sub (before_maker m) (λ r. not (is_quote_of m r)) (λ r e. before-other m r.owner e) rows in
      let b : filter (after_maker m) (without_quote m rows) ≡ highs = kept-sub (after_maker m) (λ r. not (is_quote_of m r)) (λ r e. after-other m r.owner e) rows in
      ap (λ (ys : List Row). ys ++ (quote_rows m quote ++ filter (after_maker m) (without_quote m rows))) a ∙ ap (λ (ys : List Row). lows ++ (quote_rows m quote ++ ys)) b

  sides-none : (test : Row → Bool) → ltb m m ≡ test (bid_row m quote) → ltb m m ≡ test (offer_row m quote) → AllByRecursion (λ r. test r ≡ false) (quote_rows m quote)
  sides-none test a b =
      let never = le-ltb m m (omega arith) in
      cond_both (eqb quote.bid 0) (offer_row m quote ∷ []) (bid_row m quote ∷ offer_row m quote ∷ []) (AllByRecursion (λ r. test r ≡ false)) (λ _. (sym b ∙ never, tt)) (λ _. (sym a ∙ never, (sym b ∙ never, tt)))

  quoted-lows : filter (before_maker m) (quoted m quote rows) ≡ lows
  quoted-lows =
      filter-append (before_maker m) lows (quote_rows m quote ++ highs)
      ∙ ap (λ (ys : List Row). filter (before_maker m) lows ++ ys) (filter-append (before_maker m) (quote_rows m quote) highs ∙ ap (λ (ys : List Row). ys ++ filter (before_maker m) highs) (kept-none (before_maker m) (quote_rows m quote) (sides-none (before_maker m) refl refl)) ∙ kept-apart (before_maker m) (after_maker m) (λ r e. after-not-before m r.owner e) rows)
      ∙ append-nil (filter (before_maker m) lows) ∙ kept-twice (before_maker m) rows

  quoted-highs : filter (after_maker m) (quoted m quote rows) ≡ highs
  quoted-highs =
      filter-append (after_maker m) lows (quote_rows m quote ++ highs)
      ∙ ap (λ (ys : List Row). ys ++ filter (after_maker m) (quote_rows m quote ++ highs)) (kept-apart (after_maker m) (before_maker m) (λ r e. before-not-after m r.owner e) rows)
      ∙ filter-append (after_maker m) (quote_rows m quote) highs
      ∙ ap (λ (ys : List Row). ys ++ filter (after_maker m) highs) (kept-none (after_maker m) (quote_rows m quote) (sides-none (after_maker m) refl refl))
      ∙ kept-twice (after_maker m) rows

  pub quoted-again : (later : Quote) → quoted m later (quoted m quote rows) ≡ quoted m later rows
  quoted-again later =
      ap (λ (ys : List Row). ys ++ (quote_rows m later ++ filter (after_maker m) (quoted m quote rows))) quoted-lows
      ∙ ap (λ (ys : List Row). lows ++ (quote_rows m later ++ ys)) quoted-highs

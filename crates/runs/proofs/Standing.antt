-- How a call's edit of the rows acts on the rows that stand: the orders, then the rows of the quotes by maker.
use Rattle.std.proofs.Common.{◌≡◌, ℕ, zero, suc, ◌+◌, ◌<◌, ◌≤◌, Bool, true, false, cond, not, eqb, List, [], ◌∷◌, ◌++◌, map, Some, None, filter, Option, sym, refl, ap, ◌∙◌, inl, inr, arith}
use Rattle.std.specs.List.{AllByRecursion}
use Rattle.std.proofs.lemmas.Bool.{cond-true, cond-false, cond_both, cases_eq, eq-eqb, ne_eqb, lt-ltb, le-ltb, not_from_true, not_from_false}
use Rattle.std.proofs.lemmas.List.{append_assoc, append-nil, map_push}
use Rattle.std.proofs.lemmas.List.Elements.{filter-append}
use Rattle.std.proofs.ByRecursion.{All-append}
use Rattle.interest.specs.declared.Side.{Side}
use Rattle.interest.specs.declared.Side.TheVariants.{Buy, Sell}
use Rattle.book.specs.declared.row.Row.{Row}
use Rattle.book.specs.declared.row.Order.{Order}
use Rattle.book.specs.declared.row.Quote.{Quote}
use Rattle.book.specs.Rows.{is_order, is_quote_of}
use Rattle.book.specs.Edits.{of_order, before_maker, after_maker, order_row, quote_row, bid_row, offer_row, quote_rows, added, without_order, without_quote, quoted}
use Rattle.book.proofs.SoundFacts.{kept-all, kept-none}
use Rattle.runs.specs.Histories.{has_number, rows_of_quote, makers_rows}

-- what holds of every row

all-orders : (P : Row → Type 0) → ((o : Order) → P (order_row o)) → (os : List Order) → AllByRecursion P (map order_row os)
all-orders P h [] = tt
all-orders P h (o ∷ os) = (h o, all-orders P h os)

all-quote : (P : Row → Type 0) (m : ℕ) → ((side : Side) (price size : ℕ) → P (quote_row m side price size)) → (x : Option Quote) → AllByRecursion P (rows_of_quote m x)
all-quote P m h None = tt
all-quote P m h (Some q) =
    cond_both (eqb q.bid 0) (offer_row m q ∷ []) (bid_row m q ∷ offer_row m q ∷ []) (AllByRecursion P)
    (λ _. (h Sell q.offer q.offer_size, tt))
    (λ _. (h Buy q.bid q.bid_size, (h Sell q.offer q.offer_size, tt)))

all-makers : (P : Row → Type 0) (f : ℕ → Option Quote) (from n : ℕ) → ((m : ℕ) → from ≤ m → (side : Side) (price size : ℕ) → P (quote_row m side price size)) → AllByRecursion P (makers_rows f from n)
all-makers P f from zero h = tt
all-makers P f from (suc n) h = All-append P (rows_of_quote from (f from)) (makers_rows f (suc from) n) (all-quote P from (h from (omega arith)) (f from)) (all-makers P f (suc from) n (λ m le. h m (omega arith)))

pub all-standing : (P : Row → Type 0) → ((o : Order) → P (order_row o)) → ((m : ℕ) (side : Side) (price size : ℕ) → P (quote_row m side price size)) → (os : List Order) (f : ℕ → Option Quote) (from n : ℕ) → AllByRecursion P (map order_row os ++ makers_rows f from n)
all-standing P a b os f from n = All-append P (map order_row os) (makers_rows f from n) (all-orders P a os) (all-makers P f from n (λ m le. b m))

-- a filter over the orders and the quotes

kept-both : (test : Row → Bool) (xs ys us vs : List Row) → filter test xs ≡ us → filter test ys ≡ vs → filter test (xs ++ ys) ≡ us ++ vs
kept-both test xs ys us vs a b = filter-append test xs ys ∙ ap (λ (zs : List Row). zs ++ filter test ys) a ∙ ap (λ (zs : List Row). us ++ zs) b

-- orders

pub added-standing : (o : Order) (os : List Order) (f : ℕ → Option Quote) (from n : ℕ) → added o (map order_row os ++ makers_rows f from n) ≡ map order_row (os ++ o ∷ []) ++ makers_rows f from n
added-standing o os f from n =
    let front = map order_row os in
    let quotes = makers_rows f from n in
    let firsts : filter of_order (front ++ quotes) ≡ front ++ [] = kept-both of_order front quotes front [] (kept-all of_order front (all-orders (λ r. of_order r ≡ true) (λ x. refl) os)) (kept-none of_order quotes (all-makers (λ r. of_order r ≡ false) f from n (λ m le side price size. refl))) in
    let lasts : filter (λ r. not (of_order r)) (front ++ quotes) ≡ quotes = kept-both (λ r. not (of_order r)) front quotes [] quotes (kept-none (λ r. not (of_order r)) front (all-orders (λ r. not (of_order r) ≡ false) (λ x. refl) os)) (kept-all (λ r. not (of_order r)) quotes (all-makers (λ r. not (of_order r) ≡ true) f from n (λ m le side price size. refl))) in
    ap (λ (zs : List Row). zs ++ order_row o ∷ filter (λ r. not (of_order r)) (front ++ quotes)) (firsts ∙ append-nil front)
    ∙ ap (λ (zs : List Row). front ++ order_row o ∷ zs) lasts
    ∙ sym (append_assoc front (order_row o ∷ []) quotes)
    ∙ ap (λ (zs : List Row). zs ++ quotes) (sym (map_push order_row os o))

kept-orders : (n : ℕ) (os : List Order) → filter (λ r. not (is_order n r)) (map order_row os) ≡ map order_row (filter (λ o. not (has_number n o)) os)
kept-orders n [] = refl
kept-orders n (o ∷ os) =
    let ih = kept-orders n os in
    let rest = filter (λ r. not (is_order n r)) (map order_row os) in
    let others = filter (λ o. not (has_number n o)) os in
    elim (eqb o.number n) as (λ b. cond (not b) (order_row o ∷ rest) rest ≡ map order_row (cond (not b) (o ∷ others) others)) [ true ↦ ih | false ↦ ap (λ (zs : List Row). order_row o ∷ zs) ih ]

pub without-order-standing : (k : ℕ) (os : List Order) (f : ℕ → Option Quote) (from n : ℕ) → without_order k (map order_row os ++ makers_rows f from n) ≡ map order_row (filter (λ o. not (has_number k o)) os) ++ makers_rows f from n
without-order-standing k os f from n =
    let test : Row → Bool = λ r. not (is_order k r) in
    kept-both test (map order_row os) (makers_rows f from n) (map order_row (filter (λ o. not (has_number k o)) os)) (makers_rows f from n) (kept-orders k os) (kept-all test (makers_rows f from n) (all-makers (λ r. test r ≡ true) f from n (λ m le side price size. refl)))

-- quotes

-- one maker's quote changed
abbrev pub changed : ℕ → Option Quote → (ℕ → Option Quote) → ℕ → Option Quote
changed m x f k = cond (eqb m k) x (f k)

makers-past : (m : ℕ) (x : Option Quote) (f : ℕ → Option Quote) (from n : ℕ) → m < from → makers_rows (changed m x f) from n ≡ makers_rows f from n
makers-past m x f from zero lt = refl
makers-past m x f from (suc n) lt =
    let e : changed m x f from ≡ f from = cond-false (eqb m from) x (f from) (ne_eqb m from (λ z. omega arith)) in
    ap (λ (y : Option Quote). rows_of_quote from y ++ makers_rows (changed m x f) (suc from) n) e
    ∙ ap (λ (zs : List Row). rows_of_quote from (f from) ++ zs) (makers-past m x f (suc from) n (omega arith))

kept-without : (m : ℕ) (f : ℕ → Option Quote) (from n : ℕ) → without_quote m (makers_rows f from n) ≡ makers_rows (changed m None f) from n
kept-without m f from zero = refl
kept-without m f from (suc n) =
    let test : Row → Bool = λ r. not (is_quote_of m r) in
    let here : filter test (rows_of_quote from (f from)) ≡ rows_of_quote from (changed m None f from) = elim (cases_eq m from) [
      | inl e ↦
          kept-none test (rows_of_quote from (f from)) (all-quote (λ r. test r ≡ false) from (λ side price size. not_from_true (eqb from m) (eq-eqb from m (sym e))) (f from))
          ∙ ap (rows_of_quote from) (sym (cond-true (eqb m from) None (f from) (eq-eqb m from e)))
      | inr ne ↦
          kept-all test (rows_of_quote from (f from)) (all-quote (λ r. test r ≡ true) from (λ side price size. not_from_false (eqb from m) (ne_eqb from m (λ z. ne (sym z)))) (f from))
          ∙ ap (rows_of_quote from) (sym (cond-false (eqb m from) None (f from) (ne_eqb m from ne)))
    ] in
    kept-both test (rows_of_quote from (f from)) (makers_rows f (suc from) n) (rows_of_quote from (changed m None f from)) (makers_rows (changed m None f) (suc from) n) here (kept-without m f (suc from) n)

pub without-quote-standing : (m : ℕ) (os : List Order) (f : ℕ → Option Quote) (from n : ℕ) → without_quote m (map order_row os ++ makers_rows f from n) ≡ map order_row os ++ makers_rows (changed m None f) from n
without-quote-standing m os f from n =
    let test : Row → Bool = λ r. not (is_quote_of m r) in
    kept-both test (map order_row os) (makers_rows f from n) (map order_row os) (makers_rows (changed m None f) from n) (kept-all test (map order_row os) (all-orders (λ r. test r ≡ true) (λ o. refl) os)) (kept-without m f from n)

quoted-makers : (m : ℕ) (q : Quote) (f : ℕ → Option Quote) (from n : ℕ) → from ≤ m → m < from + n → quoted m q (makers_rows f from n) ≡ makers_rows (changed m (Some q) f) from n
quoted-makers m q f from zero low high = absurd (omega arith)
quoted-makers m q f from (suc n) low high =
    let g : ℕ → Option Quote = changed m (Some q) f in
    let head = rows_of_quote from (f from) in
    let rest = makers_rows f (suc from) n in
    elim (cases_eq m from) [
      | inl e ↦
          let before : filter (before_maker m) (head ++ rest) ≡ [] = kept-both (before_maker m) head rest [] [] (kept-none (before_maker m) head (all-quote (λ r. before_maker m r ≡ false) from (λ side price size. le-ltb from m (omega arith)) (f from))) (kept-none (before_maker m) rest (all-makers (λ r. before_maker m r ≡ false) f (suc from) n (λ k le side price size. le-ltb k m (omega arith)))) in
          let after : filter (after_maker m) (head ++ rest) ≡ rest = kept-both (after_maker m) head rest [] rest (kept-none (after_maker m) head (all-quote (λ r. after_maker m r ≡ false) from (λ side price size. le-ltb m from (omega arith)) (f from))) (kept-all (after_maker m) rest (all-makers (λ r. after_maker m r ≡ true) f (suc from) n (λ k le side price size. lt-ltb m k (omega arith)))) in
          let mine : rows_of_quote from (g from) ≡ quote_rows m q = ap (rows_of_quote from) (cond-true (eqb m from) (Some q) (f from) (eq-eqb m from e)) ∙ ap (λ (k : ℕ). quote_rows k q) (sym e) in
          ap (λ (zs : List Row). zs ++ (quote_rows m q ++ filter (after_maker m) (head ++ rest))) before
          ∙ ap (λ (zs : List Row). quote_rows m q ++ zs) (after ∙ sym (makers-past m (Some q) f (suc from) n (omega arith)))
          ∙ ap (λ (zs : List Row). zs ++ makers_rows g (suc from) n) (sym mine)
      | inr ne ↦
          let past : from < m = grind arith in
          let before : filter (before_maker m) (head ++ rest) ≡ head ++ filter (before_maker m) rest = kept-both (before_maker m) head rest head (filter (before_maker m) rest) (kept-all (before_maker m) head (all-quote (λ r. before_maker m r ≡ true) from (λ side price size. lt-ltb from m past) (f from))) refl in
          let after : filter (after_maker m) (head ++ rest) ≡ filter (after_maker m) rest = kept-both (after_maker m) head rest [] (filter (after_maker m) rest) (kept-none (after_maker m) head (all-quote (λ r. after_maker m r ≡ false) from (λ side price size. le-ltb m from (omega arith)) (f from))) refl in
          let same : rows_of_quote from (g from) ≡ head = ap (rows_of_quote from) (cond-false (eqb m from) (Some q) (f from) (ne_eqb m from ne)) in
          ap (λ (zs : List Row). zs ++ (quote_rows m q ++ filter (after_maker m) (head ++ rest))) before
          ∙ ap (λ (zs : List Row). (head ++ filter (before_maker m) rest) ++ (quote_rows m q ++ zs)) after
          ∙ append_assoc head (filter (before_maker m) rest) (quote_rows m q ++ filter (after_maker m) rest)
          ∙ ap (λ (zs : List Row). head ++ zs) (quoted-makers m q f (suc from) n (omega arith) (omega arith))
          ∙ ap (λ (zs : List Row). zs ++ makers_rows g (suc from) n) (sym same)
    ]

pub quoted-standing : (m : ℕ) (q : Quote) (os : List Order) (f : ℕ → Option Quote) (from n : ℕ) → from ≤ m → m < from + n → quoted m q (map order_row os ++ makers_rows f from n) ≡ map order_row os ++ makers_rows (changed m (Some q) f) from n
quoted-standing m q os f from n low high =
    let front = map order_row os in
    let quotes = makers_rows f from n in
    let before : filter (before_maker m) (front ++ quotes) ≡ front ++ filter (before_maker m) quotes = kept-both (before_maker m) front quotes front (filter (before_maker m) quotes) (kept-all (before_maker m) front (all-orders (λ r. before_maker m r ≡ true) (λ o. refl) os)) refl in
    let after : filter (after_maker m) (front ++ quotes) ≡ filter (after_maker m) quotes = kept-both (after_maker m) front quotes [] (filter (after_maker m) quotes) (kept-none (after_maker m) front (all-orders (λ r. after_maker m r ≡ false) (λ o. refl) os)) refl in
    ap (λ (zs : List Row). zs ++ (quote_rows m q ++ filter (after_maker m) (front ++ quotes))) before
    ∙ ap (λ (zs : List Row). (front ++ filter (before_maker m) quotes) ++ (quote_rows m q ++ zs)) after
    ∙ append_assoc front (filter (before_maker m) quotes) (quote_rows m q ++ filter (after_maker m) quotes)
    ∙ ap (λ (zs : List Row). front ++ zs) (quoted-makers m q f from n low high)

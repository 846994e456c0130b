-- What follows from each call on a table, for readings and sums.
use Rattle.std.proofs.Common.{◌≡◌, ℕ, ◌+◌, ◌≤◌, Bool, true, false, cond, not, ◌&&◌, eqb, leb, List, [], ◌∷◌, Some, None, Ok, Err, filter, sym, refl, ap, ◌∙◌, subst, inl, inr, arith}
use Rattle.std.specs.Option.{option_map}
use Rattle.std.specs.List.{AllByRecursion}
use Rattle.std.proofs.lemmas.Bool.{and_parts, and_left, and_right, and_from, cond-true, cond-false, eq-eqb, ne_eqb, leb-true, cases_Bool, not-true, not-false, not_from_true, not_from_false}
use Rattle.std.proofs.ByRecursion.{All-weaker, kept_by_passes}
use Rattle.std.proofs.lemmas.List.Sums.{sum_by-cons}
use Rattle.interest.specs.declared.Refusal.TheVariants.{NumberOutOfBounds}
use Rattle.interest.specs.Bounds.{maker_numbered}
use Rattle.interest.specs.declared.Side.{Side}
use Rattle.interest.specs.declared.Side.TheVariants.{Buy, Sell}
use Rattle.book.specs.declared.row.Owner.TheVariants as owner
use Rattle.book.specs.declared.row.Row.{Row}
use Rattle.book.specs.declared.row.Order.{Order}
use Rattle.book.specs.declared.row.Quote.{Quote}
use Rattle.book.specs.Rows.{sound_table, is_order, is_quote_of}
use Rattle.book.specs.Ranks.{of_side, total_of, contracts}
use Rattle.book.specs.Reads.{is_quote_side, first, reading_of}
use Rattle.book.specs.Edits.{order_row, bid_row, offer_row, quote_rows, placed, added, without_order, without_quote, quoted, add_cause, quote_out_cause, take_out_answer, left_or_refused, left_in, left_of_quote}
use Rattle.book.specs.Effects.{taken_back_on, OrderAdded, OrderOut, QuoteTaken, QuoteSet, QuoteOut}
use Rattle.book.proofs.SoundFacts.{sound-kept, kept-all}
use Rattle.book.proofs.ReadFacts.{first-none, first-kept}
use Rattle.book.proofs.EditFacts.{GoodQuote, past-cause, good-order, placed-added, placed-kept, placed_first, placed-sum, all_placed, taken-sum, taken-gone, others-stay, order-part, side-part, left_is, untouched-sum, kept-sub, sound-bid, put-offer, put_both, quoted-fresh, quoted-again}

itself : (n : ℕ) → eqb n n ≡ true
itself n = eq-eqb n n refl

pub order-added : (order : Order) (rows : List Row) → sound_table rows ≡ true → add_cause order rows ≡ None → OrderAdded order rows (added order rows)
order-added o rows h cause =
    let g = good-order o rows cause in
    let row = order_row o in
    let mine = is_order o.number in
    let keep : Row → Bool = λ r. not (mine r) in
    let here : mine row ≡ true = itself o.number in
    let same : filter keep (placed row rows) ≡ filter keep rows = placed-kept keep row rows h (not_from_true (mine row) here) in
    let all : filter keep rows ≡ rows = kept-all keep rows (All-weaker (λ r. mine r ≡ false) (λ r. keep r ≡ true) (λ r e. not_from_false (mine r) e) rows g.fresh) in
    subst (OrderAdded o rows) (placed-added o rows h) (record {
      whole = placed_first mine row rows g.fresh here;
      undone = same ∙ all;
      others = others-stay (owner.Order o.number) rows (placed row rows) same;
      sums = λ part side. placed-sum part (of_side side) row rows;
    })

pub order-out : (n : ℕ) (rows : List Row) (row : Row) → sound_table rows ≡ true → first (is_order n) rows ≡ Some row → OrderOut n row.left rows (without_order n rows)
order-out n rows row h e =
    let answer : contracts (is_order n) rows ≡ row.left = order-part (λ (r : Row). r.left) n rows h ∙ left_is (first (is_order n) rows) ∙ ap left_in e in
    record {
      gone = ap (option_map reading_of) (taken-gone (is_order n) (is_order n) (λ r t. t) rows);
      others = others-stay (owner.Order n) rows (without_order n rows) (kept-sub (λ r. not (is_order n r)) (λ r. not (is_order n r)) (λ r t. t) rows);
      sums = λ part side. taken-sum part (of_side side) (is_order n) rows;
      answer = answer;
      accepted = λ u. untouched-sum (is_order n) rows u ∙ answer;
    }

-- what is answered of a quote

side-answer : (m : ℕ) (rows : List Row) → 1 ≤ m → sound_table rows ≡ true → (side : Side) → contracts (is_quote_side m side) rows ≡ taken_back_on side (left_of_quote m rows)
side-answer m rows low h Buy = side-part (λ (r : Row). r.left) m Buy rows low h ∙ left_is (first (is_quote_side m Buy) rows)
side-answer m rows low h Sell = side-part (λ (r : Row). r.left) m Sell rows low h ∙ left_is (first (is_quote_side m Sell) rows)

quote-taken : (m : ℕ) (rows after : List Row) → 1 ≤ m → sound_table rows ≡ true → without_quote m after ≡ without_quote m rows → QuoteTaken m (left_of_quote m rows) rows after
quote-taken m rows after low h e = record {
  others = others-stay (owner.Quote m) rows after e;
  answer = side-answer m rows low h;
  accepted = λ u side. untouched-sum (is_quote_side m side) rows u ∙ side-answer m rows low h side;
}

twice : (m : ℕ) (rows : List Row) → without_quote m (without_quote m rows) ≡ without_quote m rows
twice m rows = kept-sub (λ r. not (is_quote_of m r)) (λ r. not (is_quote_of m r)) (λ r t. t) rows

pub quote-out : (m : ℕ) (rows : List Row) → 1 ≤ m → sound_table rows ≡ true → QuoteOut m (left_of_quote m rows) rows (without_quote m rows)
quote-out m rows low h = record {
  gone = λ side. ap (option_map reading_of) (taken-gone (is_quote_side m side) (is_quote_of m) (λ r t. (and_parts (is_quote_of m r) (of_side side r) t).0) rows);
  taken = quote-taken m rows (without_quote m rows) low h (twice m rows);
  sums = λ part side. taken-sum part (of_side side) (is_quote_of m) rows;
}

first_past : (test : Row → Bool) (row : Row) (rows : List Row) → sound_table rows ≡ true → test row ≡ false → first test (placed row rows) ≡ first test rows
first_past test row rows h e = sym (first-kept test test (λ r t. t) (placed row rows)) ∙ ap (first test) (placed-kept test row rows h e) ∙ first-kept test test (λ r t. t) rows

pub none_left : (m : ℕ) (rows : List Row) → AllByRecursion (λ r. is_quote_of m r ≡ false) (without_quote m rows)
none_left m rows = All-weaker (λ r. not (is_quote_of m r) ≡ true) (λ r. is_quote_of m r ≡ false) (λ r e. not-true (is_quote_of m r) e) (without_quote m rows) (kept_by_passes (λ r. not (is_quote_of m r)) rows)

module _ (m : ℕ) (quote : Quote) (rows : List Row) (h : sound_table rows ≡ true) (good : GoodQuote m quote) where
  abbrev rest : List Row
  rest = without_quote m rows

  abbrev keep : Row → Bool
  keep r = not (is_quote_of m r)

  rest-sound : sound_table rest ≡ true
  rest-sound = sound-kept keep rows h

  none : AllByRecursion (λ r. is_quote_of m r ≡ false) rest
  none = none_left m rows

  no-side : (side : Side) → AllByRecursion (λ r. is_quote_side m side r ≡ false) rest
  no-side side = All-weaker (λ r. is_quote_of m r ≡ false) (λ r. is_quote_side m side r ≡ false) (λ r e. and_left (is_quote_of m r) (of_side side r) e) rest none

  own : eqb m m ≡ true
  own = itself m

  mine-out : not (eqb m m) ≡ false
  mine-out = not_from_true (eqb m m) own

  on-side : (eqb m m && true) ≡ true
  on-side = and_from (eqb m m) true own refl

  off-side : (eqb m m && false) ≡ false
  off-side = and_right (eqb m m) false refl

  sums-known : (part : Row → ℕ) (side : Side) (news after : List Row) → total_of part (of_side side) after ≡ total_of part (of_side side) rest + total_of part (of_side side) news → total_of part (of_side side) after + total_of part (is_quote_side m side) rows ≡ total_of part (of_side side) rows + total_of part (of_side side) news
  sums-known part side news after e = omega (arith, taken-sum part (of_side side) (is_quote_of m) rows)

  set-offer : eqb quote.bid 0 ≡ true → QuoteSet m quote (left_of_quote m rows) rows (placed (offer_row m quote) rest)
  set-offer e =
      let offer = offer_row m quote in
      let news : quote_rows m quote ≡ offer ∷ [] = cond-true (eqb quote.bid 0) (offer ∷ []) (bid_row m quote ∷ offer ∷ []) e in
      record {
        bid = first_past (is_quote_side m Buy) offer rest rest-sound off-side ∙ first-none (is_quote_side m Buy) rest (no-side Buy) ∙ sym (cond-true (eqb quote.bid 0) None (Some (bid_row m quote)) e);
        offer = placed_first (is_quote_side m Sell) offer rest (no-side Sell) on-side;
        replaced = λ later. ap (quoted m later) (put-offer m quote rest good.low none e ∙ quoted-fresh m quote rows) ∙ quoted-again m quote rows later;
        taken = quote-taken m rows (placed offer rest) good.low h (placed-kept keep offer rest rest-sound mine-out ∙ twice m rows);
        sums = λ part side. sums-known part side (quote_rows m quote) (placed offer rest) (omega (arith, placed-sum part (of_side side) offer rest, ap (total_of part (of_side side)) news, sum_by-cons (λ (r : Row). cond (of_side side r) (part r) 0) offer []));
      }

  set_both : eqb quote.bid 0 ≡ false → QuoteSet m quote (left_of_quote m rows) rows (placed (offer_row m quote) (placed (bid_row m quote) rest))
  set_both e =
      let bid = bid_row m quote in
      let offer = offer_row m quote in
      let mid = placed bid rest in
      let mid-sound : sound_table mid ≡ true = sound-bid m quote rest rest-sound good none e in
      let news : quote_rows m quote ≡ bid ∷ offer ∷ [] = cond-false (eqb quote.bid 0) (offer ∷ []) (bid ∷ offer ∷ []) e in
      record {
        bid = first_past (is_quote_side m Buy) offer mid mid-sound off-side ∙ placed_first (is_quote_side m Buy) bid rest (no-side Buy) on-side ∙ sym (cond-false (eqb quote.bid 0) None (Some bid) e);
        offer = placed_first (is_quote_side m Sell) offer mid (all_placed (λ r. is_quote_side m Sell r ≡ false) bid rest (no-side Sell) off-side) on-side;
        replaced = λ later. ap (quoted m later) (put_both m quote rest good.low none e ∙ quoted-fresh m quote rows) ∙ quoted-again m quote rows later;
        taken = quote-taken m rows (placed offer mid) good.low h (placed-kept keep offer mid mid-sound mine-out ∙ placed-kept keep bid rest rest-sound mine-out ∙ twice m rows);
        sums = λ part side. sums-known part side (quote_rows m quote) (placed offer mid) (omega (arith, placed-sum part (of_side side) offer mid, placed-sum part (of_side side) bid rest, ap (total_of part (of_side side)) news, sum_by-cons (λ (r : Row). cond (of_side side r) (part r) 0) bid (offer ∷ []), sum_by-cons (λ (r : Row). cond (of_side side r) (part r) 0) offer []));
      }

  pub quote-set : QuoteSet m quote (left_of_quote m rows) rows (quoted m quote rows)
  quote-set = elim (cases_Bool (eqb quote.bid 0)) [
    | inl e ↦ subst (QuoteSet m quote (left_of_quote m rows) rows) (put-offer m quote rest good.low none e ∙ quoted-fresh m quote rows) (set-offer e)
    | inr e ↦ subst (QuoteSet m quote (left_of_quote m rows) rows) (put_both m quote rest good.low none e ∙ quoted-fresh m quote rows) (set_both e)
  ]

-- what is answered

pub take-out-answer : (n : ℕ) (rows : List Row) (row : Row) → (n ≡ 0 → ⊥) → first (is_order n) rows ≡ Some row → take_out_answer n rows ≡ Ok row.left
take-out-answer n rows row ne e = cond-false (eqb n 0) (Err NumberOutOfBounds) (left_or_refused (first (is_order n) rows)) (ne_eqb n 0 ne) ∙ ap left_or_refused e

pub quote-out-low : (m : ℕ) (rows : List Row) → quote_out_cause m rows ≡ None → 1 ≤ m
quote-out-low m rows h = leb-true 1 m (and_parts (leb 1 m) (leb m 16) (not-false (maker_numbered m) (past-cause (not (maker_numbered m)) _ _ h).0)).0

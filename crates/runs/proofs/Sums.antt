-- Sums over the rows: what they hold, and that nothing of a row that stands is traded, routed or cancelled.
use Rattle.std.proofs.Common.{◌≡◌, ℕ, ◌+◌, Bool, true, false, cond, ◌&&◌, eqb, List, [], ◌∷◌, Some, sym, refl, ap, ◌∙◌, subst, inl, inr, arith}
use Rattle.std.specs.List.{AllByRecursion}
use Rattle.std.proofs.lemmas.Bool.{and_parts, cond-true, cond-false, cases_Bool, eqb-true}
use Rattle.std.proofs.ByRecursion.{All-weaker}
use Rattle.interest.specs.declared.Side.{Side}
use Rattle.interest.specs.declared.Side.TheVariants.{Buy, Sell}
use Rattle.interest.specs.Bounds.{sized}
use Rattle.interest.specs.Sides.{same_side}
use Rattle.book.specs.declared.row.Row.{Row}
use Rattle.book.specs.declared.row.Quote.{Quote}
use Rattle.book.specs.Rows.{held, is_order, sound_table}
use Rattle.book.specs.Ranks.{of_side, total_of, contracts}
use Rattle.book.specs.Reads.{first}
use Rattle.book.specs.Rewrites.{SameRows}
use Rattle.book.specs.Edits.{bid_row, offer_row, quote_rows, sized_quote}
use Rattle.book.proofs.ReadFacts.{sum_same}
use Rattle.book.proofs.EditFacts.{order-part}
use Rattle.levels.proofs.Totals.{total-cons}
use Rattle.clearing.specs.Openings.{traded_on, routed_on, cancelled_on}
use Rattle.runs.specs.Histories.{Event, orders_in, quote_in, standing, size_on, back_from}
use Rattle.runs.specs.Laws.{left_on}
use Rattle.runs.proofs.Standing.{all-standing}

-- each contract is in one of the four places

cond-sum : (b : Bool) (w x y z : ℕ) → cond b (w + x + y + z) 0 ≡ cond b w 0 + cond b x 0 + cond b y 0 + cond b z 0
cond-sum true w x y z = refl
cond-sum false w x y z = refl

pub held-sums : (side : Side) (rows : List Row) → total_of held (of_side side) rows ≡ traded_on side rows + routed_on side rows + cancelled_on side rows + left_on side rows
held-sums side [] = refl
held-sums side (r ∷ rows) =
    let of = of_side side in
    omega (
      arith,
      held-sums side rows,
      cond-sum (of r) r.traded r.routed r.cancelled r.left,
      total-cons held of r rows,
      total-cons (λ (x : Row). x.traded) of r rows,
      total-cons (λ (x : Row). x.routed) of r rows,
      total-cons (λ (x : Row). x.cancelled) of r rows,
      total-cons (λ (x : Row). x.left) of r rows,
    )

-- the same interest holds as much
pub same-held : (side : Side) (xs ys : List Row) → SameRows xs ys → total_of held (of_side side) ys ≡ total_of held (of_side side) xs
same-held side [] [] same = refl
same-held side [] (y ∷ ys) same = absurd same
same-held side (x ∷ xs) [] same = absurd same
same-held side (x ∷ xs) (y ∷ ys) same =
    let one : cond (of_side side y) (held y) 0 ≡ cond (of_side side x) (held x) 0 = ap (λ (w : Side). cond (same_side w side) (held y) 0) same.0.side ∙ ap (λ (n : ℕ). cond (of_side side x) n 0) same.0.held in
    omega (arith, one, same-held side xs ys same.1, total-cons held (of_side side) x xs, total-cons held (of_side side) y ys)

-- ROWS AS ACCEPTED

abbrev pub Fresh : Row → Type 0
Fresh r = (r.traded ≡ 0) × (r.routed ≡ 0) × (r.cancelled ≡ 0)

pub fresh-standing : (h : List Event) → AllByRecursion Fresh (standing h)
fresh-standing h = all-standing Fresh (λ o. (refl, refl, refl)) (λ m side price size. (refl, refl, refl)) (orders_in h) (quote_in h) 1 16

no_more : (b : Bool) (n : ℕ) → n ≡ 0 → cond b n 0 ≡ 0
no_more true n e = e
no_more false n e = refl

none-total : (part : Row → ℕ) (test : Row → Bool) (rows : List Row) → AllByRecursion (λ r. part r ≡ 0) rows → total_of part test rows ≡ 0
none-total part test [] h = refl
none-total part test (r ∷ rows) h = omega (arith, total-cons part test r rows, no_more (test r) (part r) h.0, none-total part test rows h.1)

pub none-traded : (side : Side) (rows : List Row) → AllByRecursion Fresh rows → traded_on side rows ≡ 0
none-traded side rows h = none-total (λ (r : Row). r.traded) (of_side side) rows (All-weaker Fresh (λ (r : Row). r.traded ≡ 0) (λ r f. f.0) rows h)

pub none-routed : (side : Side) (rows : List Row) → AllByRecursion Fresh rows → routed_on side rows ≡ 0
none-routed side rows h = none-total (λ (r : Row). r.routed) (of_side side) rows (All-weaker Fresh (λ (r : Row). r.routed ≡ 0) (λ r f. f.1) rows h)

fresh-held : (r : Row) → Fresh r → held r ≡ r.left
fresh-held r f = omega arith

-- all that it holds is left
pub fresh-left : (test : Row → Bool) (rows : List Row) → AllByRecursion Fresh rows → total_of held test rows ≡ contracts test rows
fresh-left test rows h = sum_same (λ (r : Row). cond (test r) (held r) 0) (λ (r : Row). cond (test r) r.left 0) rows (All-weaker Fresh (λ (r : Row). cond (test r) (held r) 0 ≡ cond (test r) r.left 0) (λ r f. ap (λ (n : ℕ). cond (test r) n 0) (fresh-held r f)) rows h)

first_holds : (P : Row → Type 0) (test : Row → Bool) (rows : List Row) (row : Row) → AllByRecursion P rows → first test rows ≡ Some row → P row
first_holds P test [] row h e = let z : ◌≡◌ {A = ℕ} 0 1 = cc in absurd (omega arith)
first_holds P test (r ∷ rows) row h e = by (test r) (first_holds P test rows row h.1) e
  where
    by : (b : Bool) → (first test rows ≡ Some row → P row) → cond b (Some r) (first test rows) ≡ Some row → P row
    by true later found = let same : r ≡ row = cc in subst P same h.0
    by false later found = later found

-- what is taken back of an order
pub order-back : (n : ℕ) (side : Side) (rows : List Row) (row : Row) → sound_table rows ≡ true → AllByRecursion Fresh rows → first (is_order n) rows ≡ Some row → total_of held (λ r. is_order n r && of_side side r) rows ≡ back_from side (Some row) row.left
order-back n side rows row sound fresh e =
    let part : Row → ℕ = λ r. cond (of_side side r) (held r) 0 in
    let split : (a b : Bool) (x : ℕ) → cond (a && b) x 0 ≡ cond a (cond b x 0) 0 = λ a b x. elim a as (λ a. cond (a && b) x 0 ≡ cond a (cond b x 0) 0) [ true ↦ refl | false ↦ refl ] in
    let one : total_of held (λ r. is_order n r && of_side side r) rows ≡ total_of part (is_order n) rows = sum_same (λ (r : Row). cond (is_order n r && of_side side r) (held r) 0) (λ (r : Row). cond (is_order n r) (part r) 0) rows (All-weaker Fresh (λ (r : Row). cond (is_order n r && of_side side r) (held r) 0 ≡ cond (is_order n r) (part r) 0) (λ r f. split (is_order n r) (of_side side r) (held r)) rows fresh) in
    one ∙ rw e at (order-part part n rows sound) ∙ ap (λ (x : ℕ). cond (of_side side row) x 0) (fresh-held row (first_holds Fresh (is_order n) rows row fresh e))

-- a quote's rows hold its sizes: a bid of 0 has size 0
pub quote-held : (m : ℕ) (q : Quote) (side : Side) → sized_quote q ≡ true → total_of held (of_side side) (quote_rows m q) ≡ size_on side q
quote-held m q side e =
    let bids = (and_parts (cond (eqb q.bid 0) (eqb q.bid_size 0) (sized q.bid_size)) (sized q.offer_size) e).0 in
    elim (cases_Bool (eqb q.bid 0)) [
      | inl none ↦
          let zero : q.bid_size ≡ 0 = eqb-true q.bid_size 0 (sym (cond-true (eqb q.bid 0) (eqb q.bid_size 0) (sized q.bid_size) none) ∙ bids) in
          ap (total_of held (of_side side)) (cond-true (eqb q.bid 0) (offer_row m q ∷ []) (bid_row m q ∷ offer_row m q ∷ []) none) ∙ offer side zero
      | inr some ↦ ap (total_of held (of_side side)) (cond-false (eqb q.bid 0) (offer_row m q ∷ []) (bid_row m q ∷ offer_row m q ∷ []) some) ∙ both side
    ]
  where
    offer : (side : Side) → q.bid_size ≡ 0 → total_of held (of_side side) (offer_row m q ∷ []) ≡ size_on side q
    offer Buy zero = omega arith
    offer Sell zero = omega arith

    both : (side : Side) → total_of held (of_side side) (bid_row m q ∷ offer_row m q ∷ []) ≡ size_on side q
    both Buy = omega arith
    both Sell = omega arith

-- The proof of `tally`.
use Rattle.std.proofs.Common.{◌≡◌, ℕ, ◌+◌, ◌<◌, ◌≤◌, true, false, cond, List, length, get_or, take, None, Option, sym, ap, ◌∙◌, arith}
use Rattle.std.proofs.lemmas.List.Sums.{sum_by_more, sum_by-take-le, fold_more}
use Rattle.std.proofs.lemmas.Bool.{cond-true, cond-false}
use Rattle.interest.specs.declared.Side.{Side}
use Rattle.interest.specs.Same.{eq-same}
use Rattle.book.specs.declared.row.Row.{Row}
use Rattle.book.specs.declared.book.Book.{Book}
use Rattle.book.specs.Rows.{held}
use Rattle.book.specs.Ranks.{of_side, total_of}
use Rattle.book.specs.Books.{rows_of}
use Rattle.book.proofs.RewriteFacts.{table-rows, rows_few}
use Rattle.book.proofs.RankFacts.{total-le}
use Rattle.market.specs.Counts.{better_of}
use Rattle.clearing.specs.Reports.{price_shown, best_shown}
use Rattle.clearing.proofs.tally.tally.Goals as goal
use Rattle.clearing.proofs.tally.tally.Goals.{then-eq, else-eq}

-- one row more, of the side or of the other
more-own : (f : Row → ℕ) (side : Side) (rows : List Row) (i : ℕ) (d : Row) (x : ℕ) → i < length rows → of_side side (get_or rows i d) ≡ true → x ≡ total_of f (of_side side) (take i rows) → x + f (get_or rows i d) ≡ total_of f (of_side side) (take (i + 1) rows)
more-own f side rows i d x lt own ex = omega (arith, cond-true (of_side side (get_or rows i d)) (f (get_or rows i d)) 0 own, sum_by_more (λ r. cond (of_side side r) (f r) 0) rows i d lt)

more-other : (f : Row → ℕ) (side : Side) (rows : List Row) (i : ℕ) (d : Row) (x : ℕ) → i < length rows → of_side side (get_or rows i d) ≡ false → x ≡ total_of f (of_side side) (take i rows) → x ≡ total_of f (of_side side) (take (i + 1) rows)
more-other f side rows i d x lt other ex = omega (arith, cond-false (of_side side (get_or rows i d)) (f (get_or rows i d)) 0 other, sum_by_more (λ r. cond (of_side side r) (f r) 0) rows i d lt)

small : (f : Row → ℕ) → ((r : Row) → f r ≤ held r) → (side : Side) (b : Book) (rows : List Row) (i : ℕ) → rows ≡ rows_of b → total_of f (of_side side) (take i rows) ≤ 128000000
small f part side b rows i e =
    omega (arith, sum_by-take-le (λ r. cond (of_side side r) (f r) 0) rows i, ap (total_of f (of_side side)) e, total-le f part (of_side side) (rows_of b) (table-rows (rows_of b) b.sound), rows_few b)

best-more : (side : Side) (rows : List Row) (i : ℕ) (d : Row) (x y : Option ℕ) → i < length rows → x ≡ best_shown side (take i rows) → y ≡ cond (of_side side (get_or rows i d)) (better_of side x (price_shown (get_or rows i d))) x → y ≡ best_shown side (take (i + 1) rows)
best-more side rows i d x y lt ex ey =
    let F : Option ℕ → Row → Option ℕ = λ a r. cond (of_side side r) (better_of side a (price_shown r)) a in
    ey ∙ ap (λ (a : Option ℕ). F a (get_or rows i d)) ex ∙ sym (fold_more F None rows i d lt)

pub overflow_add-routed : goal.overflow_add-routed
overflow_add-routed c =
    let own = sym c.eq.ensures ∙ c.if-eq.true in
    omega (
      arith,
      more-own (λ (r : Row). r.routed) c.args.side c.rows-row-items.result.now c.loop-row.row-index _ c.loop-row.routed c.loop-row-test.true (sym (eq-same _ c.args.side) ∙ own) c.loop-row.invariant.0,
      small (λ (r : Row). r.routed) (λ r. omega arith) c.args.side c.args.book.now c.rows-row-items.result.now (c.loop-row.row-index + 1) c.rows-row-items.ensures,
    )

pub overflow_add-cancelled : goal.overflow_add-cancelled
overflow_add-cancelled c =
    let own = sym c.eq.ensures ∙ c.if-eq.true in
    omega (
      arith,
      more-own (λ (r : Row). r.cancelled) c.args.side c.rows-row-items.result.now c.loop-row.row-index _ c.loop-row.cancelled c.loop-row-test.true (sym (eq-same _ c.args.side) ∙ own) c.loop-row.invariant.1,
      small (λ (r : Row). r.cancelled) (λ r. omega arith) c.args.side c.args.book.now c.rows-row-items.result.now (c.loop-row.row-index + 1) c.rows-row-items.ensures,
    )

pub loop-row-preserved : goal.loop-row-preserved
loop-row-preserved c =
    let side = c.args.side in
    let rows = c.rows-row-items.result.now in
    let i = c.loop-row.row-index in
    let lt = c.loop-row-test.true in
    let now = c.loop-row.invariant in
    elim c.if-eq.branch [
      | then-eq w ↦
          let own = sym (eq-same _ side) ∙ sym c.eq.ensures ∙ w.if-eq.true in (
            w.routed-is ∙ more-own (λ (r : Row). r.routed) side rows i _ c.loop-row.routed lt own now.0,
            w.cancelled-is ∙ more-own (λ (r : Row). r.cancelled) side rows i _ c.loop-row.cancelled lt own now.1,
            best-more side rows i _ c.loop-row.best c.if-eq.best lt now.2 (w.best-is ∙ w.better-best.ensures ∙ ap (better_of side c.loop-row.best) w.price_shown.ensures ∙ sym (cond-true _ _ _ own)),
          )
      | else-eq w ↦
          let other = sym (eq-same _ side) ∙ sym c.eq.ensures ∙ w.if-eq.false in (
            w.routed-is ∙ more-other (λ (r : Row). r.routed) side rows i _ c.loop-row.routed lt other now.0,
            w.cancelled-is ∙ more-other (λ (r : Row). r.cancelled) side rows i _ c.loop-row.cancelled lt other now.1,
            best-more side rows i _ c.loop-row.best c.if-eq.best lt now.2 (w.best-is ∙ sym (cond-false _ _ _ other)),
          )
    ]

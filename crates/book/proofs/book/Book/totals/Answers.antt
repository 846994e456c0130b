use Rattle.std.proofs.Common.{◌≡◌, ◌+◌, sym, ap, ◌∙◌, subst, arith}
use Rattle.std.proofs.lemmas.List.{take_all}
use Rattle.interest.specs.Same.{eq-same}
use Rattle.book.specs.declared.row.Totals.{Totals}
use Rattle.book.specs.Books.{rows_of}
use Rattle.book.specs.Ranks.{of_side}
use Rattle.book.specs.Reads.{totals_of}
use Rattle.book.proofs.SumFacts.{book-sound, listed-sound, listed-fits}
use Rattle.book.proofs.TotalFacts.{totals-yes, totals-no, totals-fit, total-held}
use Rattle.book.proofs.book.Book.totals.Goals as goal
use Rattle.book.proofs.book.Book.totals.Goals.{then-eq, else-eq}

pub overflow_add-totals : goal.overflow_add-totals
overflow_add-totals c = omega (arith, (totals-fit c.args.side c.rows-row-items.result.now c.loop-row.row-index _ c.loop-row-test.true (listed-sound c.args.self.now c.rows-row-items.result.now c.rows-row-items.ensures) (listed-fits c.args.self.now c.rows-row-items.result.now c.rows-row-items.ensures) c.loop-row.totals c.loop-row.invariant (sym (eq-same _ c.args.side) ∙ sym c.if-eq.ensures)).0)

pub overflow_add-totals-then-eq : goal.overflow_add-totals-then-eq
overflow_add-totals-then-eq c = omega (arith, (totals-fit c.args.side c.rows-row-items.result.now c.loop-row.row-index _ c.loop-row-test.true (listed-sound c.args.self.now c.rows-row-items.result.now c.rows-row-items.ensures) (listed-fits c.args.self.now c.rows-row-items.result.now c.rows-row-items.ensures) c.loop-row.totals c.loop-row.invariant (sym (eq-same _ c.args.side) ∙ sym c.if-eq.ensures)).1)

pub overflow_add-totals-then-eq-2 : goal.overflow_add-totals-then-eq-2
overflow_add-totals-then-eq-2 c = omega (arith, (totals-fit c.args.side c.rows-row-items.result.now c.loop-row.row-index _ c.loop-row-test.true (listed-sound c.args.self.now c.rows-row-items.result.now c.rows-row-items.ensures) (listed-fits c.args.self.now c.rows-row-items.result.now c.rows-row-items.ensures) c.loop-row.totals c.loop-row.invariant (sym (eq-same _ c.args.side) ∙ sym c.if-eq.ensures)).2)

pub overflow_add-totals-then-eq-3 : goal.overflow_add-totals-then-eq-3
overflow_add-totals-then-eq-3 c = omega (arith, (totals-fit c.args.side c.rows-row-items.result.now c.loop-row.row-index _ c.loop-row-test.true (listed-sound c.args.self.now c.rows-row-items.result.now c.rows-row-items.ensures) (listed-fits c.args.self.now c.rows-row-items.result.now c.rows-row-items.ensures) c.loop-row.totals c.loop-row.invariant (sym (eq-same _ c.args.side) ∙ sym c.if-eq.ensures)).3)

pub overflow_add-totals-then-eq-4 : goal.overflow_add-totals-then-eq-4
overflow_add-totals-then-eq-4 c = omega (arith, (totals-fit c.args.side c.rows-row-items.result.now c.loop-row.row-index _ c.loop-row-test.true (listed-sound c.args.self.now c.rows-row-items.result.now c.rows-row-items.ensures) (listed-fits c.args.self.now c.rows-row-items.result.now c.rows-row-items.ensures) c.loop-row.totals c.loop-row.invariant (sym (eq-same _ c.args.side) ∙ sym c.if-eq.ensures)).4)

pub loop-row-preserved : goal.loop-row-preserved
loop-row-preserved c = elim c.if-eq.branch [
  | then-eq w ↦ w.totals-is ∙ totals-yes c.args.side c.rows-row-items.result.now c.loop-row.row-index _ c.loop-row-test.true c.loop-row.totals c.loop-row.invariant (sym (eq-same _ c.args.side) ∙ sym w.if-eq.ensures)
  | else-eq w ↦ w.totals-is ∙ totals-no c.args.side c.rows-row-items.result.now c.loop-row.row-index _ c.loop-row-test.true c.loop-row.totals c.loop-row.invariant (sym (eq-same _ c.args.side) ∙ sym w.if-eq.ensures)
]

pub returns : goal.returns
returns c =
    let rows = rows_of c.args.self.now in
    let all : c.loop-row.totals ≡ totals_of c.args.side rows = c.loop-row.invariant ∙ ap (totals_of c.args.side) (take_all c.loop-row.row-index c.rows-row-items.result.now c.loop-row-test.false ∙ c.rows-row-items.ensures) in
    record {
      equation = all;
      balance = subst (λ (t : Totals). t.accepted ≡ t.traded + t.routed + t.cancelled + t.left) (sym all) (total-held (of_side c.args.side) rows (book-sound c.args.self.now));
    }

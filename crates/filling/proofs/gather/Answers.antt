-- The proof of `gather`.
use Rattle.std.proofs.Common.{◌≡◌, ◌+◌, ◌≤◌, List, length, sym, ap, ◌∙◌, arith}
use Rattle.sharing.specs.Levels.{rows_of as holdings_of}
use Rattle.book.specs.declared.row.Row.{Row}
use Rattle.book.specs.declared.book.Book.{Book}
use Rattle.book.specs.Rows.{sound_table}
use Rattle.book.specs.Ranks.{of_side}
use Rattle.book.specs.Books.{rows_of}
use Rattle.book.proofs.RewriteFacts.{rows_few}
use Rattle.levels.proofs.Walking.{level-no}
use Rattle.filling.proofs.Gathering.{push-takes, count_yes, count_no, count_fits}
use Rattle.filling.proofs.gather.Goals as goal
use Rattle.filling.proofs.gather.Goals.{then-stands_at, else-stands_at}

few : (b : Book) (rows : List Row) → rows ≡ rows_of b → length rows ≤ 128
few b rows e = omega (arith, ap length e, rows_few b)

pub overflow_add-contracts : goal.overflow_add-contracts
overflow_add-contracts c =
    let rows = c.rows-row-items.result.now in
    let e = c.rows-row-items.ensures in
    let i = c.loop-row.row-index in
    omega (arith, c.loop-row.invariant.1, count_yes (of_side c.args.side) c.args.at rows i _ c.loop-row-test.true (sym c.if-stands_at.ensures), count_fits (of_side c.args.side) c.args.at (i + 1) rows (few c.args.book.now rows e) (ap sound_table e ∙ c.args.book.now.sound))

pub loop-row-preserved : goal.loop-row-preserved
loop-row-preserved c =
    let part = of_side c.args.side in
    let k = c.args.at in
    let rows = c.rows-row-items.result.now in
    let e = c.rows-row-items.ensures in
    let i = c.loop-row.row-index in
    let lt = c.loop-row-test.true in
    elim c.if-stands_at.branch [
      | then-stands_at w ↦
          let h = sym w.if-stands_at.ensures in (
            ap holdings_of w.level-is ∙ push-takes part k rows i _ lt (few c.args.book.now rows e) (ap sound_table e ∙ c.args.book.now.sound) (holdings_of c.loop-row.level) _ w.holding_of.result w.push.result w.holding_of.ensures h c.loop-row.invariant.0 w.push.ensures.answer w.push.ensures.rows,
            omega (arith, w.contracts-is, c.loop-row.invariant.1, count_yes part k rows i _ lt h),
          )
      | else-stands_at w ↦
          let h = sym w.if-stands_at.ensures in (
            ap holdings_of w.level-is ∙ c.loop-row.invariant.0 ∙ sym (level-no part k rows i _ lt h),
            omega (arith, w.contracts-is, c.loop-row.invariant.1, count_no part k rows i _ lt h),
          )
    ]

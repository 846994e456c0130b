-- A book holds at most 128 rows.
use Rattle.std.proofs.Common.{arith, length, ap}
use Rattle.book.specs.declared.row.Row.{Row}
use Rattle.book.proofs.RewriteFacts.{rows_few}
use Rattle.specimens.proofs.tests.add.Goals as goal

pub overflow_cast-number : goal.overflow_cast-number
overflow_cast-number c = omega (arith, rows_few c.args.book.now, ap length c.rows.ensures)

pub overflow_add-number : goal.overflow_add-number
overflow_add-number c = omega (arith, rows_few c.args.book.now, ap length c.rows.ensures)

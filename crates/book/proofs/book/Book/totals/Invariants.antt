use Rattle.std.proofs.Common.{◌≡◌, take}
use Rattle.book.specs.Reads.{totals_of}
use Rattle.book.proofs.book.Book.totals.Given as goal

abbrev pub invariant-loop-row : goal.invariant-loop-row
invariant-loop-row l = l.totals ≡ totals_of l.side (take l.row-index l.row-items)

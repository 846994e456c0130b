-- The sums of the rows so far.
use Rattle.std.proofs.Common.{◌≡◌, ◌≤◌, length, take}
use Rattle.book.specs.Ranks.{interest_through, routable_through}
use Rattle.book.proofs.book.Book.through.Given as goal

abbrev pub invariant-loop-row : goal.invariant-loop-row
invariant-loop-row l =
    (l.contracts ≡ interest_through l.side l.price (take l.row-index l.row-items))
    × (l.routable ≡ routable_through l.side l.price (take l.row-index l.row-items))
    × (l.row-index ≤ length l.row-items)

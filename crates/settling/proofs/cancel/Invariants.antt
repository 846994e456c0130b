-- What the loop of `cancel` keeps.
use Rattle.std.proofs.Common.{◌≡◌, ◌++◌, map, length, take, drop}
use Rattle.book.specs.Books.{rows_of}
use Rattle.settling.specs.Settles.{cancel_through}
use Rattle.settling.proofs.cancel.Given as goal

abbrev pub invariant-loop-i : goal.invariant-loop-i
invariant-loop-i l =
    (length (rows_of l.book) ≡ l.i-end)
    × (take l.i (rows_of l.book) ++ map (cancel_through l.edges) (drop l.i (rows_of l.book)) ≡ map (cancel_through l.edges) (rows_of l.initial.book))

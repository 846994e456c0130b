-- What the loop of `rest` keeps.
use Rattle.std.proofs.Common.{◌≡◌, ◌++◌, map, length, take, drop}
use Rattle.market.specs.Counts.{best_of}
use Rattle.book.specs.Books.{rows_of}
use Rattle.settling.specs.Settles.{rested_row}
use Rattle.settling.proofs.rest.Given as goal

abbrev pub invariant-loop-i : goal.invariant-loop-i
invariant-loop-i g l =
    let f = rested_row (g.L.Ladder.permitted l.ladder) (λ side. best_of side (g.M.ShownMarket.shown l.market side)) in
    (length (rows_of l.book) ≡ l.i-end)
    × (take l.i (rows_of l.book) ++ map f (drop l.i (rows_of l.book)) ≡ map f (rows_of l.initial.book))

-- What the loop of `gather` keeps.
use Rattle.std.proofs.Common.{◌≡◌, take}
use Rattle.sharing.specs.Levels.{rows_of as holdings_of}
use Rattle.book.specs.Ranks.{of_side, at_rank}
use Rattle.levels.specs.Levels.{level_at}
use Rattle.filling.proofs.gather.Given as goal

abbrev pub invariant-loop-row : goal.invariant-loop-row
invariant-loop-row l =
    (holdings_of l.level ≡ level_at (of_side l.side) l.at (take l.row-index l.row-items))
    × (l.contracts ≡ at_rank (of_side l.side) l.at (take l.row-index l.row-items))

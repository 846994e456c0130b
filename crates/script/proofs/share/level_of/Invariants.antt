-- The rows read, with those that the other words tell, are the rows of the call.
use Rattle.std.proofs.Common.{◌≡◌, [], map}
use Rattle.std.specs.Slice.Iter.{chunks_rest, chunks_size}
use Rattle.sharing.specs.Levels.{rows_of}
use Rattle.script.specs.Shares.{rows_from}
use Rattle.script.proofs.share.level_of.Given as goal

abbrev pub invariant-loop-row : goal.invariant-loop-row
invariant-loop-row l =
    (chunks_size l.row-iterator ≡ 2)
    × (rows_from (rows_of l.level) (map (λ x. x.now) (chunks_rest l.row-iterator)) ≡ rows_from [] (map (λ x. x.now) l.words))

-- The foremost of the levels looked at so far.
use Rattle.market.specs.Levels.{Foremost}
use Rattle.market.proofs.depth.foremost.Given as goal

abbrev pub invariant-loop-at : goal.invariant-loop-at
invariant-loop-at l = Foremost l.side l.levels l.at l.first

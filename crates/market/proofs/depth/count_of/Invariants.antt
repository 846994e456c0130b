-- The smaller of n and what the levels so far show.
use Rattle.std.proofs.Common.{◌≡◌, ◌≤◌, take}
use Rattle.market.specs.Counts.{counted}
use Rattle.market.specs.Levels.{levels_show}
use Rattle.market.proofs.depth.count_of.Given as goal

abbrev pub invariant-loop-level : goal.invariant-loop-level
invariant-loop-level l = (l.total ≤ l.n) × (l.total ≡ counted (levels_show l.side (take l.level-index l.levels)) l.price l.n)

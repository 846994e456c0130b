-- What the loop of `tally` keeps.
use Rattle.std.proofs.Common.{◌≡◌, take}
use Rattle.clearing.specs.Openings.{routed_on, cancelled_on}
use Rattle.clearing.specs.Reports.{best_shown}
use Rattle.clearing.proofs.tally.tally.Given as goal

abbrev pub invariant-loop-row : goal.invariant-loop-row
invariant-loop-row l =
    (l.routed ≡ routed_on l.side (take l.row-index l.row-items))
    × (l.cancelled ≡ cancelled_on l.side (take l.row-index l.row-items))
    × (l.best ≡ best_shown l.side (take l.row-index l.row-items))

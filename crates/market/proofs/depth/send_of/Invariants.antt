-- Whatever goes before any place is less by what was sent, and levels have only lost contracts.
use Rattle.std.proofs.Common.{◌≡◌, ℕ, ◌-◌, ◌≤◌}
use Rattle.interest.specs.Sides.{opposite}
use Rattle.market.specs.Levels.{levels_show}
use Rattle.market.proofs.Placed.{placed, upto}
use Rattle.market.proofs.Lowers.{Lowered}
use Rattle.market.proofs.depth.send_of.Given as goal

abbrev pub invariant-loop-left : goal.invariant-loop-left
invariant-loop-left l =
    (l.left ≤ l.n)
    × ((i p : ℕ) → placed l.side (upto l.side i p) l.counting ≡ placed l.side (upto l.side i p) l.initial.counting - (l.n - l.left))
    × (l.n - l.left ≤ levels_show l.side l.initial.counting l.price)
    × ((p : ℕ) → levels_show (opposite l.side) l.counting p ≡ levels_show (opposite l.side) l.initial.counting p)
    × Lowered l.side l.initial.counting l.counting

abbrev pub decreases-loop-left : goal.decreases-loop-left
decreases-loop-left l = l.left

-- After each turn both markets together show what they did, less what was sent, and the split stands.
use Rattle.std.proofs.Common.{◌≡◌, ℕ, ◌+◌, ◌-◌, ◌≤◌}
use Rattle.interest.specs.Sides.{opposite}
use Rattle.market.specs.Pairs.{Split}
use Rattle.market.proofs.pair.PairMarket.send.Given as goal

abbrev pub invariant-loop-left : goal.invariant-loop-left
invariant-loop-left g l =
    (l.left ≤ l.n)
    × ((p : ℕ) → g.A.ShownMarket.shown l.self.first l.side p + g.B.ShownMarket.shown l.self.second l.side p
    ≡ (g.A.ShownMarket.shown l.initial.self.first l.side p + g.B.ShownMarket.shown l.initial.self.second l.side p) - (l.n - l.left))
    × (l.n - l.left ≤ g.A.ShownMarket.shown l.initial.self.first l.side l.price + g.B.ShownMarket.shown l.initial.self.second l.side l.price)
    × ((p : ℕ) → g.A.ShownMarket.shown l.self.first (opposite l.side) p + g.B.ShownMarket.shown l.self.second (opposite l.side) p
    ≡ g.A.ShownMarket.shown l.initial.self.first (opposite l.side) p + g.B.ShownMarket.shown l.initial.self.second (opposite l.side) p)
    × Split l.side (g.A.ShownMarket.shown l.initial.self.first l.side) (g.B.ShownMarket.shown l.initial.self.second l.side)
    (g.A.ShownMarket.shown l.self.first l.side) (g.B.ShownMarket.shown l.self.second l.side) (l.n - l.left)

abbrev pub decreases-loop-left : goal.decreases-loop-left
decreases-loop-left g l = l.left

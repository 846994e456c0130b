-- What was sent so far and what the other sends will take make what all take.
use Rattle.std.proofs.Common.{◌≡◌, ℕ, ◌+◌, ◌-◌, ◌*◌, ◌≤◌, drop}
use Rattle.interest.specs.Sides.{opposite}
use Rattle.market.specs.Sends.{sent_in_all}
use Rattle.market.proofs.sending.send_all.Given as goal

abbrev pub invariant-loop-sending : goal.invariant-loop-sending
invariant-loop-sending g l =
    (l.total ≤ 4294967296 * l.sending-index)
    × ((p : ℕ) → g.M.ShownMarket.shown l.market l.side p ≡ g.M.ShownMarket.shown l.initial.market l.side p - l.total)
    × ((p : ℕ) → g.M.ShownMarket.shown l.market (opposite l.side) p ≡ g.M.ShownMarket.shown l.initial.market (opposite l.side) p)
    × (l.total + sent_in_all (g.M.ShownMarket.shown l.market l.side) (drop l.sending-index l.sendings) ≡ sent_in_all (g.M.ShownMarket.shown l.initial.market l.side) l.sendings)

-- The tally has seen the prices below the next one, and the iterator is over the permitted prices of the scene.
use Rattle.std.proofs.Common.{◌≡◌}
use Rattle.pricing.specs.Scenes.{scene_of, opening_in}
use Rattle.pricing.proofs.Walks.{Walked}
use Rattle.pricing.proofs.scene.Scene.walk.Given as goal

abbrev pub invariant-loop-price : goal.invariant-loop-price
invariant-loop-price g l =
    let x = scene_of g.L.Ladder.permitted g.M.ShownMarket.shown l.self in
    (l.price-iterator.ladder.now ≡ l.self.ladder.now)
    × Walked x.permitted (opening_in x l.mode) l.fn.range.low l.fn.range.high l.price-iterator.at l.price-iterator.top l.tally

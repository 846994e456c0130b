-- The iterator passes prices that are not permitted, and each permitted one is taken in.
use Rattle.std.proofs.Common.{◌∙◌, subst, Some, None}
use Rattle.pricing.specs.Scenes.{scene_of, opening_in}
use Rattle.pricing.specs.Steps.{Steps}
use Rattle.pricing.proofs.Walks.{walk-steps, walk-ends}
use Rattle.pricing.proofs.scene.Scene.walk.Goals as goal

pub loop-price-preserved : goal.loop-price-preserved
loop-price-preserved g c =
    let x = scene_of g.L.Ladder.permitted g.M.ShownMarket.shown c.args.self.now in
    let old = c.loop-price.invariant in
    let on = c.in-Some.ensures.steps in
    let to = subst (λ l. Steps (g.L.Ladder.permitted l) c.loop-price.price-iterator.at c.loop-price.price-iterator.top (Some c.in-Some.price) c.next.new.self.at) old.0 on.2 in
    let new = walk-steps x.permitted (opening_in x c.args.mode) c.args.range.low c.args.range.high _ _ c.in-Some.price _ c.loop-price.tally old.1 to in
    (on.0 ∙ old.0, rw (on.1, c.step-tally.ensures, c.figures_of.ensures.is) new)

pub returns : goal.returns
returns g c =
    let x = scene_of g.L.Ladder.permitted g.M.ShownMarket.shown c.args.self.now in
    let old = c.loop-price.invariant in
    let on = c.in-None.ensures.steps in
    let to = subst (λ l. Steps (g.L.Ladder.permitted l) c.loop-price.price-iterator.at c.loop-price.price-iterator.top None c.next.new.self.at) old.0 on.2 in
    walk-ends x.permitted (opening_in x c.args.mode) c.args.range.low c.args.range.high _ _ _ c.loop-price.tally (g.met.L.Ladder.within c.args.self.now.ladder.now) old.1 to

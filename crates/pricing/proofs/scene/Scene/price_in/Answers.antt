-- What the tally comes to is the price of the choice.
use Rattle.pricing.specs.Scenes.{scene_of}
use Rattle.pricing.proofs.Bests.{told}
use Rattle.pricing.proofs.scene.Scene.price_in.Goals as goal

pub returns : goal.returns
returns g c =
    let x = scene_of g.L.Ladder.permitted g.M.ShownMarket.shown c.args.self.now in
    told x c.args.mode c.args.range (g.met.M.ShownMarket.worsens c.args.self.now.market.now) (g.met.L.Ladder.within c.args.self.now.ladder.now) c.walk.result c.walk.ensures c.settle.result c.settle.ensures

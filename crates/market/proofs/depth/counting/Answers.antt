-- A table of fewer levels is taken whole.
use Rattle.market.specs.Depths.{cut}
use Rattle.market.proofs.depth.counting.Goals as goal

pub returns : goal.returns
returns c = cut c.args.levels.now 64 c.min-top.result c.min-top.ensures

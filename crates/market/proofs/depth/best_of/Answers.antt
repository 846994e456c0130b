-- The foremost level has the best price.
use Rattle.std.proofs.Common.{rules}
use Rattle.market.proofs.Placed.{best-of-foremost}
use Rattle.market.proofs.depth.best_of.Goals as goal

pub returns : goal.returns
returns c = best-of-foremost c.args.side c.args.levels.now c.foremost.result c.map.result c.foremost.ensures (search rules)

-- The best price of the levels that count.
use Rattle.std.proofs.Common.{take}
use Rattle.market.specs.Levels.{levels_show}
use Rattle.market.proofs.Bests.{best-at}
use Rattle.market.proofs.depth.DepthTableShownMarket.best.Goals as goal

pub returns : goal.returns
returns g c =
    let ls = take 64 (g.T.Table.levels c.args.self.now.table) in
    record {
      answer = c.best_level.ensures;
      first = best-at c.args.side (levels_show c.args.side ls) _ c.best_level.ensures;
    }

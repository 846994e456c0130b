-- One level more.
use Rattle.std.proofs.Common.{◌+◌, ◌-◌, get_or, take, ap, ◌∙◌, arith}
use Rattle.std.proofs.lemmas.List.{take_all}
use Rattle.market.specs.Counts.{counted}
use Rattle.market.specs.Levels.{levels_show, level_shows, blank}
use Rattle.market.proofs.Sends.{counted-few, counted-more}
use Rattle.market.specs.Depths.{show-more}
use Rattle.market.proofs.depth.count_of.Goals as goal

pub loop-level-preserved : goal.loop-level-preserved
loop-level-preserved c =
    let d = c.args.side in
    let ls = c.args.levels.now in
    let i = c.loop-level.level-index in (
      omega (arith, c.loop-level.invariant.0, c.count-total.ensures, counted-few (level_shows d (get_or ls i blank)) c.args.price (c.args.n - c.loop-level.total)),
      counted-more (levels_show d (take i ls)) (level_shows d (get_or ls i blank)) (levels_show d (take (i + 1) ls)) c.args.price c.args.n c.loop-level.total c.count-total.result
          (show-more d ls i c.loop-level-test.true c.args.price) c.loop-level.invariant.1 c.count-total.ensures,
    )

pub returns : goal.returns
returns c =
    c.loop-level.invariant.1 ∙ ap (λ xs. counted (levels_show c.args.side xs) c.args.price c.args.n) (take_all c.loop-level.level-index c.args.levels.now c.loop-level-test.false)

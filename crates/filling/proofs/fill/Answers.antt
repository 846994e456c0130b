-- The proof of `fill`.
use Rattle.std.proofs.Common.{◌≡◌, None, ap, ◌∙◌}
use Rattle.book.specs.Ranks.{of_side}
use Rattle.book.specs.Books.{rows_of}
use Rattle.levels.specs.Levels.{next_rank}
use Rattle.filling.proofs.Filling.{fill-begun, fill-turn, fill-ended, fill-levels, fill-traded, fill-priority}
use Rattle.filling.proofs.fill.Goals as goal

pub loop-at-init : goal.loop-at-init
loop-at-init g c = fill-begun (g.R.SharingRule.shares c.args.rule.now) c.args.side c.args.upto c.args.volume (rows_of c.args.book.now)

pub loop-at-preserved : goal.loop-at-preserved
loop-at-preserved g c =
    fill-turn (g.R.SharingRule.shares c.args.rule.now) c.args.side c.args.upto c.args.volume (rows_of c.args.book.now) c.loop-at.from c.in-Some.at c.loop-at.rest (rows_of c.loop-at.book) (rows_of c.fill_level-contracts.new.book) c.rest_after-rest.result c.fill_level-contracts.result
    c.loop-at.invariant (c.in-Some.ensures.is ∙ ap (next_rank (of_side c.args.side) c.loop-at.from c.args.upto) c.rows.ensures)
    c.fill_level-contracts.ensures.rows c.fill_level-contracts.ensures.contracts c.rest_after-rest.ensures

pub returns : goal.returns
returns g c =
    let shares = g.R.SharingRule.shares c.args.rule.now in
    let met = g.met.R.SharingRule in
    let start = rows_of c.args.book.now in
    let end = rows_of c.loop-at.book in
    let none : None ≡ next_rank (of_side c.args.side) c.loop-at.from c.args.upto end = c.in_default.ensures.is ∙ ap (next_rank (of_side c.args.side) c.loop-at.from c.args.upto) c.rows.ensures in
    let rows = fill-ended shares c.args.side c.args.upto c.args.volume start c.loop-at.from c.loop-at.rest end c.loop-at.invariant none in
    let rule = c.args.rule.now in
    record {
      rows = rows;
      levels = fill-levels shares (met.each rule) (met.within rule) (met.whole rule) c.args.side c.args.upto c.args.volume start end rows;
      traded = fill-traded shares (met.each rule) (met.within rule) (met.whole rule) c.args.side c.args.upto c.args.volume start end rows;
      priority = fill-priority shares (met.each rule) (met.within rule) (met.whole rule) c.args.side c.args.upto c.args.volume start end rows;
    }

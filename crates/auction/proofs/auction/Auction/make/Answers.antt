-- No call leads to what is made.
use Rattle.std.proofs.Common.{List, [], sym, subst}
use Rattle.book.specs.declared.row.Row.{Row}
use Rattle.stages.specs.declared.stage.Stage.TheVariants.{Waiting}
use Rattle.runs.specs.States.{State}
use Rattle.runs.specs.Laws.{Run}
use Rattle.runs.specs.Laws.Run.{made}
use Rattle.auction.proofs.auction.Auction.make.Goals as goal

pub returns-clause-run : goal.returns-clause-run
returns-clause-run g c =
    let at : List Row → State = λ rows. record { rows = rows; stage = Waiting; last = 0 } in
    subst (λ (rows : List Row). Run (record { permitted = g.L.Ladder.permitted c.args.ladder; shares = g.R.SharingRule.shares c.args.rule; settings = c.args.settings }) [] (at rows)) (sym c.new.ensures) made

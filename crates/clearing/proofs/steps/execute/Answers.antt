-- The proof of `execute`.
use Rattle.std.proofs.Common.{ap, ◌∙◌, arith}
use Rattle.interest.specs.Sides.{opposite}
use Rattle.book.specs.Books.{rows_of}
use Rattle.clearing.specs.Openings.{routed_on}
use Rattle.clearing.proofs.BothSides.{fill-routed}
use Rattle.clearing.proofs.steps.execute.Goals as goal

-- filling sends nothing
pub returns-in-Some-2-clause-counts : goal.returns-in-Some-2-clause-counts
returns-in-Some-2-clause-counts g c side q =
    let none_sent = ap (routed_on (opposite side)) c.fill_at.ensures ∙ fill-routed (g.R.SharingRule.shares c.args.rule.now) c.in-Some-2.p.cents c.args.volume (rows_of c.args.book.now) (opposite side) in
    omega (arith, none_sent)

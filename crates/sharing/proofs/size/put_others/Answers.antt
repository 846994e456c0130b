-- One row more is chosen with each turn.
use Rattle.std.proofs.Common.{◌∙◌, arith}
use Rattle.sharing.specs.Choosings.{chosen_more, chosen-end}
use Rattle.sharing.proofs.size.put_others.Goals as goal

pub loop-i-preserved : goal.loop-i-preserved
loop-i-preserved c =
    chosen_more c.args.rows.now c.loop-i.shares c.args.others.now c.loop-i.i c.share_for.result _ (omega arith) (omega arith) (omega arith) c.share_for.ensures ∙ c.loop-i.invariant

pub returns : goal.returns
returns c =
    chosen-end c.args.rows.now c.loop-i.shares c.args.others.now c.loop-i.i (omega arith) (omega arith) ∙ c.loop-i.invariant

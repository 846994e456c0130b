-- The claims are those of the definition.
use Rattle.std.proofs.Common.{◌∙◌}
use Rattle.sharing.proofs.ClaimFacts.{pro_rata-by}
use Rattle.sharing.proofs.size.share_pro_rata.Goals as goal

pub returns : goal.returns
returns c =
    let sizes = c.args.sizes.now in
    c.by_rank.ensures ∙ pro_rata-by c.args.quantity sizes.each.items c.on.result.given sizes.whole c.on.result.each.items sizes.sum c.on.ensures.given c.on.ensures.sizes c.on.ensures.parts

-- The sizes are few and small enough for their sum to fit.
use Rattle.std.proofs.Common.{◌∙◌, arith}
use Rattle.std.proofs.lemmas.Iterator.{YieldsList-from_slice}
use Rattle.std.proofs.lemmas.Iterator.Consumers.{sum_from_yields_List, fits_from_yields_list}
use Rattle.sharing.proofs.Sums.{sum-is-total}
use Rattle.sharing.proofs.sizes.Sizes.of.Goals as goal

pub sum-whole-requires-clause-fits : goal.sum-whole-requires-clause-fits
sum-whole-requires-clause-fits g c =
    let each = c.sizes_where-each.result.items in
    fits_from_yields_list c.iter.result _ (YieldsList-from_slice each cc) (omega (arith, sum-is-total each, c.sizes_where-each.ensures.small))

pub invariant_of-result : goal.invariant_of-result
invariant_of-result g c =
    let each = c.sizes_where-each.result.items in
    let whole = sum_from_yields_List c.iter.result c.sum-whole.result c.sum-whole.ensures.ran (YieldsList-from_slice each cc) ∙ sum-is-total each in
    record { sum = whole; small = omega (arith, whole, c.sizes_where-each.ensures.small) }

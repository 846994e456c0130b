-- The parts are no larger than the sizes, whose whole fits.
use Rattle.std.proofs.Common.{ap, arith}
use Rattle.sharing.specs.Totals.{total}
use Rattle.sharing.specs.PartFacts.{parts-le}
use Rattle.sharing.specs.Ranked.{sizes_in, parts_in}
use Rattle.sharing.proofs.Sums.{sum-is-total}
use Rattle.sharing.proofs.ranks.Claims.on.Goals as goal

pub invariant_of-result : goal.invariant_of-result
invariant_of-result c =
    let sizes = c.args.sizes.now in
    let claims = c.claims_of.result.items in
    let ratio = c.of-ratio.result in
    record {
      sizes = omega (arith, ap total c.claims_of.ensures.sizes, sum-is-total (sizes_in claims), sizes.sum, sizes.small);
      parts = omega (arith, ap total c.claims_of.ensures.parts, sum-is-total (parts_in claims), parts-le ratio.given ratio.whole ratio.within sizes.each.items, sizes.sum, sizes.small);
    }

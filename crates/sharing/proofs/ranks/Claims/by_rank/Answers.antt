-- The parts of some of the claims are no more than those of all, which fit.
use Rattle.std.proofs.Common.{◌+◌, ◌-◌, length, get_or, take, drop, sum, ap, arith}
use Rattle.sharing.specs.Ranked.{sizes_in, parts_in}
use Rattle.sharing.proofs.ClaimFacts.{claimed_in-le, front-le, back-le, size-le}
use Rattle.sharing.proofs.ranks.Claims.by_rank.Goals as goal

pub claimed_from-earlier-requires : goal.claimed_from-earlier-requires
claimed_from-earlier-requires c =
    let claims = c.as_slice-claims.result.now in
    omega (arith, front-le c.loop-i.i claims, ap (λ w. sum (parts_in w)) c.as_slice-claims.ensures.value, c.args.self.now.parts)

pub overflow_add-claim : goal.overflow_add-claim
overflow_add-claim c =
    let claims = c.as_slice-claims.result.now in
    omega (arith, size-le claims c.loop-i.i (record { size = 0; part = 0 }) c.loop-i-test.true, ap (λ w. sum (sizes_in w)) c.as_slice-claims.ensures.value, c.args.self.now.sizes)

pub claimed_from-later-requires : goal.claimed_from-later-requires
claimed_from-later-requires c =
    let claims = c.as_slice-claims.result.now in
    let from = c.loop-i.i + 1 in
    omega (arith, front-le (length claims - from) (drop from claims), back-le from claims, ap (λ w. sum (parts_in w)) c.as_slice-claims.ensures.value, c.args.self.now.parts)

pub overflow_add-earlier : goal.overflow_add-earlier
overflow_add-earlier c =
    let claims = c.as_slice-claims.result.now in
    let from = c.loop-i.i + 1 in
    let later = drop from claims in
    let size = (get_or claims c.loop-i.i (record { size = 0; part = 0 })).size in
    omega (
      arith,
      c.claimed_from-earlier.ensures,
      c.claimed_from-later.ensures,
      claimed_in-le size (take c.loop-i.i claims),
      claimed_in-le (size + 1) (take (length claims - from) later),
      front-le c.loop-i.i claims,
      front-le (length claims - from) later,
      back-le from claims,
      ap (λ w. sum (parts_in w)) c.as_slice-claims.ensures.value,
      c.args.self.now.parts,
    )

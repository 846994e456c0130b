-- The parts that are summed are no more than all of them, which fit.
use Rattle.std.proofs.Common.{ℕ, cond, nat_le, ◌∙◌, arith, rules, tests}
use Rattle.std.proofs.lemmas.Iterator.{YieldsList-from_slice, YieldsList-from_map}
use Rattle.std.proofs.lemmas.Iterator.Consumers.{YieldsList-at, fits_by_from_yields_list, sum_by_from_yields_List}
use Rattle.sharing.specs.declared.ranks.Claim.{Claim}
use Rattle.sharing.proofs.ClaimFacts.{claimed_in-each, claimed_in-le}
use Rattle.sharing.proofs.ranks.claimed_from.Goals as goal

pub sum-requires-clause-fits : goal.sum-requires-clause-fits
sum-requires-clause-fits c =
    let claims = c.args.claims.now in
    let from = c.args.from in
    let counted : Claim → ℕ = λ x. cond (nat_le from x.size) x.part 0 in
    fits_by_from_yields_list counted claims c.map.result _
    (YieldsList-from_map _ counted (YieldsList-at c.map.ensures.source (YieldsList-from_slice claims cc)) c.map.ensures.closure (λ x r q k. search (rules, tests)))
    (omega (arith, claimed_in-each from claims, claimed_in-le from claims, c.requires))

pub returns : goal.returns
returns c =
    let claims = c.args.claims.now in
    let from = c.args.from in
    let counted : Claim → ℕ = λ x. cond (nat_le from x.size) x.part 0 in
    sum_by_from_yields_List counted claims c.map.result c.sum.result c.sum.ensures.ran
    (YieldsList-from_map _ counted (YieldsList-at c.map.ensures.source (YieldsList-from_slice claims cc)) c.map.ensures.closure (λ x r q k. search (rules, tests)))
    ∙ claimed_in-each from claims

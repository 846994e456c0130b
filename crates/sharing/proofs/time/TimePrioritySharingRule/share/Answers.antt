-- Every row counts.
use Rattle.std.proofs.Common.{true, length, ap, ◌∙◌, rules, arith}
use Rattle.sharing.specs.InOrder.{in_order}
use Rattle.sharing.proofs.Sums.{given_back}
use Rattle.sharing.proofs.time.TimePrioritySharingRule.share.Goals as goal

pub returns : goal.returns
returns c =
    let lent = c.as_mut_slice.ensures.value in
    given_back c.sizes_where-shares.result.items c.fill_in_order.new.shares (omega (arith, c.fill_in_order.auto.shares, ap length lent))
    ∙ c.fill_in_order.ensures.shares
    ∙ ap (in_order c.args.quantity) (lent ∙ c.sizes_where-shares.ensures.sizes (λ _. true) (λ class b k. search rules))

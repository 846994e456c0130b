-- The customers' shares, and with the others' put in those of the definition, so shared by size.
use Rattle.std.proofs.Common.{◌≡◌, ◌-◌, ℕ, List, length, sym, ap, ap₂, ◌∙◌, subst, rules, tests, arith}
use Rattle.sharing.specs.Levels.{rows_of}
use Rattle.sharing.specs.Totals.{total}
use Rattle.sharing.specs.Sizes.{of_customer, of_other, sizes_where}
use Rattle.sharing.specs.InOrder.{in_order}
use Rattle.sharing.specs.ProRata.{chosen, pro_rata, after_customers}
use Rattle.sharing.specs.Promises.{SharedBySize}
use Rattle.sharing.specs.Keeping.{long-customers, long-others, shared-by-size}
use Rattle.sharing.proofs.Sums.{given_back}
use Rattle.sharing.proofs.size.SizeProRataSharingRule.share.Goals as goal

pub put_others-requires-clause-long : goal.put_others-requires-clause-long
put_others-requires-clause-long c =
    let q = c.args.quantity in
    let rows = rows_of c.args.level.now in
    let sizes = c.as_mut_slice.ensures.value ∙ c.sizes_where-shares.ensures.sizes of_customer (λ class b k. search (rules, tests)) in
    ap length (c.as_mut_slice-2.ensures.value ∙ given_back c.sizes_where-shares.result.items c.fill_in_order-left.new.shares (omega (arith, c.fill_in_order-left.auto.shares, ap length c.as_mut_slice.ensures.value)) ∙ c.fill_in_order-left.ensures.shares ∙ ap (in_order q) sizes) ∙ long-customers q rows ∙ ap length (sym c.holdings.ensures.rows)

pub put_others-requires-clause-same : goal.put_others-requires-clause-same
put_others-requires-clause-same c =
    let q = c.args.quantity in
    let rows = rows_of c.args.level.now in
    let sizes = c.as_mut_slice.ensures.value ∙ c.sizes_where-shares.ensures.sizes of_customer (λ class b k. search (rules, tests)) in
    let left : c.fill_in_order-left.result ≡ after_customers q rows = c.fill_in_order-left.ensures.left ∙ ap (λ w. q - total w) sizes in
    let others : c.of.result.each.items ≡ sizes_where of_other rows = c.of.ensures of_other (λ class b k. search (rules, tests)) in
    ap length (search rules ∙ c.share_pro_rata-others.ensures ∙ ap₂ pro_rata left others) ∙ long-others q rows ∙ ap length (sym c.holdings.ensures.rows)

pub returns-clause-shares : goal.returns-clause-shares
returns-clause-shares c =
    let q = c.args.quantity in
    let rows = rows_of c.args.level.now in
    let sizes = c.as_mut_slice.ensures.value ∙ c.sizes_where-shares.ensures.sizes of_customer (λ class b k. search (rules, tests)) in
    let left : c.fill_in_order-left.result ≡ after_customers q rows = c.fill_in_order-left.ensures.left ∙ ap (λ w. q - total w) sizes in
    let others : c.of.result.each.items ≡ sizes_where of_other rows = c.of.ensures of_other (λ class b k. search (rules, tests)) in
    let customers : c.as_mut_slice-2.result.now ≡ in_order q (sizes_where of_customer rows) = c.as_mut_slice-2.ensures.value ∙ given_back c.sizes_where-shares.result.items c.fill_in_order-left.new.shares (omega (arith, c.fill_in_order-left.auto.shares, ap length c.as_mut_slice.ensures.value)) ∙ c.fill_in_order-left.ensures.shares ∙ ap (in_order q) sizes in
    given_back _ c.put_others.new.shares (omega (arith, c.put_others.auto.shares, ap length c.as_mut_slice-2.ensures.value))
    ∙ c.put_others.ensures
    ∙ ap₂ (λ r cs. chosen r cs c.deref.result.now) c.holdings.ensures.rows customers
    ∙ ap (chosen rows (in_order q (sizes_where of_customer rows))) (search rules ∙ c.share_pro_rata-others.ensures ∙ ap₂ pro_rata left others)

pub returns-clause-turns : goal.returns-clause-turns
returns-clause-turns c =
    let q = c.args.quantity in
    let rows = rows_of c.args.level.now in
    subst (λ (w : List ℕ). SharedBySize q rows w) (sym (returns-clause-shares c)) (shared-by-size q rows)

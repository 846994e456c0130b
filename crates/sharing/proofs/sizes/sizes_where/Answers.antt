-- One size more with each turn.
use Rattle.std.proofs.Common.{◌≡◌, ◌+◌, cond, List, get_or, take, sym, ap, ◌∙◌, arith, rules}
use Rattle.interest.specs.declared.Class.TheVariants.{Routable}
use Rattle.sharing.specs.declared.level.Holding.{Holding}
use Rattle.sharing.specs.Sizes.{sizes_where}
use Rattle.sharing.proofs.Sums.{total-more, sizes-more}
use Rattle.sharing.proofs.sizes.sizes_where.Goals as goal
use Rattle.sharing.proofs.sizes.sizes_where.Goals.{then-counts, else-counts}

pub loop-row-preserved : goal.loop-row-preserved
loop-row-preserved g c =
    let rows = c.holdings-row-items.result.now in
    let is = c.holdings-row-items.ensures.rows in
    let i = c.loop-row.row-index in
    let before = c.loop-row.each.items in
    let after = c.push.new.self.items in
    let d : Holding = record { class = Routable; size = 0 } in
    let size : c.if-counts.push ≡ cond c.counts.result (get_or rows i d).size 0 = elim c.if-counts.branch [ then-counts w ↦ grind arith | else-counts w ↦ grind arith ] in
    record {
      count = search rules;
      sizes = λ test says.
          sizes-more test rows before after i c.if-counts.push c.counts.result d c.loop-row-test.true size (says _ _ c.counts.ensures) c.push.ensures.items
          (c.loop-row.invariant.sizes test says ∙ ap (λ (w : List Holding). sizes_where test (take i w)) (sym is))
          ∙ ap (λ (w : List Holding). sizes_where test (take (i + 1) w)) is;
      small = total-more rows before after i c.if-counts.push c.counts.result d c.holdings-row-items.ensures.sound c.loop-row-test.true size c.push.ensures.items c.loop-row.invariant.small;
    }

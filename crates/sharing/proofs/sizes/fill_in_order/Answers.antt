-- One share more with each turn.
use Rattle.std.proofs.Common.{◌≡◌, [], drop, ap, ◌∙◌, arith}
use Rattle.std.proofs.lemmas.List.{drop_all}
use Rattle.sharing.specs.Totals.{total}
use Rattle.sharing.specs.InOrders.{order-more, order-end, left-more}
use Rattle.sharing.proofs.sizes.fill_in_order.Goals as goal

pub loop-share-preserved : goal.loop-share-preserved
loop-share-preserved c =
    let l = c.loop-share in (
      order-more l.shares l.share-index l.left c.min.result (omega arith) c.min.ensures ∙ l.invariant.0,
      left-more l.shares l.share-index l.left c.min.result (omega arith) c.min.ensures ∙ l.invariant.1,
    )

pub returns : goal.returns
returns c =
    let l = c.loop-share in
    let none : drop l.share-index l.shares ≡ [] = drop_all l.share-index l.shares (omega arith) in
    record {
      shares = order-end l.shares l.share-index l.left (omega arith) ∙ l.invariant.0;
      left = omega (arith, l.invariant.1, ap total none);
    }

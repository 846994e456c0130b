-- The shares so far and those of what is left make all; so does what is left.
use Rattle.std.proofs.Common.{◌≡◌, ◌-◌, ◌++◌, take, drop}
use Rattle.sharing.specs.Totals.{total}
use Rattle.sharing.specs.InOrder.{in_order}
use Rattle.sharing.proofs.sizes.fill_in_order.Given as goal

abbrev pub invariant-loop-share : goal.invariant-loop-share
invariant-loop-share l =
    (take l.share-index l.shares ++ in_order l.left (drop l.share-index l.shares) ≡ in_order l.quantity l.initial.shares)
    × (l.left - total (drop l.share-index l.shares) ≡ l.quantity - total l.initial.shares)

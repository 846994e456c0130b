-- The sums of the rows so far.
use Rattle.std.proofs.Common.{◌≡◌, ◌≤◌, length, take}
use Rattle.interest.specs.declared.Side.TheVariants.{Buy, Sell}
use Rattle.book.specs.Ranks.{interest_at, routable_at}
use Rattle.book.proofs.book.Book.depth_at.Given as goal

abbrev pub invariant-loop-row : goal.invariant-loop-row
invariant-loop-row l =
    (l.buys ≡ interest_at Buy l.price (take l.row-index l.row-items))
    × (l.sells ≡ interest_at Sell l.price (take l.row-index l.row-items))
    × (l.routable_buys ≡ routable_at Buy l.price (take l.row-index l.row-items))
    × (l.routable_sells ≡ routable_at Sell l.price (take l.row-index l.row-items))
    × (l.row-index ≤ length l.row-items)

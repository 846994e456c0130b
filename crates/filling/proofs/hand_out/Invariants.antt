-- What the loop of `hand_out` keeps.
use Rattle.std.proofs.Common.{◌≡◌, ◌++◌, length, take, drop}
use Rattle.std.specs.Slice.Iter.{iter_rest}
use Rattle.book.specs.Ranks.{of_side}
use Rattle.book.specs.Books.{rows_of}
use Rattle.book.specs.Rewrites.{trade_row}
use Rattle.levels.specs.Deals.{deal}
use Rattle.filling.proofs.hand_out.Given as goal

abbrev pub invariant-loop-i : goal.invariant-loop-i
invariant-loop-i l = record {
  count : length (rows_of l.book) ≡ l.i-end;
  rows : take l.i (rows_of l.book) ++ deal (of_side l.side) trade_row l.at (iter_rest l.rest) 0 (drop l.i (rows_of l.book)) ≡ deal (of_side l.side) trade_row l.at l.shares 0 (rows_of l.initial.book);
}

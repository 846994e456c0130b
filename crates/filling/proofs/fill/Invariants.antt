-- What the loop of `fill` keeps.
use Rattle.std.proofs.Common.{◌-◌}
use Rattle.book.specs.Books.{rows_of}
use Rattle.filling.proofs.Filling.{Filling}
use Rattle.filling.proofs.fill.Given as goal

abbrev pub invariant-loop-at : goal.invariant-loop-at
invariant-loop-at g l = Filling (g.R.SharingRule.shares l.rule) l.side l.upto l.volume (rows_of l.initial.book) (rows_of l.book) l.from l.rest

abbrev pub decreases-loop-at : goal.decreases-loop-at
decreases-loop-at g l = l.upto - l.from

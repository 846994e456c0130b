-- The rows so far have their sizes.
use Rattle.std.proofs.Common.{◌≡◌, ◌*◌, ◌≤◌, Bool, length, take}
use Rattle.interest.specs.declared.Class.{Class}
use Rattle.sharing.specs.Totals.{total}
use Rattle.sharing.specs.Sizes.{AnswersAs, sizes_where}
use Rattle.sharing.proofs.sizes.sizes_where.Given as goal

abbrev pub invariant-loop-row : goal.invariant-loop-row
invariant-loop-row g l = record {
  count : length l.each.items ≡ l.row-index;
  sizes : (test : Class → Bool) → AnswersAs test (goal.F-post g l.counts) → l.each.items ≡ sizes_where test (take l.row-index l.level.rows.items);
  small : total l.each.items ≤ l.row-index * 1000000;
}

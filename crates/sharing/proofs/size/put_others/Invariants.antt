-- The rows so far have their shares, the rest are to be chosen.
use Rattle.std.proofs.Common.{◌≡◌, ◌++◌, take, drop}
use Rattle.sharing.specs.ProRata.{chosen}
use Rattle.sharing.proofs.size.put_others.Given as goal

abbrev pub invariant-loop-i : goal.invariant-loop-i
invariant-loop-i l = take l.i l.shares ++ chosen (drop l.i l.rows) (drop l.i l.shares) (drop l.i l.others) ≡ chosen l.rows l.initial.shares l.others

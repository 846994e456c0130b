-- What the lines to come name is what the table names.
use Rattle.std.proofs.Common.{◌≡◌, drop}
use Rattle.script.specs.Names.{looked_up}
use Rattle.script.proofs.names.named.Given as goal

abbrev pub invariant-loop-name : goal.invariant-loop-name
invariant-loop-name g l = looked_up (λ line. line.0.now) (λ line. line.1) l.word (drop l.name-index l.table) ≡ looked_up (λ line. line.0.now) (λ line. line.1) l.word l.table

-- The number so far, with the digits to come, is the number.
use Rattle.std.proofs.Common.{◌≡◌, drop, Some}
use Rattle.script.specs.Texts.{digits}
use Rattle.script.proofs.text.number.Given as goal

abbrev pub invariant-loop-byte : goal.invariant-loop-byte
invariant-loop-byte l = digits (Some l.value) (drop l.byte-index l.word) ≡ digits (Some 0) l.word

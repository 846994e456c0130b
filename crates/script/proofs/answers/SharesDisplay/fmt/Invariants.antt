-- What is written so far is the text of the shares so far.
use Rattle.std.proofs.Common.{take}
use Rattle.std.specs.Fmt.{HasWritten, IsPlainFormatter}
use Rattle.script.specs.AnswerTexts.{shares_text}
use Rattle.script.proofs.answers.SharesDisplay.fmt.Given as goal

abbrev pub invariant-loop-share : goal.invariant-loop-share
invariant-loop-share g l = IsPlainFormatter l.fn.f → HasWritten g.W.Write.write_str_gives l.fn.f (shares_text (take l.share-index l.self.0.now)) l.f

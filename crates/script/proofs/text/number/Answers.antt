-- Digit by digit.
use Rattle.std.proofs.Common.{ℕ, ◌+◌, List, drop, Some, Option, sym, ap, ◌∙◌}
use Rattle.std.proofs.lemmas.List.{drop_all}
use Rattle.script.specs.Texts.{digits}
use Rattle.script.proofs.TextFacts.{digits-none, digits_more, numeral-of-some}
use Rattle.script.proofs.text.number.Goals as goal

pub returns-in_err-value : goal.returns-in_err-value
returns-in_err-value c =
    let whole = numeral-of-some c.args.word.now (sym c.if-is_empty.ensures) in
    let more = digits_more c.args.word.now c.loop-byte.byte-index c.loop-byte.value c.loop-byte-test.true in
    let none = ap (λ (v : Option ℕ). digits v (drop (c.loop-byte.byte-index + 1) c.args.word.now)) (sym c.in_err-value.ensures) in
    rw c.from_residual.ensures (sym (whole ∙ sym c.loop-byte.invariant ∙ more ∙ none ∙ digits-none (drop (c.loop-byte.byte-index + 1) c.args.word.now)))

pub loop-byte-preserved : goal.loop-byte-preserved
loop-byte-preserved c =
    let more = digits_more c.args.word.now c.loop-byte.byte-index c.loop-byte.value c.loop-byte-test.true in
    let next = ap (λ (v : Option ℕ). digits v (drop (c.loop-byte.byte-index + 1) c.args.word.now)) c.in_ok-value.ensures in
    next ∙ sym more ∙ c.loop-byte.invariant

pub returns : goal.returns
returns c =
    let whole = numeral-of-some c.args.word.now (sym c.if-is_empty.ensures) in
    let end = ap (λ (bs : List ℕ). digits (Some c.loop-byte.value) bs) (drop_all c.loop-byte.byte-index c.args.word.now c.loop-byte-test.false) in
    sym (whole ∙ sym c.loop-byte.invariant ∙ end)

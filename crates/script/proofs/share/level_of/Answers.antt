-- Row by row.
use Rattle.std.proofs.Common.{◌≡◌, Bool, true, cond, [], ◌∷◌, ◌++◌, length, is_ok, sym, ap, ◌∙◌, arith}
use Rattle.std.specs.Slice.Iter.{chunks_rest}
use Rattle.sharing.specs.Levels.{rows_of}
use Rattle.script.proofs.ShareFacts.{rows_chunk}
use Rattle.script.proofs.share.level_of.Goals as goal

pub loop-row-preserved : goal.loop-row-preserved
loop-row-preserved c =
    let steps = c.in-Some.ensures.steps in
    let row = c.in_ok-holding_of.field-0 in
    let two : length c.in-Some.row.now ≡ 2 = omega arith in
    let taken : is_ok c.push.result ≡ true = sym c.in_ok-ok.ensures.variant in
    let rows : rows_of c.push.new.self ≡ rows_of c.loop-row.level ++ row ∷ [] = c.push.ensures.rows ∙ ap (λ (b : Bool). cond b (rows_of c.loop-row.level ++ row ∷ []) (rows_of c.loop-row.level)) taken in
    (steps.0 ∙ c.loop-row.invariant.0, rw rows (rows_chunk (λ x. x.now) (rows_of c.loop-row.level) c.in-Some.row.now (chunks_rest c.next.new.self) (chunks_rest c.loop-row.row-iterator) (record { ref_ptr = (0, 0); now = [] }) row _ steps.1.0 two c.in_ok-holding_of.ensures (sym (ap (λ r. is_ok r) c.push.ensures.answer) ∙ taken) c.loop-row.invariant.1))

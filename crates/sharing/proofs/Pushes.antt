-- A row more.
use Rattle.std.proofs.Common.{◌≡◌, true, List, [], ◌∷◌, ◌++◌, Ok, Err, Result, OnOk, OnErr, refl, ap, ◌∙◌}
use Rattle.std.proofs.lemmas.Bool.{and_parts, and_from}
use Rattle.arrayvec.specs.ArrayVec.{ArrayVec}
use Rattle.interest.specs.Bounds.{sized}
use Rattle.sharing.specs.declared.level.Holding.{Holding}
use Rattle.sharing.specs.Holdings.{all_sized}

sized-push : (rows : List Holding) (h : Holding) → all_sized rows ≡ true → sized h.size ≡ true → all_sized (rows ++ h ∷ []) ≡ true
sized-push [] h e f = and_from _ _ f refl
sized-push (x ∷ rows) h e f = let p = and_parts _ _ e in and_from _ _ p.0 (sized-push rows h p.1 f)

-- whether the row was taken or not, the rows are sized
pub sound-push : {E : Type 0} (old : ArrayVec Holding) (h : Holding) (r : Result (Unit {0}) E) (new : ArrayVec Holding) → all_sized old.items ≡ true → sized h.size ≡ true
    → OnOk r (new.items ≡ old.items ++ h ∷ []) → OnErr r (new ≡ old) → all_sized new.items ≡ true
sound-push old h (Ok x) new sound fit ok err = ap all_sized ok ∙ sized-push old.items h sound fit
sound-push old h (Err x) new sound fit ok err = ap (λ (v : ArrayVec Holding). all_sized v.items) err ∙ sound

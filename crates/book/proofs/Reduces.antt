-- What `reduce` answers where its closure computes a function.
use denote.Param.Members.{Mut}
use Rattle.std.proofs.Common.{◌≡◌, List, [], ◌∷◌, Some, None, Option, refl, ap, subst}
use Rattle.std.specs.Fn.{Called}
use Rattle.std.specs.Iterator.{FoldTurn, ReducesItems}
use Rattle.std.specs.List.{FoldsTo, reduce}
use Rattle.std.proofs.lemmas.Iterator.{YieldsList}
use Rattle.std.proofs.lemmas.Iterator.Consumers.{reduce_from_yields_List}

turns : {F A : Type 0} (g : Mut F (A × (A × Unit {0})) A) (h : A → A → A) (f : F) → ((a x b : A) (q : F) → Called g f (a, (x, tt)) b q → (q ≡ f) × (b ≡ h a x)) → (xs : List A) (p q : F × A) → p.0 ≡ f → FoldsTo {P = F × A} (FoldTurn g) p xs q → FoldsTo (λ a x b. b ≡ h a x) p.1 xs q.1
turns g h f k [] p q same c = ap (λ w. w.1) c
turns g h f k (x ∷ xs) p q same c =
    let now = k p.1 x c.0.1 c.0.0 (subst (λ w. Called g w (p.1, (x, tt)) c.0.1 c.0.0) same c.1) in
    (c.0.1, now.1, turns g h f k xs c.0 q now.0 c.2)

pub reduced_from_yields_List : {S A F : Type 0} {steps : S → Option A → S → Type 0} {all : List A} (g : Mut F (A × (A × Unit {0})) A) (h : A → A → A) {f : F} (s : S) (r : Option A) → ReducesItems steps g s f r → YieldsList steps (λ x. x) s all → ((a x b : A) (q : F) → Called g f (a, (x, tt)) b q → (q ≡ f) × (b ≡ h a x)) → r ≡ reduce h all
reduced_from_yields_List g h s None d e k = reduce_from_yields_List h s None d e
reduced_from_yields_List g h {f} s (Some y) d e k = reduce_from_yields_List h s (Some y) (d.0, d.1, d.3, turns g h f k d.1 (f, d.0) (d.2, y) refl d.4) e

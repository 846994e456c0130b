-- The best of two markets together.
use Rattle.std.proofs.Common.{◌≡◌, ℕ, ◌+◌, Bool, true, false, cond, Some, None, Option, ◌∙◌, arith}
use Rattle.std.proofs.lemmas.Bool.{cond-false, cond_both, leb-true, leb-false}
use Rattle.interest.specs.declared.Side.{Side}
use Rattle.interest.specs.declared.Side.TheVariants.{Buy, Sell}
use Rattle.market.specs.Counts.{Better, reaches, better_of, best_of, Best}
use Rattle.market.proofs.Bests.{best-is, best-at}

better-reached : (d : Side) (x y p : ℕ) → reaches d x y ≡ true → Better d p x → Better d p y
better-reached Buy x y p e b = let h = leb-true y x e in omega arith
better-reached Sell x y p e b = let h = leb-true x y e in omega arith

better-past : (d : Side) (x y p : ℕ) → reaches d x y ≡ false → Better d p y → Better d p x
better-past Buy x y p e b = let h = leb-false y x e in omega arith
better-past Sell x y p e b = let h = leb-false x y e in omega arith

pub pair-best : (d : Side) (f g : ℕ → ℕ) (a b : Option ℕ) → Best d f a → Best d g b → Best d (λ p. f p + g p) (better_of d a b)
pair-best d f g None None u v = λ p l h. omega (arith, u p l h, v p l h)
pair-best d f g None (Some y) u v = (v.0, v.1, omega (arith, v.2), λ p l h b. omega (arith, u p l h, v.3 p l h b))
pair-best d f g (Some x) None u v = (u.0, u.1, omega (arith, u.2), λ p l h b. omega (arith, v p l h, u.3 p l h b))
pair-best d f g (Some x) (Some y) u v =
    cond_both (reaches d x y) (Some x) (Some y) (λ (o : Option ℕ). Best d (λ p. f p + g p) o)
    (λ e. (u.0, u.1, omega (arith, u.2), λ p l h b. omega (arith, u.3 p l h b, v.3 p l h (better-reached d x y p e b))))
    (λ e. (v.0, v.1, omega (arith, v.2), λ p l h b. omega (arith, v.3 p l h b, u.3 p l h (better-past d x y p e b))))

pub pair-best-is : (d : Side) (f g : ℕ → ℕ) (a b r : Option ℕ) → a ≡ best_of d f → b ≡ best_of d g → r ≡ better_of d a b → r ≡ best_of d (λ p. f p + g p)
pair-best-is d f g a b r s t e =
    e ∙ best-is d (λ p. f p + g p) (better_of d a b) (pair-best d f g a b (best-at d f a s) (best-at d g b t))

pub off-best : (d : Side) (f : ℕ → ℕ) (on : Bool) → on ≡ false → None ≡ best_of d (λ p. cond on (f p) 0)
off-best d f on e = best-is d (λ p. cond on (f p) 0) None (λ p l h. cond-false on (f p) 0 e)

-- `best_of` is determined by what it says, and says it.
use Rattle.std.proofs.Common.{◌≡◌, ℕ, Bool, false, ltb, Some, None, Option, sym, subst, arith, lit≤}
use Rattle.std.proofs.lemmas.Bool.{ltb-true, ltb-false, lt-ltb, le-ltb}
use Rattle.ladder.specs.Rungs.{least_at_or_above, greatest_at_or_below, Least, Greatest}
use Rattle.ladder.proofs.Found.{least-tells, least-is, greatest-tells, greatest-is}
use Rattle.interest.specs.declared.Side.{Side}
use Rattle.interest.specs.declared.Side.TheVariants.{Buy, Sell}
use Rattle.market.specs.Counts.{best_of, Best}

abbrev some : (ℕ → ℕ) → ℕ → Bool
some f p = ltb 0 (f p)

none : (f : ℕ → ℕ) (p : ℕ) → some f p ≡ false → f p ≡ 0
none f p e = let h = ltb-false 0 (f p) e in omega arith

no : (f : ℕ → ℕ) (p : ℕ) → f p ≡ 0 → some f p ≡ false
no f p e = le-ltb 0 (f p) (omega arith)

low : (f : ℕ → ℕ) (o : Option ℕ) → Least (some f) 1 o → Best Sell f o
low f None u = λ p l h. none f p (u p l h)
low f (Some q) u = (u.0, u.1, ltb-true 0 (f q) u.2, λ p l h b. none f p (u.3 p l b))

high : (f : ℕ → ℕ) (o : Option ℕ) → Greatest (some f) 100000 o → Best Buy f o
high f None u = λ p l h. none f p (u p l h)
high f (Some q) u = (u.0, u.1, ltb-true 0 (f q) u.2, λ p l h b. none f p (u.3 p b h))

from_low : (f : ℕ → ℕ) (o : Option ℕ) → Best Sell f o → Least (some f) 1 o
from_low f None u = λ p l h. no f p (u p l h)
from_low f (Some q) u = (u.0, u.1, lt-ltb 0 (f q) u.2, λ p l h. no f p (u.3 p l (omega arith) h))

from-high : (f : ℕ → ℕ) (o : Option ℕ) → Best Buy f o → Greatest (some f) 100000 o
from-high f None u = λ p l h. no f p (u p l h)
from-high f (Some q) u = (u.0, u.1, lt-ltb 0 (f q) u.2, λ p l h. no f p (u.3 p (omega arith) h l))

pub best-tells : (d : Side) (f : ℕ → ℕ) → Best d f (best_of d f)
unfolding best_of
best-tells Buy f = high f (greatest_at_or_below (some f) 100000) (greatest-tells (some f) 100000 (lit≤ tt) (lit≤ tt))
best-tells Sell f = low f (least_at_or_above (some f) 1) (least-tells (some f) 1 (lit≤ tt) (lit≤ tt))

pub best-is : (d : Side) (f : ℕ → ℕ) (o : Option ℕ) → Best d f o → o ≡ best_of d f
unfolding best_of
best-is Buy f o u = greatest-is (some f) 100000 o (lit≤ tt) (lit≤ tt) (from-high f o u)
best-is Sell f o u = least-is (some f) 1 o (lit≤ tt) (lit≤ tt) (from_low f o u)

-- the same of a call's answer
pub best-at : (d : Side) (f : ℕ → ℕ) (o : Option ℕ) → o ≡ best_of d f → Best d f o
best-at d f o e = subst (λ (x : Option ℕ). Best d f x) (sym e) (best-tells d f)

-- Numbers, one digit more.
use Rattle.std.proofs.Common.{◌≡◌, ℕ, ◌+◌, ◌<◌, false, eqb, List, [], ◌∷◌, length, get_or, drop, Some, None, refl, ap, arith}
use Rattle.std.proofs.lemmas.List.{drop_more}
use Rattle.script.specs.Texts.{digit, digits, numeral}

-- a number that does not fit stays none
pub digits-none : (bytes : List ℕ) → digits None bytes ≡ None
digits-none [] = refl
digits-none (b ∷ bs) = digits-none bs

pub digits_more : (word : List ℕ) (i value : ℕ) → i < length word → digits (Some value) (drop i word) ≡ digits (digit value (get_or word i 0)) (drop (i + 1) word)
digits_more word i value h = ap (λ (bs : List ℕ). digits (Some value) bs) (drop_more word i 0 h)

pub numeral-of-some : (word : List ℕ) → eqb (length word) 0 ≡ false → numeral word ≡ digits (Some 0) word
numeral-of-some [] e = let z : ◌≡◌ {A = ℕ} 0 1 = cc in absurd (omega arith)
numeral-of-some (b ∷ bs) e = refl

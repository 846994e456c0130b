-- Words and numbers of a line of bytes.
use Rattle.std.specs.Prelude.{ℕ, ◌+◌, ◌-◌, ◌*◌, Bool, not, cond, ◌&&◌, ◌||◌, List, [], ◌∷◌, length, filter, Some, None, Option, ◌==◌, nat_le}
use Rattle.std.specs.List.{slice_split}

-- a space, a tab, or the end of a line
abbrev pub blank : ℕ → Bool
blank b = b == 32 || (b == 9 || (b == 13 || b == 10))

-- the words of a line: what stands between blanks, and is not empty
abbrev pub words_of : List ℕ → List (List ℕ)
words_of line = filter (λ word. not (length word == 0)) (slice_split blank line)

-- a number with one digit more, while it fits 32 bits
abbrev pub digit : ℕ → ℕ → Option ℕ
digit value byte = cond (nat_le 48 byte && (nat_le byte 57 && nat_le (value * 10 + (byte - 48)) 4294967295)) (Some (value * 10 + (byte - 48))) None

abbrev pub and_digit : Option ℕ → ℕ → Option ℕ
and_digit None byte = None
and_digit (Some value) byte = digit value byte

abbrev pub digits : Option ℕ → List ℕ → Option ℕ
digits value [] = value
digits value (b ∷ bs) = digits (and_digit value b) bs

abbrev pub numeral : List ℕ → Option ℕ
numeral [] = None
numeral (b ∷ bs) = digits (Some 0) (b ∷ bs)

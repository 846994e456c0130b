-- The sizes of rows, of those whose class counts.
use Rattle.std.specs.Prelude.{◌≡◌, ℕ, Bool, true, false, cond, not, List, map}
use Rattle.interest.specs.declared.Class.{Class}
use Rattle.interest.specs.declared.Class.TheVariants.{Routable, Fixed, Other}
use Rattle.sharing.specs.declared.level.Holding.{Holding}

-- Routable and fixed interest is a customer's.
abbrev pub of_customer : Class → Bool
of_customer Routable = true
of_customer Fixed = true
of_customer Other = false

abbrev pub of_other : Class → Bool
of_other class = not (of_customer class)

-- what a predicate over classes may answer is what a test says
abbrev pub AnswersAs : (Class → Bool) → (Class → Bool → Type 0) → Type 0
AnswersAs test answers = (class : Class) (b : Bool) → answers class b → b ≡ test class

-- the size of a row if its class counts, else 0
abbrev pub size_where : (Class → Bool) → Holding → ℕ
size_where counts h = cond (counts h.class) h.size 0

abbrev pub sizes_where : (Class → Bool) → List Holding → List ℕ
sizes_where counts rows = map (size_where counts) rows

-- The kinds of opening.
use Rattle.std.specs.Prelude.{ℕ, Bool, true, false}
use Rattle.clearing.specs.declared.opening.Kind.{Kind}
use Rattle.clearing.specs.declared.opening.Kind.TheVariants.{Plain, Quick, Exchange, Routed, Forced}

-- the number by which each is told
abbrev pub kind_number : Kind → ℕ
kind_number Plain = 1
kind_number Quick = 2
kind_number Exchange = 3
kind_number Routed = 4
kind_number Forced = 5

-- whether contracts are sent to the away market
abbrev pub routes : Kind → Bool
routes Plain = false
routes Quick = false
routes Exchange = false
routes Routed = true
routes Forced = true

abbrev pub is_forced : Kind → Bool
is_forced Plain = false
is_forced Quick = false
is_forced Exchange = false
is_forced Routed = false
is_forced Forced = true

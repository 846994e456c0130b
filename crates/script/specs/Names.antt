-- What words name.
use Rattle.std.specs.Prelude.{ℕ, Bool, true, false, cond, List, [], ◌∷◌, Some, None, codes, Option, ◌==◌}
use Rattle.std.specs.Str.{bytes_eq}
use Rattle.interest.specs.declared.Side.{Side}
use Rattle.interest.specs.declared.Side.TheVariants.{Buy, Sell}
use Rattle.interest.specs.declared.Class.{Class}
use Rattle.interest.specs.declared.Class.TheVariants.{Routable, Fixed, Other}
use Rattle.interest.specs.declared.Limit.{Limit}
use Rattle.interest.specs.declared.Limit.TheVariants.{Market, At}
use Rattle.choices.specs.declared.NamedLadder.{NamedLadder}
use Rattle.choices.specs.declared.NamedLadder.TheVariants.{Cent, Stepped}
use Rattle.choices.specs.declared.NamedRule.{NamedRule}
use Rattle.choices.specs.declared.NamedRule.TheVariants.{Time, ProRata}
use Rattle.pricing.specs.declared.figures.Mode.{Mode}
use Rattle.pricing.specs.declared.figures.Mode.TheVariants.{Exchange, Routing}
use Rattle.script.specs.Texts.{numeral}

-- what is made of a part, where it is understood
abbrev pub and_then : {A B : Type 0} → Option A → (A → Option B) → Option B
and_then None f = None
and_then (Some x) f = f x

-- the value of the first line of a table whose name a word is
abbrev pub looked_up : {A B : Type 0} → (A → List ℕ) → (A → B) → List ℕ → List A → Option B
looked_up name value w [] = None
looked_up name value w (line ∷ table) = cond (bytes_eq w (name line)) (Some (value line)) (looked_up name value w table)

abbrev pub side_named : List ℕ → Option Side
side_named w = cond (bytes_eq w (codes "bid")) (Some Buy) (cond (bytes_eq w (codes "offer")) (Some Sell) None)

abbrev pub order_side_named : List ℕ → Option Side
order_side_named w = cond (bytes_eq w (codes "buy")) (Some Buy) (cond (bytes_eq w (codes "sell")) (Some Sell) None)

abbrev pub limit_named : List ℕ → Option Limit
limit_named w = cond (bytes_eq w (codes "market")) (Some Market) (and_then (numeral w) (λ p. Some (At p)))

abbrev pub class_named : List ℕ → Option Class
class_named w = cond (bytes_eq w (codes "routable")) (Some Routable) (cond (bytes_eq w (codes "fixed")) (Some Fixed) (cond (bytes_eq w (codes "other")) (Some Other) None))

abbrev pub ladder_named : List ℕ → Option NamedLadder
ladder_named w = cond (bytes_eq w (codes "cent")) (Some Cent) (cond (bytes_eq w (codes "stepped")) (Some Stepped) None)

abbrev pub rule_named : List ℕ → Option NamedRule
rule_named w = cond (bytes_eq w (codes "time")) (Some Time) (cond (bytes_eq w (codes "prorata")) (Some ProRata) None)

abbrev pub mode_named : List ℕ → Option Mode
mode_named w = cond (bytes_eq w (codes "exchange")) (Some Exchange) (cond (bytes_eq w (codes "routing")) (Some Routing) None)

abbrev pub switch_named : List ℕ → Option Bool
switch_named w = cond (bytes_eq w (codes "on")) (Some true) (cond (bytes_eq w (codes "off")) (Some false) None)

-- a time, or none
abbrev pub time_named : List ℕ → Option (Option ℕ)
time_named w = cond (bytes_eq w (codes "none")) (Some None) (and_then (numeral w) (λ t. Some (Some t)))

-- a prior close, or none by 0
abbrev pub close_named : List ℕ → Option (Option ℕ)
close_named w = and_then (numeral w) (λ n. Some (cond (n == 0) None (Some n)))

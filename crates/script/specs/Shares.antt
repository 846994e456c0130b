-- The call that divides a quantity among the rows of a level.
use Rattle.std.specs.Prelude.{ℕ, cond, List, [], ◌∷◌, ◌++◌, is_ok, Some, None, Option}
use Rattle.choices.specs.Choices as choices
use Rattle.choices.specs.declared.NamedRule.{NamedRule}
use Rattle.sharing.specs.declared.level.Holding.{Holding}
use Rattle.sharing.specs.Holdings.{push_answer}
use Rattle.sharing.specs.Levels.{rows_of}
use Rattle.script.specs.declared.share.ShareCall.{ShareCall}
use Rattle.script.specs.Names.{and_then, class_named, rule_named}
use Rattle.script.specs.Texts.{numeral}

-- the row that a class and a size tell
abbrev pub holding_of : List ℕ → List ℕ → Option Holding
holding_of c n = and_then (class_named c) (λ class. and_then (numeral n) (λ size. Some (record { class = class; size = size })))

-- the rows so far and those that the words tell, where a level takes them all
abbrev pub rows_from : List Holding → List (List ℕ) → Option (List Holding)
rows_from rows [] = Some rows
rows_from rows (c ∷ []) = None
rows_from rows (c ∷ n ∷ more) = and_then (holding_of c n) (λ h. cond (is_ok (push_answer rows h)) (rows_from (rows ++ h ∷ []) more) None)

-- what is to be divided among whom
pub record Asked : Type 0 where
  pub rule : NamedRule
  pub quantity : ℕ
  pub rows : List Holding

abbrev pub asked : ShareCall → Asked
asked s = record { rule = s.rule; quantity = s.quantity; rows = rows_of s.level }

-- after the name a rule, a quantity and at least one row
abbrev pub share_call : List (List ℕ) → Option Asked
share_call (name ∷ rule ∷ quantity ∷ class ∷ rows) = and_then (rule_named rule) (λ r. and_then (numeral quantity) (λ q. and_then (rows_from [] (class ∷ rows)) (λ hs. Some (record { rule = r; quantity = q; rows = hs }))))
share_call _ = None

abbrev pub shares_by : Asked → List ℕ
shares_by a = choices.shares_by a.rule a.quantity a.rows

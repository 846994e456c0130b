use Rattle.std.specs.Prelude.{◌≡◌, ℕ, min, List, length}
use Rattle.std.proofs.Common.{◌∙◌}
use Rattle.std.proofs.lemmas.List.{length-map}
use Rattle.sharing.specs.declared.level.Holding.{Holding}
use Rattle.sharing.specs.Totals.{total, contracts, EachAtMost}
use Rattle.sharing.specs.InOrders.{order-length, order-within, order-whole}
use Rattle.sharing.specs.Keeping.{size-length, size-within, size-whole}
use Rattle.choices.specs.declared.NamedRule.{NamedRule}
use Rattle.choices.specs.declared.NamedRule.TheVariants.{Time, ProRata}
use Rattle.choices.specs.Choices.{shares_by}

pub each-by : (rule : NamedRule) (q : ℕ) (rows : List Holding) → length (shares_by rule q rows) ≡ length rows
each-by Time q rows = order-length q (contracts rows) ∙ length-map rows _
each-by ProRata q rows = size-length q rows

pub within_by : (rule : NamedRule) (q : ℕ) (rows : List Holding) → EachAtMost (shares_by rule q rows) (contracts rows)
within_by Time q rows = order-within q (contracts rows)
within_by ProRata q rows = size-within q rows

pub whole_by : (rule : NamedRule) (q : ℕ) (rows : List Holding) → total (shares_by rule q rows) ≡ min q (total (contracts rows))
whole_by Time q rows = order-whole q (contracts rows)
whole_by ProRata q rows = size-whole q rows

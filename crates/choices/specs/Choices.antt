-- What the ladder and the sharing rule of a name are.
use Rattle.std.specs.Prelude.{ℕ, Bool, List}
use Rattle.interest.specs.Bounds.{priced}
use Rattle.ladder.specs.Rungs.{stepped}
use Rattle.sharing.specs.declared.level.Holding.{Holding}
use Rattle.sharing.specs.InOrder.{time_shares}
use Rattle.sharing.specs.ProRata.{size_shares}
use Rattle.choices.specs.declared.NamedLadder.{NamedLadder}
use Rattle.choices.specs.declared.NamedLadder.TheVariants.{Cent, Stepped}
use Rattle.choices.specs.declared.NamedRule.{NamedRule}
use Rattle.choices.specs.declared.NamedRule.TheVariants.{Time, ProRata}

abbrev pub permitted_by : NamedLadder → ℕ → Bool
permitted_by Cent p = priced p
permitted_by Stepped p = stepped p

abbrev pub shares_by : NamedRule → ℕ → List Holding → List ℕ
shares_by Time q rows = time_shares q rows
shares_by ProRata q rows = size_shares q rows

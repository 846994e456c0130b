-- What a level stands for: its rows, in row order.
use Rattle.std.specs.Prelude.{List}
use Rattle.sharing.specs.declared.level.Holding.{Holding}
use Rattle.sharing.specs.declared.level.Level.{Level}

abbrev pub rows_of : Level → List Holding
rows_of l = l.rows.items

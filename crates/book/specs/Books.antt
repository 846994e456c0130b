-- What a book stands for.
use Rattle.std.specs.Prelude.{List}
use Rattle.book.specs.declared.row.Row.{Row}
use Rattle.book.specs.declared.book.Book.{Book}

-- its rows, in row order
abbrev pub rows_of : Book → List Row
rows_of b = b.rows.items

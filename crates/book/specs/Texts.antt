-- The line of text that tells what is read of a row, as bytes.
use Rattle.std.specs.Prelude.{ℕ, List, ◌++◌, codes}
use Rattle.std.specs.Fmt.{decimal}
use Rattle.book.specs.declared.row.Reading.{Reading}

abbrev pub reading_text : Reading → List ℕ
reading_text r =
    codes "order traded " ++ decimal r.traded ++ codes " routed " ++ decimal r.routed ++ codes " cancelled " ++ decimal r.cancelled
    ++ codes " left " ++ decimal r.left ++ codes " working " ++ decimal r.working ++ codes " shown " ++ decimal r.shown

-- The text of a range: both its ends, a blank between them.
use Rattle.std.specs.Prelude.{ℕ, List, ◌++◌, codes}
use Rattle.std.specs.Fmt.{decimal}
use Rattle.ranges.specs.declared.Range.{Range}

abbrev pub range_text : Range → List ℕ
range_text r = decimal r.low ++ codes " " ++ decimal r.high

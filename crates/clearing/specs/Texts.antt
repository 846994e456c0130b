-- The line of text that tells a report, as bytes; no price is told as 0.
use Rattle.std.specs.Prelude.{ℕ, List, ◌++◌, codes, Option}
use Rattle.std.specs.Fmt.{decimal}
use Rattle.std.specs.Option.{unwrap_or}
use Rattle.ranges.specs.Texts.{range_text}
use Rattle.clearing.specs.Kinds.{kind_number}
use Rattle.clearing.specs.declared.opening.SideReport.{SideReport}
use Rattle.clearing.specs.declared.opening.Report.{Report}

abbrev pub price_text : Option ℕ → List ℕ
price_text price = decimal (unwrap_or price 0)

abbrev pub two_numbers : ℕ → ℕ → List ℕ
two_numbers a b = decimal a ++ codes " " ++ decimal b

-- of two numbers that of the buys comes first
abbrev pub sides_text : SideReport → SideReport → List ℕ
sides_text buys sells =
    codes "routed " ++ two_numbers buys.routed sells.routed ++ codes " cancelled " ++ two_numbers buys.cancelled sells.cancelled
    ++ codes " best " ++ price_text buys.best ++ codes " " ++ price_text sells.best

abbrev pub report_text : Report → List ℕ
report_text r =
    codes "opened kind " ++ decimal (kind_number r.kind) ++ codes " price " ++ price_text r.price ++ codes " volume " ++ decimal r.volume
    ++ codes " range " ++ range_text r.range ++ codes " " ++ sides_text r.buys r.sells

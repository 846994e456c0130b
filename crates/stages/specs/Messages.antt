-- What a message tells, and how it is told.
use Rattle.std.specs.Prelude.{ℕ, List, ◌++◌, codes, Some, None, Option}
use Rattle.std.specs.Fmt.{decimal}
use Rattle.std.specs.Option.{unwrap_or}
use Rattle.interest.specs.Sides.{side_number}
use Rattle.pricing.specs.declared.figures.Unmatched.TheVariants.{Nothing}
use Rattle.pricing.specs.declared.search.Choice.{Choice}
use Rattle.pricing.specs.Prices.{side_of, contracts_of}
use Rattle.stages.specs.declared.messages.Message.{Message}

-- without a price there is no volume, and nothing is unmatched
abbrev pub message_of : ℕ → Option Choice → Message
message_of n (Some c) = record { number = n; price = Some c.price; volume = c.volume; unmatched = c.unmatched }
message_of n None = record { number = n; price = None; volume = 0; unmatched = Nothing }

-- the imbalance is the unmatched contracts, with the number of their side; no price is told as 0
abbrev pub message_text : Message → List ℕ
message_text m =
    codes "message " ++ decimal m.number ++ codes " side " ++ decimal (side_number (side_of m.unmatched)) ++ codes " volume " ++ decimal m.volume
    ++ codes " imbalance " ++ decimal (contracts_of m.unmatched) ++ codes " price " ++ decimal (unwrap_or m.price 0)

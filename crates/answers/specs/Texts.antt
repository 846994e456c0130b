-- What answers a call of the auction, and the line of text for it, as bytes.
use Rattle.std.specs.Prelude.{ℕ, List, ◌++◌, codes, Some, None, Option}
use Rattle.std.specs.Fmt.{decimal}
use Rattle.interest.specs.Refusals.{number_of}
use Rattle.book.specs.declared.row.Reading.{Reading}
use Rattle.book.specs.Texts.{reading_text}
use Rattle.clearing.specs.Texts.{report_text}
use Rattle.stages.specs.declared.stage.TickAnswer.{TickAnswer}
use Rattle.stages.specs.declared.stage.TickAnswer.TheVariants as tick
use Rattle.stages.specs.Messages.{message_text}
use Rattle.stages.specs.Waits.{reason_number}
use Rattle.answers.specs.declared.AuctionAnswer.{AuctionAnswer}
use Rattle.answers.specs.declared.AuctionAnswer.TheVariants.{Made, Accepted, Withdrawn, Replaced, Pulled, Waits, Holds, Message, Opened, Order, Nothing, Refused, NoAuction}

abbrev pub of_tick : TickAnswer → AuctionAnswer
of_tick (tick.Waits reason) = Waits reason
of_tick tick.Holds = Holds
of_tick (tick.Message message) = Message message
of_tick (tick.Opened report) = Opened report

-- of a row that does not stand there is nothing to tell
abbrev pub of_reading : Option Reading → AuctionAnswer
of_reading None = Nothing
of_reading (Some reading) = Order reading

abbrev pub answer_text : AuctionAnswer → List ℕ
answer_text Made = codes "made"
answer_text (Accepted size) = codes "accepted " ++ decimal size
answer_text (Withdrawn contracts) = codes "withdrawn " ++ decimal contracts
answer_text (Replaced back) = codes "replaced " ++ decimal back.bids ++ codes " " ++ decimal back.offers
answer_text (Pulled back) = codes "pulled " ++ decimal back.bids ++ codes " " ++ decimal back.offers
answer_text (Waits reason) = codes "waits " ++ decimal (reason_number reason)
answer_text Holds = codes "holds"
answer_text (Message message) = message_text message
answer_text (Opened report) = report_text report
answer_text (Order reading) = reading_text reading
answer_text Nothing = codes "none"
answer_text (Refused refusal) = codes "refused " ++ decimal (number_of refusal)
answer_text NoAuction = codes "no auction"

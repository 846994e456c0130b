-- What a line of a morning tells.
use Rattle.std.specs.Prelude.{ℕ, List, Some, None, Option}
use Rattle.std.specs.Option.{option_map}
use Rattle.calls.specs.declared.AuctionCall.{AuctionCall}
use Rattle.calls.specs.declared.lines.MorningLine.{MorningLine}
use Rattle.calls.specs.declared.lines.MorningLine.TheVariants.{Auction, Other}
use Rattle.calls.specs.Calls.{auction_call_of}
use Rattle.script.specs.Lines.{Told, line_of, told}

-- a call of the auction, or what a line of a script tells
pub data Heard : Type 0 where
  on_auction : AuctionCall → Heard
  other : Told → Heard

abbrev pub auction_or : Option AuctionCall → Option Told → Option Heard
auction_or None else' = option_map other else'
auction_or (Some c) else' = Some (on_auction c)

abbrev pub morning_of : List (List ℕ) → Option Heard
morning_of w = auction_or (auction_call_of w) (line_of w)

abbrev pub heard : MorningLine → Heard
heard (Auction c) = on_auction c
heard (Other l) = other (told l)

-- The reasons to wait.
use Rattle.std.specs.Prelude.{⊤, ℕ, ◌-◌, Bool, false, cond, not, ◌&&◌, List, Some, None, Ok, Err, Option, Result, nat_le, nat_lt}
use Rattle.interest.specs.declared.Side.{Side}
use Rattle.interest.specs.declared.Side.TheVariants.{Buy, Sell}
use Rattle.market.specs.Counts.{best_of}
use Rattle.book.specs.declared.row.Row.{Row}
use Rattle.book.specs.Rows.{is_quote_of}
use Rattle.book.specs.Reads.{stands, quoting}
use Rattle.stages.specs.declared.settings.Settings.{Settings}
use Rattle.stages.specs.declared.waits.Reason.{Reason}
use Rattle.stages.specs.declared.waits.Reason.TheVariants.{TooEarly, UnderlyingNotOpen, AwayCrossed, TooFewQuotes}

-- the number by which each is told; where several apply, the lowest is
abbrev pub reason_number : Reason → ℕ
reason_number TooEarly = 1
reason_number UnderlyingNotOpen = 2
reason_number AwayCrossed = 3
reason_number TooFewQuotes = 4

-- the underlying has been open for so long
abbrev pub open_for : ℕ → ℕ → Option ℕ → Bool
open_for span time None = false
open_for span time (Some opened) = nat_le span (time - opened)

-- the underlying opened later than this
abbrev pub opens_later : ℕ → Option ℕ → Bool
opens_later time None = false
opens_later time (Some opened) = nat_lt time opened

-- both are shown, and the bid is above the offer
abbrev pub above : Option ℕ → Option ℕ → Bool
above None offer = false
above (Some b) None = false
above (Some b) (Some o) = nat_lt o b

-- maker 1 does not quote, and fewer than two others do; one suffices once the quote window has run
abbrev pub too_few_quotes : ℕ → List Row → ℕ → Option ℕ → Bool
too_few_quotes window rows time underlying = not (stands (is_quote_of 1) rows) && nat_lt (quoting 2 15 rows) (cond (open_for window time underlying) 1 2)

-- trading begins at 34,200,000
abbrev pub reason_to_wait : Settings → List Row → (Side → ℕ → ℕ) → ℕ → Option ℕ → Option Reason
reason_to_wait settings rows shown time underlying =
    cond (nat_lt time 34200000) (Some TooEarly)
    (cond (not (open_for settings.underlying time underlying)) (Some UnderlyingNotOpen)
    (cond (above (best_of Buy (shown Buy)) (best_of Sell (shown Sell))) (Some AwayCrossed)
    (cond (too_few_quotes settings.window rows time underlying) (Some TooFewQuotes)
    None)))

-- what is answered: the reason, or that there is none
abbrev pub unless_waiting : Option Reason → Result ⊤ Reason
unless_waiting None = Ok tt
unless_waiting (Some reason) = Err reason

-- The number by which each refusal is told. Where several causes apply to a call, the lowest number is answered.
use Rattle.std.specs.Prelude.{ℕ}
use Rattle.interest.specs.declared.Refusal.{Refusal}
use Rattle.interest.specs.declared.Refusal.TheVariants.{SettingOutOfBounds, SeriesOpen, TimeOutOfBounds, NumberOutOfBounds, SizeOutOfBounds, PriceNotPermitted, NumberStanding, NothingStanding, BookFull, BidNotBelowOffer, QuoteTooWide}

abbrev pub number_of : Refusal → ℕ
number_of SettingOutOfBounds = 1
number_of SeriesOpen = 2
number_of TimeOutOfBounds = 3
number_of NumberOutOfBounds = 4
number_of SizeOutOfBounds = 5
number_of PriceNotPermitted = 6
number_of NumberStanding = 7
number_of NothingStanding = 8
number_of BookFull = 9
number_of BidNotBelowOffer = 10
number_of QuoteTooWide = 11

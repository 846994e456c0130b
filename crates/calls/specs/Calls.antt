-- The calls of the auction that the words of a line make, the first word being the call's name.
use Rattle.std.specs.Prelude.{ℕ, cond, List, [], ◌∷◌, Some, None, codes, Option}
use Rattle.std.specs.Str.{bytes_eq}
use Rattle.stages.specs.declared.settings.Settings.{Settings}
use Rattle.calls.specs.declared.AuctionCall.{AuctionCall}
use Rattle.calls.specs.declared.AuctionCall.TheVariants.{Make, Enter, Withdraw, Quote, Pull, Tick, ReadOrder, ReadQuote, Show}
use Rattle.script.specs.Names.{and_then, side_named, order_side_named, limit_named, class_named, ladder_named, rule_named, time_named, close_named}
use Rattle.script.specs.Texts.{numeral}

-- the call if a word is that name, or else another
abbrev pub named : List ℕ → List ℕ → Option AuctionCall → Option AuctionCall → Option AuctionCall
named word name call else' = cond (bytes_eq word name) call else'

-- Each takes the words after the name: so many, and none for any other number of them.

-- the prior close or 0, and five numbers
abbrev pub settings_named : List (List ℕ) → Option Settings
settings_named (close ∷ underlying ∷ window ∷ imbalance ∷ route ∷ extra ∷ []) = and_then (close_named close) (λ x1. and_then (numeral underlying) (λ x2. and_then (numeral window) (λ x3. and_then (numeral imbalance) (λ x4. and_then (numeral route) (λ x5. and_then (numeral extra) (λ x6. Some (record { close = x1; underlying = x2; window = x3; imbalance = x4; route = x5; extra = x6 })))))))
settings_named _ = None

abbrev pub make_call : List (List ℕ) → Option AuctionCall
make_call (ladder ∷ rule ∷ settings) = and_then (ladder_named ladder) (λ l. and_then (rule_named rule) (λ r. and_then (settings_named settings) (λ s. Some (Make l r s))))
make_call _ = None

abbrev pub enter_call : List (List ℕ) → Option AuctionCall
enter_call (order ∷ side ∷ limit ∷ size ∷ class ∷ []) = and_then (numeral order) (λ x1. and_then (order_side_named side) (λ x2. and_then (limit_named limit) (λ x3. and_then (numeral size) (λ x4. and_then (class_named class) (λ x5. Some (Enter (record { number = x1; side = x2; limit = x3; size = x4; class = x5 })))))))
enter_call _ = None

abbrev pub withdraw_call : List (List ℕ) → Option AuctionCall
withdraw_call (order ∷ []) = and_then (numeral order) (λ n. Some (Withdraw n))
withdraw_call _ = None

abbrev pub quote_call : List (List ℕ) → Option AuctionCall
quote_call (maker ∷ bid ∷ bid_size ∷ offer ∷ offer_size ∷ []) = and_then (numeral maker) (λ x1. and_then (numeral bid) (λ x2. and_then (numeral bid_size) (λ x3. and_then (numeral offer) (λ x4. and_then (numeral offer_size) (λ x5. Some (Quote x1 (record { bid = x2; bid_size = x3; offer = x4; offer_size = x5 })))))))
quote_call _ = None

abbrev pub pull_call : List (List ℕ) → Option AuctionCall
pull_call (maker ∷ []) = and_then (numeral maker) (λ n. Some (Pull n))
pull_call _ = None

abbrev pub tick_call : List (List ℕ) → Option AuctionCall
tick_call (time ∷ underlying ∷ []) = and_then (numeral time) (λ t. and_then (time_named underlying) (λ u. Some (Tick t u)))
tick_call _ = None

abbrev pub read_order_call : List (List ℕ) → Option AuctionCall
read_order_call (order ∷ []) = and_then (numeral order) (λ n. Some (ReadOrder n))
read_order_call _ = None

abbrev pub read_quote_call : List (List ℕ) → Option AuctionCall
read_quote_call (maker ∷ side ∷ []) = and_then (numeral maker) (λ m. and_then (side_named side) (λ s. Some (ReadQuote m s)))
read_quote_call _ = None

abbrev pub read_call : List (List ℕ) → Option AuctionCall
read_call [] = None
read_call (what ∷ words) = named what (codes "order") (read_order_call words) (named what (codes "quote") (read_quote_call words) None)

abbrev pub show_call : List (List ℕ) → Option AuctionCall
show_call [] = Some Show
show_call _ = None

abbrev pub auction_call_of : List (List ℕ) → Option AuctionCall
auction_call_of [] = None
auction_call_of (name ∷ words) = named name (codes "make") (make_call words) (named name (codes "tick") (tick_call words) (named name (codes "read") (read_call words) (named name (codes "show") (show_call words) (named name (codes "enter") (enter_call words) (named name (codes "withdraw") (withdraw_call words) (named name (codes "quote") (quote_call words) (named name (codes "pull") (pull_call words) None)))))))

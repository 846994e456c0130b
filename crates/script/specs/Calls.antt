-- The calls that the words of a line make, the first word being the call's name.
use Rattle.std.specs.Prelude.{ℕ, Bool, false, cond, List, [], ◌∷◌, Some, None, codes, Option, ◌==◌}
use Rattle.std.specs.Str.{bytes_eq}
use Rattle.market.specs.declared.depth.DepthLevel.{DepthLevel}
use Rattle.market.specs.declared.single.Entry.{Entry}
use Rattle.ranges.specs.declared.Quotes.{Quotes}
use Rattle.ranges.specs.declared.Range.{Range}
use Rattle.script.specs.declared.calls.Call.{Call}
use Rattle.script.specs.declared.calls.Call.TheVariants.{Away, Depth, DepthClear, Firm, Count, Best, Send, Row, RowsClear, Price, Curve, Ranges, Valid, Help}
use Rattle.script.specs.Names.{and_then, side_named, order_side_named, limit_named, class_named, mode_named, switch_named, close_named}
use Rattle.script.specs.Texts.{numeral}

-- the call if a word is that name, or else another
abbrev pub named : List ℕ → List ℕ → Option Call → Option Call → Option Call
named word name call else' = cond (bytes_eq word name) call else'

-- Each takes the words after the name: so many, and none for any other number of them.

-- `clear` alone
abbrev pub clearing : List (List ℕ) → Bool
clearing (what ∷ []) = bytes_eq what (codes "clear")
clearing _ = false

-- a side of the market, a price and a size
abbrev pub level_named : List (List ℕ) → Option DepthLevel
level_named (side ∷ price ∷ size ∷ []) = and_then (side_named side) (λ s. and_then (numeral price) (λ p. and_then (numeral size) (λ n. Some (record { side = s; price = p; size = n }))))
level_named _ = None

-- a size of 0 is no entry
abbrev pub entry_of : DepthLevel → Option Entry
entry_of l = cond (l.size == 0) None (Some (record { price = l.price; size = l.size }))

abbrev pub away_call : List (List ℕ) → Option Call
away_call words = and_then (level_named words) (λ l. Some (Away l.side (entry_of l)))

abbrev pub depth_call : List (List ℕ) → Option Call
depth_call words = cond (clearing words) (Some DepthClear) (and_then (level_named words) (λ l. Some (Depth l)))

abbrev pub firm_call : List (List ℕ) → Option Call
firm_call (on ∷ []) = and_then (switch_named on) (λ b. Some (Firm b))
firm_call _ = None

abbrev pub count_call : List (List ℕ) → Option Call
count_call (side ∷ price ∷ []) = and_then (side_named side) (λ s. and_then (numeral price) (λ p. Some (Count s p)))
count_call _ = None

abbrev pub best_call : List (List ℕ) → Option Call
best_call (side ∷ []) = and_then (side_named side) (λ s. Some (Best s))
best_call _ = None

abbrev pub send_call : List (List ℕ) → Option Call
send_call (side ∷ price ∷ contracts ∷ []) = and_then (side_named side) (λ s. and_then (numeral price) (λ p. and_then (numeral contracts) (λ n. Some (Send s p n))))
send_call _ = None

abbrev pub row_call : List (List ℕ) → Option Call
row_call (side ∷ limit ∷ size ∷ class ∷ []) = and_then (order_side_named side) (λ s. and_then (limit_named limit) (λ l. and_then (numeral size) (λ n. and_then (class_named class) (λ c. Some (Row s l n c)))))
row_call _ = None

abbrev pub rows_call : List (List ℕ) → Option Call
rows_call words = cond (clearing words) (Some RowsClear) None

abbrev pub range_named : List ℕ → List ℕ → Option Range
range_named low high = and_then (numeral low) (λ l. and_then (numeral high) (λ h. Some (record { low = l; high = h })))

abbrev pub price_call : List (List ℕ) → Option Call
price_call (mode ∷ low ∷ high ∷ close ∷ []) = and_then (mode_named mode) (λ m. and_then (range_named low high) (λ r. and_then (close_named close) (λ c. Some (Price m r c))))
price_call _ = None

abbrev pub curve_call : List (List ℕ) → Option Call
curve_call (mode ∷ low ∷ high ∷ []) = and_then (mode_named mode) (λ m. and_then (range_named low high) (λ r. Some (Curve m r)))
curve_call _ = None

abbrev pub quotes_named : List (List ℕ) → Option Quotes
quotes_named (bid ∷ offer ∷ []) = and_then (numeral bid) (λ b. and_then (numeral offer) (λ o. Some (record { bid = b; offer = o })))
quotes_named _ = None

abbrev pub ranges_call : List (List ℕ) → Option Call
ranges_call words = and_then (quotes_named words) (λ q. Some (Ranges q))

abbrev pub valid_call : List (List ℕ) → Option Call
valid_call words = and_then (quotes_named words) (λ q. Some (Valid q))

abbrev pub help_call : List (List ℕ) → Option Call
help_call [] = Some Help
help_call _ = None

abbrev pub call_of : List (List ℕ) → Option Call
call_of [] = None
call_of (name ∷ words) = named name (codes "away") (away_call words) (named name (codes "depth") (depth_call words) (named name (codes "firm") (firm_call words) (named name (codes "count") (count_call words) (named name (codes "best") (best_call words) (named name (codes "send") (send_call words) (named name (codes "row") (row_call words) (named name (codes "rows") (rows_call words) (named name (codes "price") (price_call words) (named name (codes "curve") (curve_call words) (named name (codes "ranges") (ranges_call words) (named name (codes "valid") (valid_call words) (named name (codes "help") (help_call words) None))))))))))))

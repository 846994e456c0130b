-- The lines of text that answer a script, as bytes.
use Rattle.std.specs.Prelude.{ℕ, Bool, cond, List, ◌++◌, flat_map, codes, Some, None, Option}
use Rattle.std.specs.Fmt.{decimal}
use Rattle.interest.specs.Sides.{side_number}
use Rattle.ranges.specs.declared.Range.{Range}
use Rattle.ranges.specs.Texts.{range_text}
use Rattle.pricing.specs.declared.search.Choice.{Choice}
use Rattle.pricing.specs.Prices.{side_of, contracts_of}
use Rattle.script.specs.declared.answers.PriceAnswer.{PriceAnswer}
use Rattle.script.specs.declared.answers.RangesAnswer.{RangesAnswer}
use Rattle.script.specs.declared.answers.Answer.{Answer}
use Rattle.script.specs.declared.answers.Answer.TheVariants as answer

abbrev pub yes_or_no : Bool → List ℕ
yes_or_no b = cond b (codes "yes") (codes "no")

abbrev pub shares_text : List ℕ → List ℕ
shares_text ns = codes "shares" ++ flat_map (λ n. codes " " ++ decimal n) ns

abbrev pub price_text : Choice → List ℕ
price_text c =
    codes "price " ++ decimal c.price ++ codes " volume " ++ decimal c.volume ++ codes " side " ++ decimal (side_number (side_of c.unmatched))
    ++ codes " unmatched " ++ decimal (contracts_of c.unmatched) ++ codes " through " ++ decimal c.through

abbrev pub quick_text : Option Range → List ℕ
quick_text None = codes "quick none"
quick_text (Some r) = codes "quick " ++ range_text r

abbrev pub ranges_text : RangesAnswer → List ℕ
ranges_text r = quick_text r.quick ++ codes " opening " ++ range_text r.opening ++ codes " quality " ++ yes_or_no r.quality

abbrev pub best_text : Option ℕ → List ℕ
best_text None = codes "none"
best_text (Some price) = codes "best " ++ decimal price

abbrev pub chosen_text : Option PriceAnswer → List ℕ
chosen_text None = codes "no price"
chosen_text (Some p) = price_text p.0

abbrev pub answer_text : Answer → List ℕ
answer_text answer.Away = codes "away"
answer_text (answer.Count contracts) = codes "count " ++ decimal contracts
answer_text (answer.Best price) = best_text price
answer_text (answer.Sent contracts) = codes "sent " ++ decimal contracts
answer_text (answer.Row rows) = codes "row " ++ decimal rows
answer_text (answer.Rows rows) = codes "rows " ++ decimal rows
answer_text answer.Full = codes "full"
answer_text (answer.Price price) = chosen_text price
answer_text (answer.Ranges ranges) = ranges_text ranges
answer_text (answer.Valid valid) = yes_or_no valid
answer_text (answer.NotUnderstood line) = codes "line " ++ decimal line ++ codes ": not understood"

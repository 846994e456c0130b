-- The book has no cause to refuse what the auction has none to refuse.
use Rattle.std.proofs.Common.{◌≡◌, Err, ◌∙◌, rules}
use Rattle.book.specs.Books.{rows_of}
use Rattle.book.specs.Edits.{quote_cause as book_quote_cause, left_of_quote}
use Rattle.runs.specs.Steps.{quote_cause}
use Rattle.auction.specs.Auctions.{view}
use Rattle.auction.proofs.Moves.{no-cause}
use Rattle.auction.proofs.Calls.{quote-sets, quote-refused, quote-taken}
use Rattle.auction.proofs.auction.Auction.set_quote.Goals as goal

pub returns-in_err-check_quote-clause-answer : goal.returns-in_err-check_quote-clause-answer
returns-in_err-check_quote-clause-answer g c =
    let a = c.args.self.now in
    let told : c.from_residual-in_err-check_quote.result ≡ Err c.in_err-check_quote.field-0.0 = search rules in
    told ∙ quote-refused (view a) (quote_cause (g.L.Ladder.permitted a.ladder) c.args.maker c.args.quote) c.in_err-check_quote.field-0.0 (left_of_quote c.args.maker (rows_of a.book)) c.in_ok-still_shut.ensures c.in_err-check_quote.ensures

pub returns-clause-answer : goal.returns-clause-answer
returns-clause-answer g c =
    let a = c.args.self.now in
    let permitted = g.L.Ladder.permitted a.ladder in
    let m = c.args.maker in
    let q = c.args.quote in
    let none = no-cause (quote_cause permitted m q) c.in_ok-check_quote.ensures in
    let taken = quote-sets permitted (g.met.L.Ladder.within a.ladder) m q none in
    quote-taken (view a) (book_quote_cause m q) (quote_cause permitted m q) c.set_quote.result (left_of_quote m (rows_of a.book)) c.in_ok-still_shut.ensures taken none c.set_quote.ensures.answer

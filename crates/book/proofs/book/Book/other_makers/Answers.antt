use Rattle.std.proofs.Common.{ℕ, refl, ◌∙◌, rules, tests}
use Rattle.std.specs.List.{range_with_len}
use Rattle.std.proofs.lemmas.Iterator.{YieldsList-from_range}
use Rattle.std.proofs.lemmas.Iterator.Consumers.{YieldsList-from_filter, count_from_yields_List}
use Rattle.std.proofs.lemmas.List.Sums.{length-filter}
use Rattle.book.specs.Rows.{is_quote_of}
use Rattle.book.specs.Books.{rows_of}
use Rattle.book.specs.Reads.{stands}
use Rattle.book.proofs.ReadFacts.{quoting-counted}
use Rattle.book.proofs.book.Book.other_makers.Goals as goal

pub returns : goal.returns
returns c =
    let rows = rows_of c.args.self.now in
    let quotes = λ (m : ℕ). stands (is_quote_of m) rows in
    count_from_yields_List c.filter.result _ c.count.ensures.ran (YieldsList-from_filter _ quotes (YieldsList-from_range 2 17 15 c.filter.ensures.source refl) c.filter.ensures.closure (λ x b q k. search (rules, tests)))
    ∙ length-filter quotes (range_with_len 2 15) ∙ quoting-counted rows 2 15

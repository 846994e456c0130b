use Rattle.std.proofs.Common.{◌∙◌, rules, tests}
use Rattle.std.proofs.lemmas.Iterator.{YieldsList-from_slice}
use Rattle.std.proofs.lemmas.Iterator.Search.{any_from_yields_List}
use Rattle.book.specs.Rows.{is_order}
use Rattle.book.specs.Books.{rows_of}
use Rattle.book.proofs.ReadFacts.{any-stands}
use Rattle.book.proofs.book.Book.has_order.Goals as goal

pub returns : goal.returns
returns c =
    let rows = rows_of c.args.self.now in
    any_from_yields_List (is_order c.args.number) _ _ _ c.any.ensures.ran (YieldsList-from_slice rows (c.iter.ensures.rest ∙ c.rows.ensures)) (λ x b q k. search (rules, tests))
    ∙ any-stands (is_order c.args.number) rows

use Rattle.std.proofs.Common.{sym, subst}
use Rattle.book.specs.declared.row.TakenBack.{TakenBack}
use Rattle.book.specs.Books.{rows_of}
use Rattle.book.specs.Edits.{left_of_quote}
use Rattle.book.specs.Effects.{QuoteOut}
use Rattle.book.proofs.EditFacts.{no-cause}
use Rattle.book.proofs.EffectFacts.{quote-out, quote-out-low}
use Rattle.book.proofs.book.Book.take_quote_out.Goals as goal

pub returns-clause-effects : goal.returns-clause-effects
returns-clause-effects c =
    let b = c.args.self.now in
    let m = c.args.maker in
    let rows = rows_of b in
    let none = no-cause _ c.in_ok-check_quote_out.field-0 c.in_ok-check_quote_out.ensures in
    let out = quote-out m rows (quote-out-low m rows none) b.sound in
    subst (λ (x : TakenBack). QuoteOut m x rows (rows_of c.take_sides.new.self)) (sym c.take_sides.ensures.back) (subst (QuoteOut m (left_of_quote m rows) rows) (sym c.take_sides.ensures.table) out)

use Rattle.std.proofs.Common.{◌≡◌, false, List, sym, ap, ◌∙◌, subst}
use Rattle.std.specs.List.{AllByRecursion}
use Rattle.book.specs.declared.row.Row.{Row}
use Rattle.book.specs.declared.row.TakenBack.{TakenBack}
use Rattle.book.specs.Rows.{is_quote_of}
use Rattle.book.specs.Books.{rows_of}
use Rattle.book.specs.Edits.{quoted, left_of_quote}
use Rattle.book.specs.Effects.{QuoteSet}
use Rattle.book.proofs.EditFacts.{no-cause, good-quote, quoted-fresh}
use Rattle.book.proofs.EffectFacts.{quote-set, none_left}
use Rattle.book.proofs.book.Book.set_quote.Goals as goal

pub put_quote-requires-clause-fresh : goal.put_quote-requires-clause-fresh
put_quote-requires-clause-fresh c =
    let m = c.args.maker in
    subst (AllByRecursion (λ (r : Row). is_quote_of m r ≡ false)) (sym c.take_sides-back.ensures.table) (none_left m (rows_of c.args.self.now))

pub returns-clause-table : goal.returns-clause-table
returns-clause-table c =
    let m = c.args.maker in
    let quote = c.args.quote in
    c.put_quote.ensures ∙ ap (λ (xs : List Row). quoted m quote xs) c.take_sides-back.ensures.table ∙ quoted-fresh m quote (rows_of c.args.self.now)

pub returns-clause-effects : goal.returns-clause-effects
returns-clause-effects c =
    let b = c.args.self.now in
    let m = c.args.maker in
    let quote = c.args.quote in
    let rows = rows_of b in
    let none = no-cause _ c.in_ok-check_quote.field-0 c.in_ok-check_quote.ensures in
    let set = quote-set m quote rows b.sound (good-quote m quote none) in
    subst (λ (x : TakenBack). QuoteSet m quote x rows (rows_of c.put_quote.new.self)) (sym c.take_sides-back.ensures.back) (subst (QuoteSet m quote (left_of_quote m rows) rows) (sym (returns-clause-table c)) set)

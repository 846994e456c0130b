use Rattle.std.proofs.Common.{◌≡◌, true, sym, ap, ◌∙◌, subst}
use Rattle.book.specs.declared.row.Row.{Row}
use Rattle.book.specs.Rows.{sound_table}
use Rattle.book.specs.Books.{rows_of}
use Rattle.book.specs.Edits.{placed}
use Rattle.book.specs.Effects.{OrderAdded}
use Rattle.book.proofs.EditFacts.{no-cause, sound-added, placed-added}
use Rattle.book.proofs.EffectFacts.{order-added}
use Rattle.book.proofs.book.Book.add.Goals as goal

pub insert-requires : goal.insert-requires
insert-requires c =
    let b = c.args.self.now in
    let none = no-cause _ c.in_ok-check_order.field-0 c.in_ok-check_order.ensures in
    subst (λ (r : Row). sound_table (placed r (rows_of b)) ≡ true) (sym c.into.ensures) (sound-added c.args.order (rows_of b) b.sound none)

pub returns-clause-table : goal.returns-clause-table
returns-clause-table c =
    let b = c.args.self.now in
    c.insert.ensures ∙ ap (λ (r : Row). placed r (rows_of b)) c.into.ensures ∙ placed-added c.args.order (rows_of b) b.sound

pub returns-clause-effects : goal.returns-clause-effects
returns-clause-effects c =
    let b = c.args.self.now in
    let none = no-cause _ c.in_ok-check_order.field-0 c.in_ok-check_order.ensures in
    subst (OrderAdded c.args.order (rows_of b)) (sym (returns-clause-table c)) (order-added c.args.order (rows_of b) b.sound none)

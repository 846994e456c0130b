use Rattle.std.proofs.Common.{not, ap, ◌∙◌, sym, subst, rules}
use Rattle.arrayvec.proofs.ArrayVecLemmas.{filter-from_retain}
use Rattle.book.specs.declared.row.Row.{Row}
use Rattle.book.specs.Rows.{sound_table, is_order}
use Rattle.book.specs.Books.{rows_of}
use Rattle.book.specs.Effects.{OrderOut}
use Rattle.book.proofs.SoundFacts.{sound-kept}
use Rattle.book.proofs.EffectFacts.{order-out}
use Rattle.book.proofs.book.Book.take_out.Goals as goal

pub invariant_of-self : goal.invariant_of-self
invariant_of-self c =
    let keep = λ (r : Row). not (is_order c.args.number r) in
    record { sound = ap sound_table (filter-from_retain _ keep _ (λ x b f' y k. search rules) _ _ c.retain.ensures.filtered) ∙ sound-kept keep (rows_of c.args.self.now) c.args.self.now.sound }

pub returns-clause-table : goal.returns-clause-table
returns-clause-table c = filter-from_retain _ (λ r. not (is_order c.args.number r)) _ (λ x b f' y k. search rules) _ _ c.retain.ensures.filtered

pub returns-clause-effects : goal.returns-clause-effects
returns-clause-effects c =
    let b = c.args.self.now in
    subst (OrderOut c.args.number c.in_ok-order.order.left (rows_of b)) (sym (returns-clause-table c)) (order-out c.args.number (rows_of b) c.in_ok-order.order b.sound (sym c.order.ensures ∙ c.in_ok-order.ensures.ok_part))

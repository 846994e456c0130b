use Rattle.std.proofs.Common.{not, ap, ◌∙◌, rules}
use Rattle.arrayvec.proofs.ArrayVecLemmas.{filter-from_retain}
use Rattle.book.specs.declared.row.Row.{Row}
use Rattle.book.specs.Rows.{sound_table, is_quote_of}
use Rattle.book.specs.Books.{rows_of}
use Rattle.book.proofs.SoundFacts.{sound-kept}
use Rattle.book.proofs.book.Book.take_sides.Goals as goal

pub invariant_of-self : goal.invariant_of-self
invariant_of-self c =
    let keep = λ (r : Row). not (is_quote_of c.args.maker r) in
    record { sound = ap sound_table (filter-from_retain _ keep _ (λ x b f' y k. search rules) _ _ c.retain.ensures.filtered) ∙ sound-kept keep (rows_of c.args.self.now) c.args.self.now.sound }

pub returns-clause-table : goal.returns-clause-table
returns-clause-table c = filter-from_retain _ (λ r. not (is_quote_of c.args.maker r)) _ (λ x b f' y k. search rules) _ _ c.retain.ensures.filtered

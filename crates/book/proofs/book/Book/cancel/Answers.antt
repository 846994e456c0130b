use Rattle.std.proofs.Common.{refl}
use Rattle.book.specs.Rewrites.{cancel_row}
use Rattle.book.proofs.RewriteFacts.{same-cancel, written, written-sound, past-standing}
use Rattle.book.proofs.book.Book.cancel.Goals as goal

pub invariant_of-self : goal.invariant_of-self
invariant_of-self c = record { sound = written-sound c.args.at cancel_row c.args.self.now.rows.items c.in-Some.row.now _ (c.in-Some.ensures.variant.0 refl) c.in-Some.ensures.value refl same-cancel c.args.self.now.sound }

pub returns-in-Some : goal.returns-in-Some
returns-in-Some c = written c.args.at cancel_row c.args.self.now.rows.items c.in-Some.row.now _ (c.in-Some.ensures.variant.0 refl) c.in-Some.ensures.value refl

pub returns-in_default : goal.returns-in_default
returns-in_default c = past-standing c.args.at cancel_row c.args.self.now.rows.items c.in_default.ensures.variant.1

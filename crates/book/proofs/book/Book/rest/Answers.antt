use Rattle.std.proofs.Common.{refl}
use Rattle.book.specs.Rewrites.{rest_row}
use Rattle.book.proofs.RewriteFacts.{same_rest, written, written-sound, past-standing}
use Rattle.book.proofs.book.Book.rest.Goals as goal

pub invariant_of-self : goal.invariant_of-self
invariant_of-self c = record { sound = written-sound c.args.at (rest_row c.args.working c.args.shown) c.args.self.now.rows.items c.in-Some.row.now _ (c.in-Some.ensures.variant.0 refl) c.in-Some.ensures.value refl (same_rest c.args.working c.args.shown) c.args.self.now.sound }

pub returns-in-Some : goal.returns-in-Some
returns-in-Some c = written c.args.at (rest_row c.args.working c.args.shown) c.args.self.now.rows.items c.in-Some.row.now _ (c.in-Some.ensures.variant.0 refl) c.in-Some.ensures.value refl

pub returns-in_default : goal.returns-in_default
returns-in_default c = past-standing c.args.at (rest_row c.args.working c.args.shown) c.args.self.now.rows.items c.in_default.ensures.variant.1

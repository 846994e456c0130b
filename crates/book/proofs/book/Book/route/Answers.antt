use Rattle.std.proofs.Common.{refl}
use Rattle.book.specs.Rewrites.{route_row}
use Rattle.book.proofs.RewriteFacts.{same_route, routed-is, written, written-sound, past-standing}
use Rattle.book.proofs.book.Book.route.Goals as goal

pub invariant_of-self : goal.invariant_of-self
invariant_of-self c = record { sound = written-sound c.args.at (route_row c.args.n) c.args.self.now.rows.items c.in-Some.row.now _ (c.in-Some.ensures.variant.0 refl) c.in-Some.ensures.value (routed-is c.args.n c.take_left.result c.in-Some.row.now c.take_left.new.self c.take_left.ensures.taken c.take_left.ensures.row) (same_route c.args.n) c.args.self.now.sound }

pub returns-in-Some : goal.returns-in-Some
returns-in-Some c = written c.args.at (route_row c.args.n) c.args.self.now.rows.items c.in-Some.row.now _ (c.in-Some.ensures.variant.0 refl) c.in-Some.ensures.value (routed-is c.args.n c.take_left.result c.in-Some.row.now c.take_left.new.self c.take_left.ensures.taken c.take_left.ensures.row)

pub returns-in_default : goal.returns-in_default
returns-in_default c = past-standing c.args.at (route_row c.args.n) c.args.self.now.rows.items c.in_default.ensures.variant.1

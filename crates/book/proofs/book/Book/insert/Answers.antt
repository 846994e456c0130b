use Rattle.std.proofs.Common.{ap, ◌∙◌, lit<}
use Rattle.book.specs.Rows.{sound_table}
use Rattle.book.specs.Books.{rows_of}
use Rattle.book.proofs.SoundFacts.{insert-inside, insert-room, insert-done}
use Rattle.book.proofs.book.Book.insert.Goals as goal

pub insert-requires : goal.insert-requires
insert-requires c =
    let b = c.args.self.now in
    (lit< tt, (insert-inside c.args.row (rows_of b) b.sound c.index_for-at.result c.index_for-at.ensures, insert-room c.args.row (rows_of b) b.sound c.index_for-at.result c.index_for-at.ensures c.requires))

pub invariant_of-self : goal.invariant_of-self
invariant_of-self c =
    let b = c.args.self.now in
    record { sound = ap sound_table (c.insert.ensures.items ∙ insert-done c.args.row (rows_of b) b.sound c.index_for-at.result c.index_for-at.ensures) ∙ c.requires }

pub returns : goal.returns
returns c =
    let b = c.args.self.now in
    c.insert.ensures.items ∙ insert-done c.args.row (rows_of b) b.sound c.index_for-at.result c.index_for-at.ensures

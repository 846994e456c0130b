use Rattle.std.proofs.Common.{rules, tests}
use Rattle.std.proofs.lemmas.List.Sorted.{IsPartitionPoint-from_clause}
use Rattle.book.specs.Books.{rows_of}
use Rattle.book.proofs.SoundFacts.{up_to, place-counted}
use Rattle.book.proofs.book.Book.index_for.Goals as goal

pub returns : goal.returns
returns c =
    let b = c.args.self.now in
    let row = c.args.row in
    place-counted row (rows_of b) c.rows.result.now c.rows.ensures b.sound c.partition_point.result c.partition_point.ensures.bound
    (λ parted. IsPartitionPoint-from_clause (up_to row) c.rows.result.now c.partition_point.result c.partition_point.ensures.partitioned parted (λ a r f' k. search (rules, tests)))

-- The proof of `cancel`.
use Rattle.std.proofs.Common.{◌≡◌, ℕ, ◌+◌, ◌<◌, Bool, true, false, List, ◌++◌, map, length, get_or, take, drop, sym, ap, ◌∙◌, arith}
use Rattle.std.proofs.lemmas.Bool.{cond-true, cond-false}
use Rattle.book.specs.declared.row.Row.{Row}
use Rattle.book.specs.Books.{rows_of}
use Rattle.book.specs.Ranks.{through_price}
use Rattle.book.specs.Rewrites.{changed_at, cancel_row}
use Rattle.book.proofs.RewriteFacts.{changed-length, map-step, map-passed}
use Rattle.settling.specs.declared.Edges.{Edges}
use Rattle.settling.specs.Settles.{edge_of, cancel_through}
use Rattle.settling.proofs.cancel.Goals as goal
use Rattle.settling.proofs.cancel.Goals.{then-are_passed, else-are_passed}

-- the test over the copy of the row that was read
read : (edges : Edges) (i : ℕ) (d : Row) (seen rows : List Row) (b : Bool) → seen ≡ rows → b ≡ through_price (get_or seen i d).side (edge_of edges (get_or seen i d).side) (get_or seen i d).limit
    → through_price (get_or rows i d).side (edge_of edges (get_or rows i d).side) (get_or rows i d).limit ≡ b
read edges i d seen rows b e h = ap (λ (xs : List Row). through_price (get_or xs i d).side (edge_of edges (get_or xs i d).side) (get_or xs i d).limit) (sym e) ∙ sym h

pub loop-i-preserved : goal.loop-i-preserved
loop-i-preserved c =
    let edges = c.args.edges in
    let i = c.loop-i.i in
    let rows = rows_of c.loop-i.book in
    let f = cancel_through edges in
    let lt : i < length rows = omega (arith, c.loop-i.invariant.0, c.loop-i-test.true) in
    elim c.if-are_passed.branch [
      | then-are_passed w ↦
          let h = read edges i _ c.rows.result.now rows true c.rows.ensures w.if-are_passed.ensures in
          let now : rows_of c.if-are_passed.book ≡ changed_at i cancel_row rows = ap rows_of w.book-is ∙ w.cancel.ensures in (
            ap length now ∙ changed-length i cancel_row rows ∙ c.loop-i.invariant.0,
            ap (λ (xs : List Row). take (i + 1) xs ++ map f (drop (i + 1) xs)) now ∙ map-step f cancel_row i rows _ lt (sym (cond-true _ _ _ h)) ∙ c.loop-i.invariant.1,
          )
      | else-are_passed w ↦
          let h = read edges i _ c.rows.result.now rows false c.rows.ensures w.if-are_passed.ensures in
          let now : rows_of c.if-are_passed.book ≡ rows = ap rows_of w.book-is in (
            ap length now ∙ c.loop-i.invariant.0,
            ap (λ (xs : List Row). take (i + 1) xs ++ map f (drop (i + 1) xs)) now ∙ map-passed f i rows _ lt (sym (cond-false _ _ _ h)) ∙ c.loop-i.invariant.1,
          )
    ]

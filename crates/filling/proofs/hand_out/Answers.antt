-- The proof of `hand_out`.
use Rattle.std.proofs.Common.{ℕ, ◌+◌, ◌<◌, true, false, List, ◌++◌, length, get_or, take, drop, sym, ap, ◌∙◌, arith}
use Rattle.std.specs.Option.{unwrap_or}
use Rattle.std.specs.Slice.Iter.{iter_rest}
use Rattle.std.specs.declared.slice.Iter.{Iter}
use Rattle.book.specs.declared.row.Row.{Row}
use Rattle.book.specs.Ranks.{of_side}
use Rattle.book.specs.Books.{rows_of}
use Rattle.book.specs.Rewrites.{trade_row, changed_at}
use Rattle.book.proofs.RewriteFacts.{changed-length}
use Rattle.levels.specs.Deals.{deal}
use Rattle.levels.proofs.Walking.{stands_read, deal-yes, deal-no}
use Rattle.filling.proofs.Gathering.{deal-rest, next-share}
use Rattle.filling.proofs.hand_out.Goals as goal
use Rattle.filling.proofs.hand_out.Goals.{then-stands_at, else-stands_at}

pub loop-i-preserved : goal.loop-i-preserved
loop-i-preserved c =
    let part = of_side c.args.side in
    let k = c.args.at in
    let i = c.loop-i.i in
    let rows = rows_of c.loop-i.book in
    let shares = iter_rest c.loop-i.rest in
    let lt : i < length rows = omega (arith, c.loop-i.invariant.count, c.loop-i-test.true) in
    elim c.if-stands_at.branch [
      | then-stands_at w ↦
          let h = stands_read part k i _ c.rows.result.now rows true c.rows.ensures (sym w.if-stands_at.ensures) in
          let first = next-share c.loop-i.rest w.next.new.self w.next.result w.next.ensures.steps in
          let share = w.unwrap_or-share.ensures ∙ ap (λ o. unwrap_or o 0) w.copied.ensures ∙ first.1 in
          let now = ap rows_of w.book-is ∙ w.trade.ensures ∙ ap (λ (n : ℕ). changed_at i (trade_row n) rows) share in
          let left = ap iter_rest w.rest-is ∙ first.0 in
          let after = changed_at i (trade_row (get_or shares 0 0)) rows in
          record {
            count = ap length now ∙ changed-length i (trade_row (get_or shares 0 0)) rows ∙ c.loop-i.invariant.count;
            rows =
                ap (λ (xs : List ℕ). take (i + 1) (rows_of c.if-stands_at.book) ++ deal part trade_row k xs 0 (drop (i + 1) (rows_of c.if-stands_at.book))) left
                ∙ ap (λ (xs : List Row). take (i + 1) xs ++ deal part trade_row k (drop 1 shares) 0 (drop (i + 1) xs)) now
                ∙ ap (λ (xs : List Row). take (i + 1) after ++ xs) (sym (deal-rest part trade_row k shares 0 (drop (i + 1) after)))
                ∙ deal-yes part k rows i _ lt trade_row shares 0 h ∙ c.loop-i.invariant.rows;
          }
      | else-stands_at w ↦
          let h = stands_read part k i _ c.rows.result.now rows false c.rows.ensures (sym w.if-stands_at.ensures) in
          let now = ap rows_of w.book-is in
          record {
            count = ap length now ∙ c.loop-i.invariant.count;
            rows =
                ap (λ (it : Iter ℕ). take (i + 1) (rows_of c.if-stands_at.book) ++ deal part trade_row k (iter_rest it) 0 (drop (i + 1) (rows_of c.if-stands_at.book))) w.rest-is
                ∙ ap (λ (xs : List Row). take (i + 1) xs ++ deal part trade_row k shares 0 (drop (i + 1) xs)) now
                ∙ deal-no part k rows i _ lt trade_row shares 0 h ∙ c.loop-i.invariant.rows;
          }
    ]

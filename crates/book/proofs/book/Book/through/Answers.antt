-- Each row adds what it has left to the sums that count it.
use Rattle.std.proofs.Common.{◌&&◌, ap, ◌∙◌, arith, take_all}
use Rattle.interest.specs.Same.{eq-same}
use Rattle.book.specs.Ranks.{of_side, can_route, through_price, interest_through, routable_through}
use Rattle.book.specs.Books.{rows_of}
use Rattle.book.proofs.SumFacts.{book-sound, book-fits, listed-sound, listed-fits, contracts-bound, routable-through-part, turn, turn-fits}
use Rattle.book.proofs.book.Book.through.Goals as goal

pub overflow_add-contracts : goal.overflow_add-contracts
overflow_add-contracts c = omega (arith, turn-fits (λ r. of_side c.args.side r && through_price c.args.side c.args.price r.limit) _ _ _ _ _ _ (listed-sound c.args.self.now c.rows-row-items.result.now c.rows-row-items.ensures) (listed-fits c.args.self.now c.rows-row-items.result.now c.rows-row-items.ensures) c.loop-row-test.true c.loop-row.invariant.0 (simp (eq-same, c.eq-own.ensures, c.is_through-through.ensures)) c.size_if-contracts.ensures)

pub overflow_add-routable : goal.overflow_add-routable
overflow_add-routable c = omega (arith, turn-fits (λ r. can_route c.args.side r && through_price c.args.side c.args.price r.limit) _ _ _ _ _ _ (listed-sound c.args.self.now c.rows-row-items.result.now c.rows-row-items.ensures) (listed-fits c.args.self.now c.rows-row-items.result.now c.rows-row-items.ensures) c.loop-row-test.true c.loop-row.invariant.1 (simp (eq-same, c.eq-own.ensures, c.is_routable-can_route.ensures, c.is_through-through.ensures)) c.size_if-routable.ensures)

pub loop-row-preserved : goal.loop-row-preserved
loop-row-preserved c = (
  turn (λ r. of_side c.args.side r && through_price c.args.side c.args.price r.limit) _ _ _ _ _ _ c.loop-row-test.true c.loop-row.invariant.0 (simp (eq-same, c.eq-own.ensures, c.is_through-through.ensures)) c.size_if-contracts.ensures,
  turn (λ r. can_route c.args.side r && through_price c.args.side c.args.price r.limit) _ _ _ _ _ _ c.loop-row-test.true c.loop-row.invariant.1 (simp (eq-same, c.eq-own.ensures, c.is_routable-can_route.ensures, c.is_through-through.ensures)) c.size_if-routable.ensures,
  omega arith,
)

pub returns : goal.returns
returns c =
    let rows = rows_of c.args.self.now in
    let side = c.args.side in
    let p = c.args.price in
    let whole = take_all _ c.rows-row-items.result.now c.loop-row-test.false ∙ c.rows-row-items.ensures in
    let all = c.loop-row.invariant.0 ∙ ap (interest_through side p) whole in
    let routable = c.loop-row.invariant.1 ∙ ap (routable_through side p) whole in
    record {
      is = λ j. record { contracts = all j; routable = routable j };
      few = omega (arith, all, contracts-bound (λ r. of_side side r && through_price side p r.limit) rows (book-sound c.args.self.now) (book-fits c.args.self.now));
      routable = omega (arith, all, routable, routable-through-part side p rows);
    }

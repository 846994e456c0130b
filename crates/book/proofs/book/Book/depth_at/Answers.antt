-- Each row adds what it has left to the sums that count it.
use Rattle.std.proofs.Common.{◌&&◌, ap, ◌∙◌, arith, take_all}
use Rattle.interest.specs.declared.Side.TheVariants.{Buy, Sell}
use Rattle.interest.specs.Same.{eq-same}
use Rattle.book.specs.Ranks.{of_side, can_route, takes_price, interest_at, routable_at}
use Rattle.book.specs.Books.{rows_of}
use Rattle.book.proofs.SumFacts.{book-sound, book-fits, listed-sound, listed-fits, contracts-bound, routable-at-part, turn, turn-fits}
use Rattle.book.proofs.book.Book.depth_at.Goals as goal

pub overflow_add-buys : goal.overflow_add-buys
overflow_add-buys c = omega (arith, turn-fits (λ r. of_side Buy r && takes_price Buy c.args.price r.limit) _ _ _ _ _ _ (listed-sound c.args.self.now c.rows-row-items.result.now c.rows-row-items.ensures) (listed-fits c.args.self.now c.rows-row-items.result.now c.rows-row-items.ensures) c.loop-row-test.true c.loop-row.invariant.0 (simp (eq-same, c.eq-buy.ensures, c.takes-buys_it.ensures)) c.size_if-buys.ensures)

pub overflow_add-sells : goal.overflow_add-sells
overflow_add-sells c = omega (arith, turn-fits (λ r. of_side Sell r && takes_price Sell c.args.price r.limit) _ _ _ _ _ _ (listed-sound c.args.self.now c.rows-row-items.result.now c.rows-row-items.ensures) (listed-fits c.args.self.now c.rows-row-items.result.now c.rows-row-items.ensures) c.loop-row-test.true c.loop-row.invariant.1 (simp (eq-same, c.eq-sell.ensures, c.takes-sells_it.ensures)) c.size_if-sells.ensures)

pub overflow_add-routable_buys : goal.overflow_add-routable_buys
overflow_add-routable_buys c = omega (arith, turn-fits (λ r. can_route Buy r && takes_price Buy c.args.price r.limit) _ _ _ _ _ _ (listed-sound c.args.self.now c.rows-row-items.result.now c.rows-row-items.ensures) (listed-fits c.args.self.now c.rows-row-items.result.now c.rows-row-items.ensures) c.loop-row-test.true c.loop-row.invariant.2 (simp (eq-same, c.eq-buy.ensures, c.is_routable-routable.ensures, c.takes-buys_it.ensures)) c.size_if-routable_buys.ensures)

pub overflow_add-routable_sells : goal.overflow_add-routable_sells
overflow_add-routable_sells c = omega (arith, turn-fits (λ r. can_route Sell r && takes_price Sell c.args.price r.limit) _ _ _ _ _ _ (listed-sound c.args.self.now c.rows-row-items.result.now c.rows-row-items.ensures) (listed-fits c.args.self.now c.rows-row-items.result.now c.rows-row-items.ensures) c.loop-row-test.true c.loop-row.invariant.3 (simp (eq-same, c.eq-sell.ensures, c.is_routable-routable.ensures, c.takes-sells_it.ensures)) c.size_if-routable_sells.ensures)

pub loop-row-preserved : goal.loop-row-preserved
loop-row-preserved c = (
  turn (λ r. of_side Buy r && takes_price Buy c.args.price r.limit) _ _ _ _ _ _ c.loop-row-test.true c.loop-row.invariant.0 (simp (eq-same, c.eq-buy.ensures, c.takes-buys_it.ensures)) c.size_if-buys.ensures,
  turn (λ r. of_side Sell r && takes_price Sell c.args.price r.limit) _ _ _ _ _ _ c.loop-row-test.true c.loop-row.invariant.1 (simp (eq-same, c.eq-sell.ensures, c.takes-sells_it.ensures)) c.size_if-sells.ensures,
  turn (λ r. can_route Buy r && takes_price Buy c.args.price r.limit) _ _ _ _ _ _ c.loop-row-test.true c.loop-row.invariant.2 (simp (eq-same, c.eq-buy.ensures, c.is_routable-routable.ensures, c.takes-buys_it.ensures)) c.size_if-routable_buys.ensures,
  turn (λ r. can_route Sell r && takes_price Sell c.args.price r.limit) _ _ _ _ _ _ c.loop-row-test.true c.loop-row.invariant.3 (simp (eq-same, c.eq-sell.ensures, c.is_routable-routable.ensures, c.takes-sells_it.ensures)) c.size_if-routable_sells.ensures,
  omega arith,
)

pub returns : goal.returns
returns c =
    let rows = rows_of c.args.self.now in
    let p = c.args.price in
    let whole = take_all _ c.rows-row-items.result.now c.loop-row-test.false ∙ c.rows-row-items.ensures in
    let buys = c.loop-row.invariant.0 ∙ ap (interest_at Buy p) whole in
    let sells = c.loop-row.invariant.1 ∙ ap (interest_at Sell p) whole in
    let routable-buys = c.loop-row.invariant.2 ∙ ap (routable_at Buy p) whole in
    let routable-sells = c.loop-row.invariant.3 ∙ ap (routable_at Sell p) whole in
    record {
      is = λ j. record { buys = buys j; sells = sells j; routable_buys = routable-buys j; routable_sells = routable-sells j };
      few_buys = omega (arith, buys, contracts-bound (λ r. of_side Buy r && takes_price Buy p r.limit) rows (book-sound c.args.self.now) (book-fits c.args.self.now));
      few_sells = omega (arith, sells, contracts-bound (λ r. of_side Sell r && takes_price Sell p r.limit) rows (book-sound c.args.self.now) (book-fits c.args.self.now));
      routable_buys = omega (arith, buys, routable-buys, routable-at-part Buy p rows);
      routable_sells = omega (arith, sells, routable-sells, routable-at-part Sell p rows);
    }

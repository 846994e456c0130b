-- The proof of `route_and_fill`.
use Rattle.std.proofs.Common.{rules}
use Rattle.book.specs.Books.{rows_of}
use Rattle.clearing.specs.Openings.{better_than}
use Rattle.clearing.proofs.Composed.{price-rows, price-counts}
use Rattle.clearing.proofs.steps.route_and_fill.Goals as goal

pub send_at-requires-clause-prices : goal.send_at-requires-clause-prices
send_at-requires-clause-prices g c = (better_than c.args.price.cents, λ side p h. search rules)

pub send_at-requires-2-clause-prices : goal.send_at-requires-2-clause-prices
send_at-requires-2-clause-prices g c = ((λ _. c.args.price.cents), λ side p h. search rules)

pub returns : goal.returns
returns g c =
    let shown = g.M.ShownMarket.shown in
    let shares = g.R.SharingRule.shares c.args.rule.now in
    let f = shown c.args.market.now in
    let k = shown c.send_at.new.market in
    let p = c.args.price.cents in
    let start = rows_of c.args.book.now in
    let one = rows_of c.send_at.new.book in
    let two = rows_of c.fill_at.new.book in
    let three = rows_of c.send_at-2.new.book in
    let better = c.send_at.ensures.rows (better_than p) (λ side q h. search rules) in
    let at_price = c.send_at-2.ensures.rows (λ _. p) (λ side q h. search rules) in
    record {
      rows = price-rows shares f k p c.args.volume start one two three better c.send_at.ensures.counts c.fill_at.ensures at_price;
      counts = price-counts shares f k p c.args.volume start one two three better c.send_at.ensures.counts c.fill_at.ensures at_price (shown c.send_at-2.new.market) c.send_at-2.ensures.counts;
    }

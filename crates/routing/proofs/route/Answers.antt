-- The proof of `route`.
use Rattle.std.proofs.Common.{◌≡◌, ℕ, ◌-◌, None, refl, ap, ◌∙◌, arith}
use Rattle.interest.specs.Sides.{opposite}
use Rattle.book.specs.Ranks.{can_route}
use Rattle.book.specs.Books.{rows_of}
use Rattle.book.proofs.RewriteFacts.{rows_few}
use Rattle.levels.specs.Levels.{next_rank}
use Rattle.routing.specs.Routes.{count_at, seen_at, Gives}
use Rattle.routing.proofs.Sending.{count_less}
use Rattle.routing.proofs.Routing.{Routing, route-begun, route-reach, route-turn, route-ended, sum_fits}
use Rattle.routing.proofs.route.Given as given
use Rattle.routing.proofs.route.Goals as goal

pub loop-at-init : goal.loop-at-init
loop-at-init g c = (
  (λ price gives. route-begun (seen_at (g.M.ShownMarket.shown c.args.market.now (opposite c.args.side)) price) c.args.side c.args.upto (rows_of c.args.book.now)),
  record { taken = λ p. omega arith; stays = λ p. refl },
  c.requires.callable,
)

-- at the level that is sent
here : (g : given.Over) (c : goal.After-route_level-sent g) (price : ℕ → ℕ) → Gives (given.F-post g c.args.price_of) c.args.upto price
    → Routing (seen_at (g.M.ShownMarket.shown c.args.market.now (opposite c.args.side)) price) c.args.side c.args.upto (rows_of c.args.book.now) (rows_of c.loop-at.book) c.in-Some.at c.loop-at.sent
here g c price gives =
    route-reach (seen_at (g.M.ShownMarket.shown c.args.market.now (opposite c.args.side)) price) c.args.side c.args.upto (rows_of c.args.book.now) c.loop-at.from c.in-Some.at c.loop-at.sent (rows_of c.loop-at.book) (c.loop-at.invariant.0 price gives)
    (c.in-Some.ensures.is ∙ ap (next_rank (can_route c.args.side) c.loop-at.from c.args.upto) c.rows.ensures)

pub overflow_add-sent : goal.overflow_add-sent
overflow_add-sent g c =
    let w = c.requires.prices in
    let f = seen_at (g.M.ShownMarket.shown c.args.market.now (opposite c.args.side)) w.0 in
    let now = here g c w.0 w.1 in
    omega (arith, sum_fits f c.args.side c.args.upto (rows_of c.args.book.now) c.in-Some.at c.loop-at.sent c.route_level-sent.result _ (rows_of c.loop-at.book) (rows_few c.args.book.now) c.args.book.now.sound now.rows_are now.sent_is c.route_level-sent.ensures.sent)

pub loop-at-preserved : goal.loop-at-preserved
loop-at-preserved g c =
    let shown = g.M.ShownMarket.shown in
    let side = c.args.side in
    let o = opposite side in
    let at = c.in-Some.at in (
      (λ price gives.
          let f = seen_at (shown c.args.market.now o) price in
          let lt = c.in-Some.ensures.next.within in
          let at_price : c.price_of-price.result ≡ price at = gives at c.price_of-price.result lt c.price_of-price.ensures in
          let q : count_at (shown c.loop-at.market o) c.price_of-price.result ≡ f at - c.loop-at.sent =
          count_less (shown c.args.market.now o) (shown c.loop-at.market o) c.price_of-price.result c.loop-at.sent c.loop-at.invariant.1.taken ∙ ap (λ (x : ℕ). count_at (shown c.args.market.now o) x - c.loop-at.sent) at_price in
          route-turn f side c.args.upto (rows_of c.args.book.now) at c.loop-at.sent _ c.route_level-sent.result (rows_of c.loop-at.book) (rows_of c.route_level-sent.new.book) lt (here g c price gives) q c.route_level-sent.ensures.rows c.route_level-sent.ensures.sent),
      record {
        taken = λ p. omega (arith, c.route_level-sent.ensures.market.taken p, c.loop-at.invariant.1.taken p);
        stays = λ p. c.route_level-sent.ensures.market.stays p ∙ c.loop-at.invariant.1.stays p;
      },
      c.loop-at.invariant.2,
    )

pub returns : goal.returns
returns g c =
    let side = c.args.side in
    let part = can_route side in
    let rows = rows_of c.loop-at.book in
    let none : None ≡ next_rank part c.loop-at.from c.args.upto rows = c.in_default.ensures.is ∙ ap (next_rank part c.loop-at.from c.args.upto) c.rows.ensures in
    let end : (price : ℕ → ℕ) → Gives (given.F-post g c.args.price_of) c.args.upto price
    → Routing (seen_at (g.M.ShownMarket.shown c.args.market.now (opposite side)) price) side c.args.upto (rows_of c.args.book.now) rows c.args.upto c.loop-at.sent =
    λ price gives. route-ended (seen_at (g.M.ShownMarket.shown c.args.market.now (opposite side)) price) side c.args.upto (rows_of c.args.book.now) c.loop-at.from c.loop-at.sent rows (c.loop-at.invariant.0 price gives) none in
    record { rows = λ price gives. (end price gives).rows_are; sent = λ price gives. (end price gives).sent_is; market = c.loop-at.invariant.1 }

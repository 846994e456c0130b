-- What the loop of `route` keeps.
use Rattle.std.proofs.Common.{ℕ, ◌-◌}
use Rattle.interest.specs.Sides.{opposite}
use Rattle.book.specs.Books.{rows_of}
use Rattle.routing.specs.Routes.{seen_at, Gives, SentFor}
use Rattle.routing.proofs.Routing.{Routing}
use Rattle.routing.proofs.route.Given as goal

abbrev pub invariant-loop-at : goal.invariant-loop-at
invariant-loop-at g l =
    let shown = g.M.ShownMarket.shown in
    ((price : ℕ → ℕ) → Gives (goal.F-post g l.price_of) l.upto price → Routing (seen_at (shown l.initial.market (opposite l.side)) price) l.side l.upto (rows_of l.initial.book) (rows_of l.book) l.from l.sent)
    × SentFor l.side l.sent (shown l.initial.market) (shown l.market)
    × goal.F-IsAlwaysCallable g l.price_of

abbrev pub decreases-loop-at : goal.decreases-loop-at
decreases-loop-at g l = l.upto - l.from

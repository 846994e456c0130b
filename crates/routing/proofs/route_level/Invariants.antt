-- What the loop of `route_level` keeps.
use Rattle.std.proofs.Common.{◌≡◌, ◌+◌, min, ◌++◌, length, take, drop}
use Rattle.interest.specs.Sides.{opposite}
use Rattle.sharing.specs.Totals.{total, contracts as sizes}
use Rattle.book.specs.Ranks.{can_route}
use Rattle.book.specs.Books.{rows_of}
use Rattle.book.specs.Rewrites.{route_row}
use Rattle.levels.specs.Levels.{level_at}
use Rattle.routing.specs.Routes.{count_at, served, SentFor}
use Rattle.routing.proofs.route_level.Given as goal

abbrev pub invariant-loop-i : goal.invariant-loop-i
invariant-loop-i g l =
    let shown = g.M.ShownMarket.shown in
    let part = can_route l.side in
    let q = count_at (shown l.market (opposite l.side)) l.price in
    let q0 = count_at (shown l.initial.market (opposite l.side)) l.price in
    (length (rows_of l.book) ≡ l.i-end)
    × (take l.i (rows_of l.book) ++ served part route_row l.at q (drop l.i (rows_of l.book)) ≡ served part route_row l.at q0 (rows_of l.initial.book))
    × (l.sent + min q (total (sizes (level_at part l.at (drop l.i (rows_of l.book))))) ≡ min q0 (total (sizes (level_at part l.at (rows_of l.initial.book)))))
    × SentFor l.side l.sent (shown l.initial.market) (shown l.market)

-- The proof of `route_level`.
use Rattle.std.proofs.Common.{◌≡◌, ℕ, ◌+◌, ◌-◌, ◌<◌, ◌≤◌, min, true, false, List, ◌++◌, length, get_or, take, drop, sym, ap, ◌∙◌, subst, arith}
use Rattle.std.proofs.lemmas.List.{drop_all}
use Rattle.interest.specs.declared.Side.{Side}
use Rattle.interest.specs.Sides.{opposite}
use Rattle.market.specs.Counts.{counted}
use Rattle.sharing.specs.declared.level.Holding.{Holding}
use Rattle.sharing.specs.Totals.{total, contracts as sizes}
use Rattle.book.specs.declared.row.Row.{Row}
use Rattle.book.specs.Ranks.{can_route}
use Rattle.book.specs.Books.{rows_of}
use Rattle.book.proofs.RewriteFacts.{changed-length, rows_few}
use Rattle.book.specs.Rewrites.{changed_at, route_row}
use Rattle.levels.specs.Levels.{level_at}
use Rattle.levels.proofs.Dealing.{level-total}
use Rattle.levels.proofs.Walking.{stands_read, here-no}
use Rattle.routing.specs.Routes.{count_at, served}
use Rattle.routing.proofs.Sending.{counted_is, count_less, opposite-twice, serve-yes, sum-yes, serve-no, level-fits}
use Rattle.routing.proofs.route_level.Goals as goal
use Rattle.routing.proofs.route_level.Goals.{then-stands_at, else-stands_at}

-- the answer of a send to the side that rows of `side` face, over the copy of the row that was read
answer : (f : Side → ℕ → ℕ) (s o : Side) (p n i : ℕ) (d : Row) (seen rows : List Row) → o ≡ opposite s → seen ≡ rows → n ≡ counted (f o) p (get_or seen i d).left → n ≡ min (get_or rows i d).left (count_at (f (opposite s)) p)
answer f s o p n i d seen rows eo e h =
    h ∙ counted_is (f o) p (get_or seen i d).left ∙ ap (λ (x : Side). min (get_or seen i d).left (count_at (f x) p)) eo ∙ ap (λ (xs : List Row). min (get_or xs i d).left (count_at (f (opposite s)) p)) e

pub overflow_add-sent : goal.overflow_add-sent
overflow_add-sent g c =
    let part = can_route c.args.side in
    let shown = g.M.ShownMarket.shown in
    let rows = rows_of c.loop-i.book in
    let q = count_at (shown c.loop-i.market (opposite c.args.side)) c.args.price in
    let lt : c.loop-i.i < length rows = omega (arith, c.loop-i.invariant.0, c.loop-i-test.true) in
    let h = stands_read part c.args.at c.loop-i.i _ c.rows.result.now rows true c.rows.ensures (sym c.if-stands_at.ensures) in
    let n = answer (shown c.loop-i.market) c.args.side c.opposite.result c.args.price c.send-n.result c.loop-i.i _ c.rows.result.now rows c.opposite.ensures c.rows.ensures c.send-n.ensures.answer in
    omega (arith, c.loop-i.invariant.2, sum-yes part route_row c.args.at rows c.loop-i.i _ lt q c.send-n.result (q - c.send-n.result) h n (omega arith), level-fits part c.args.at (rows_of c.args.book.now) (rows_few c.args.book.now) c.args.book.now.sound)

pub loop-i-preserved : goal.loop-i-preserved
loop-i-preserved g c =
    let part = can_route c.args.side in
    let side = c.args.side in
    let shown = g.M.ShownMarket.shown in
    let k = c.args.at in
    let i = c.loop-i.i in
    let rows = rows_of c.loop-i.book in
    let lt : i < length rows = omega (arith, c.loop-i.invariant.0, c.loop-i-test.true) in
    let q = count_at (shown c.loop-i.market (opposite side)) c.args.price in
    let q' = count_at (shown c.if-stands_at.market (opposite side)) c.args.price in
    let S : List Row → ℕ = λ xs. total (sizes (level_at part k (drop (i + 1) xs))) in
    elim c.if-stands_at.branch [
      | then-stands_at w ↦
          let h = stands_read part k i _ c.rows.result.now rows true c.rows.ensures (sym w.if-stands_at.ensures) in
          let n = w.send-n.result in
          let en = answer (shown c.loop-i.market) side w.opposite.result c.args.price n i _ c.rows.result.now rows w.opposite.ensures c.rows.ensures w.send-n.ensures.answer in
          let now : rows_of c.if-stands_at.book ≡ changed_at i (route_row n) rows = ap rows_of w.book-is ∙ w.route.ensures in
          let fell : (p : ℕ) → shown c.if-stands_at.market (opposite side) p ≡ shown c.loop-i.market (opposite side) p - n = λ p.
          ap (λ m. shown m (opposite side) p) w.market-is ∙ subst (λ (s : Side). shown w.send-n.new.self s p ≡ shown c.loop-i.market s p - n) w.opposite.ensures (w.send-n.ensures.taken p) in
          let same : (p : ℕ) → shown c.if-stands_at.market side p ≡ shown c.loop-i.market side p = λ p.
          ap (λ m. shown m side p) w.market-is ∙ subst (λ (s : Side). shown w.send-n.new.self s p ≡ shown c.loop-i.market s p) (ap opposite w.opposite.ensures ∙ opposite-twice side) (w.send-n.ensures.stays p) in
          let eq : q' ≡ q - n = count_less (shown c.loop-i.market (opposite side)) (shown c.if-stands_at.market (opposite side)) c.args.price n fell in
          let sums = sum-yes part route_row k rows i _ lt q n q' h en eq in (
            ap length now ∙ changed-length i (route_row n) rows ∙ c.loop-i.invariant.0,
            ap (λ (xs : List Row). take (i + 1) xs ++ served part route_row k q' (drop (i + 1) xs)) now ∙ serve-yes part route_row k rows i _ lt q n q' h en eq ∙ c.loop-i.invariant.1,
            omega (arith, sums, ap S now, w.sent-is, c.loop-i.invariant.2),
            record {
              taken = λ p. omega (arith, fell p, w.sent-is, c.loop-i.invariant.3.taken p);
              stays = λ p. same p ∙ c.loop-i.invariant.3.stays p;
            },
          )
      | else-stands_at w ↦
          let h = stands_read part k i _ c.rows.result.now rows false c.rows.ensures (sym w.if-stands_at.ensures) in
          let now : rows_of c.if-stands_at.book ≡ rows = ap rows_of w.book-is in
          let eq : q' ≡ q = ap (λ m. count_at (shown m (opposite side)) c.args.price) w.market-is in
          let none = ap (λ (xs : List Holding). total (sizes xs)) (here-no part k rows i _ lt h) in (
            ap length now ∙ c.loop-i.invariant.0,
            ap (λ (xs : List Row). take (i + 1) xs ++ served part route_row k q' (drop (i + 1) xs)) now ∙ ap (λ (x : ℕ). take (i + 1) rows ++ served part route_row k x (drop (i + 1) rows)) eq ∙ serve-no part route_row k rows i _ lt q h ∙ c.loop-i.invariant.1,
            omega (arith, eq, ap S now, none, w.sent-is, c.loop-i.invariant.2),
            record {
              taken = λ p. ap (λ m. shown m (opposite side) p) w.market-is ∙ c.loop-i.invariant.3.taken p ∙ ap (λ (x : ℕ). shown c.args.market.now (opposite side) p - x) (sym w.sent-is);
              stays = λ p. ap (λ m. shown m side p) w.market-is ∙ c.loop-i.invariant.3.stays p;
            },
          )
    ]

pub returns-clause-sent : goal.returns-clause-sent
returns-clause-sent g c =
    let part = can_route c.args.side in
    let rows = rows_of c.loop-i.book in
    let past : length rows ≤ c.loop-i.i = omega (arith, c.loop-i.invariant.0, c.loop-i-test.false) in
    let over : total (sizes (level_at part c.args.at (drop c.loop-i.i rows))) ≡ 0 = ap (λ (xs : List Row). total (sizes (level_at part c.args.at xs))) (drop_all c.loop-i.i rows past) in
    omega (arith, c.loop-i.invariant.2, over, level-total part c.args.at (rows_of c.args.book.now))

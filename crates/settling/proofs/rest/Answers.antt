-- The proof of `rest`.
use Rattle.std.proofs.Common.{◌≡◌, ℕ, ◌+◌, ◌<◌, Bool, List, ◌++◌, map, length, get_or, take, drop, Option, ap, ◌∙◌, arith}
use Rattle.interest.specs.declared.Side.{Side}
use Rattle.market.specs.Counts.{best_of}
use Rattle.book.specs.declared.row.Row.{Row}
use Rattle.book.specs.Books.{rows_of}
use Rattle.book.specs.Rewrites.{rest_row}
use Rattle.book.proofs.RewriteFacts.{changed-length, map-step}
use Rattle.settling.specs.declared.Resting.{Resting}
use Rattle.settling.specs.Settles.{place_of, rested_row}
use Rattle.settling.proofs.rest.Goals as goal

-- the place found for the copy of the row that was read
placed : (permitted : ℕ → Bool) (away : Side → Option ℕ) (i : ℕ) (d : Row) (seen rows : List Row) (at : Resting) → seen ≡ rows → at ≡ place_of permitted away (get_or seen i d) → rest_row at.working at.shown (get_or rows i d) ≡ rested_row permitted away (get_or rows i d)
placed permitted away i d seen rows at e h =
    let is : at ≡ place_of permitted away (get_or rows i d) = h ∙ ap (λ (xs : List Row). place_of permitted away (get_or xs i d)) e in
    ap (λ (x : Resting). rest_row x.working x.shown (get_or rows i d)) is

pub loop-i-preserved : goal.loop-i-preserved
loop-i-preserved g c =
    let permitted = g.L.Ladder.permitted c.args.ladder.now in
    let away : Side → Option ℕ = λ side. best_of side (g.M.ShownMarket.shown c.args.market.now side) in
    let i = c.loop-i.i in
    let rows = rows_of c.loop-i.book in
    let at = c.resting_of-at.result in
    let lt : i < length rows = omega (arith, c.loop-i.invariant.0, c.loop-i-test.true) in
    let same = placed permitted away i _ c.rows.result.now rows at c.rows.ensures c.resting_of-at.ensures in
    let now = c.rest.ensures in (
      ap length now ∙ changed-length i (rest_row at.working at.shown) rows ∙ c.loop-i.invariant.0,
      ap (λ (xs : List Row). take (i + 1) xs ++ map (rested_row permitted away) (drop (i + 1) xs)) now ∙ map-step (rested_row permitted away) (rest_row at.working at.shown) i rows _ lt same ∙ c.loop-i.invariant.1,
    )

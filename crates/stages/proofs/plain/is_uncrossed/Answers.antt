-- A permitted price has both buys and sells if there is one from the best sell to the best buy.
use Rattle.std.proofs.Common.{◌≡◌, ℕ, ◌-◌, min, max, Bool, true, eqb, ltb, List, Some, None, Option, MatchOption, IsTrue, sym, ◌∙◌, subst, arith, of_calls}
use Rattle.std.proofs.lemmas.Bool.{both_ways}
use Rattle.interest.specs.declared.Side.{Side}
use Rattle.interest.specs.declared.Side.TheVariants.{Buy, Sell}
use Rattle.ladder.specs.Rungs.{Least}
use Rattle.ladder.proofs.Found.{priced-from}
use Rattle.book.specs.declared.row.Row.{Row}
use Rattle.book.specs.Books.{rows_of}
use Rattle.book.specs.Rows.{every, sound_row}
use Rattle.book.specs.Ranks.{of_side}
use Rattle.book.proofs.SumFacts.{book-sound}
use Rattle.levels.specs.Levels.{NextRank}
use Rattle.pricing.proofs.Walks.{Within}
use Rattle.stages.specs.Looks.{crossable}
use Rattle.stages.proofs.Crossings.{Edge, most-crossing, edge_of, side-absent, least-crosses}
use Rattle.stages.proofs.plain.is_uncrossed.Goals as goal

-- of the rows as they were read
next-read : (side : Side) (seen rows : List Row) (o : Option ℕ) → seen ≡ rows → NextRank (of_side side) 0 100001 seen o → NextRank (of_side side) 0 100001 rows o
next-read side seen rows o e next = subst (λ (rs : List Row). NextRank (of_side side) 0 100001 rs o) e next

-- from the least permitted price of those from the best sell on; there is one, since the highest price is permitted
module _ (permitted : ℕ → Bool) (rows : List Row) (within : Within permitted) (highest : permitted 100000 ≡ true) where
  by_least : (kb ks : ℕ) (o : Option ℕ) (r : Bool) → Edge Buy rows kb → Edge Sell rows ks → Least permitted (max ks 1) o → MatchOption o (IsTrue r) (λ q. r ≡ ltb (min 100000 (100001 - kb)) q) → r ≡ eqb (crossable permitted rows) 0
  by_least kb ks (Some q) r buy sell least is = is ∙ least-crosses permitted rows within kb ks q buy sell least
  by_least kb ks None r buy sell least is = absurd (both_ways _ (least 100000 (omega arith) (omega arith)) highest)

absent : (permitted : ℕ → Bool) (rows seen : List Row) (side : Side) → Within permitted → every sound_row rows ≡ true → seen ≡ rows → NextRank (of_side side) 0 100001 seen None → true ≡ eqb (crossable permitted rows) 0
absent permitted rows seen side within sound e next = sym (side-absent permitted rows within side sound (next-read side seen rows None e next))

pub returns-in_default : goal.returns-in_default
returns-in_default g c =
    let b = c.args.book.now in
    let permitted = g.L.Ladder.permitted c.args.ladder.now in
    let within = g.met.L.Ladder.within c.args.ladder.now in
    record { is = absent permitted (rows_of b) c.rows.result.now Buy within (book-sound b) c.rows.ensures c.in_default.ensures.next; most = most-crossing 100000 permitted (rows_of b) within }

pub returns-in_default-next_rank : goal.returns-in_default-next_rank
returns-in_default-next_rank g c =
    let b = c.args.book.now in
    let permitted = g.L.Ladder.permitted c.args.ladder.now in
    let within = g.met.L.Ladder.within c.args.ladder.now in
    record { is = absent permitted (rows_of b) c.rows-2.result.now Sell within (book-sound b) c.rows-2.ensures c.in_default-next_rank.ensures.next; most = most-crossing 100000 permitted (rows_of b) within }

pub returns : goal.returns
returns g c =
    let b = c.args.book.now in
    let permitted = g.L.Ladder.permitted c.args.ladder.now in
    let kb = c.in-Some.buys in
    let ks = c.in-Some-next_rank.sells in
    let buy = edge_of Buy (rows_of b) kb (book-sound b) (next-read Buy c.rows.result.now (rows_of b) (Some kb) c.rows.ensures c.in-Some.ensures.next) in
    let sell = edge_of Sell (rows_of b) ks (book-sound b) (next-read Sell c.rows-2.result.now (rows_of b) (Some ks) c.rows-2.ensures c.in-Some-next_rank.ensures.next) in
    let least : Least permitted c.max.result c.at_or_above.result = c.at_or_above.ensures.least (priced-from c.max.result (omega (arith, c.max.ensures)) (omega (arith, c.max.ensures, sell.top))) in
    let same = subst (λ (n : ℕ). Least permitted n c.at_or_above.result) c.max.ensures least in
    let within = g.met.L.Ladder.within c.args.ladder.now in
    let found : MatchOption c.at_or_above.result (IsTrue c.is_none_or.result) (λ q. c.is_none_or.result ≡ ltb c.highest_taken-top.result q) = search (of_calls, c.is_none_or.ensures) in
    let is = subst (λ (n : ℕ). MatchOption c.at_or_above.result (IsTrue c.is_none_or.result) (λ q. c.is_none_or.result ≡ ltb n q)) c.highest_taken-top.ensures found in
    record { is = by_least permitted (rows_of b) within (g.met.L.Ladder.top c.args.ladder.now) kb ks c.at_or_above.result c.is_none_or.result buy sell same is; most = most-crossing 100000 permitted (rows_of b) within }

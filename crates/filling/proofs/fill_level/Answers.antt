-- The proof of `fill_level`.
use Rattle.std.proofs.Common.{ℕ, List, ap, ◌∙◌}
use Rattle.sharing.specs.declared.level.Holding.{Holding}
use Rattle.book.specs.declared.row.Row.{Row}
use Rattle.book.specs.Ranks.{of_side}
use Rattle.book.specs.Books.{rows_of}
use Rattle.book.specs.Rewrites.{trade_row}
use Rattle.levels.specs.Deals.{deal}
use Rattle.filling.proofs.fill_level.Goals as goal

pub returns-clause-rows : goal.returns-clause-rows
returns-clause-rows g c =
    let part = of_side c.args.side in
    let rows = rows_of c.args.book.now in
    let shares = g.R.SharingRule.shares c.args.rule.now c.args.rest in
    let D : List ℕ → List Row = λ s. deal part trade_row c.args.at s 0 rows in
    c.hand_out.ensures ∙ ap D (c.deref.ensures.0 ∙ c.share-shares.ensures) ∙ ap (λ (xs : List Holding). D (shares xs)) c.gather-gathered.ensures.level

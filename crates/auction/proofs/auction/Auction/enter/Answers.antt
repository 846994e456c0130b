-- The proof of `enter`.
use Rattle.book.specs.Books.{rows_of}
use Rattle.book.specs.Edits.{added}
use Rattle.runs.specs.Steps.{Entered}
use Rattle.runs.specs.Laws.Step.{entered}
use Rattle.auction.specs.Auctions.{view, terms_of}
use Rattle.auction.proofs.Calls.{edited}
use Rattle.auction.proofs.Moves.{extends}
use Rattle.auction.proofs.auction.Auction.enter.Goals as goal

pub returns : goal.returns
returns g c =
    let a = c.args.self.now in
    let b = c.add_order.new.self in
    let r = c.add_order.result in
    let did = c.add_order.ensures in
    let state = edited r (view a) (added c.args.order (rows_of a.book)) (rows_of b.book) b.stage b.last did.rows did.stays.stage did.stays.last in
    let step : Entered (terms_of g.L.Ladder.permitted g.R.SharingRule.shares a) (view a) c.args.order r (view b) = record { sound = a.book.sound; answer = did.answer; state = state; effects = did.effects } in
    record { step = step; kept = did.stays.kept; run = extends g.L.Ladder.permitted g.R.SharingRule.shares a b _ did.stays.kept (entered step) }

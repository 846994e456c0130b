-- The proof of `pull`.
use Rattle.book.specs.Books.{rows_of}
use Rattle.book.specs.Edits.{without_quote}
use Rattle.runs.specs.Steps.{Pulled}
use Rattle.runs.specs.Laws.Step.{pulled}
use Rattle.auction.specs.Auctions.{view}
use Rattle.auction.proofs.Calls.{edited}
use Rattle.auction.proofs.Moves.{extends}
use Rattle.auction.proofs.auction.Auction.pull.Goals as goal

pub returns : goal.returns
returns g c =
    let a = c.args.self.now in
    let b = c.take_quote.new.self in
    let r = c.take_quote.result in
    let did = c.take_quote.ensures in
    let state = edited r (view a) (without_quote c.args.maker (rows_of a.book)) (rows_of b.book) b.stage b.last did.rows did.stays.stage did.stays.last in
    let step : Pulled (view a) c.args.maker r (view b) = record { sound = a.book.sound; answer = did.answer; state = state; effects = did.effects } in
    record { step = step; kept = did.stays.kept; run = extends g.L.Ladder.permitted g.R.SharingRule.shares a b _ did.stays.kept (pulled step) }

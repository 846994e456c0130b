-- The proof of `quote`.
use Rattle.book.specs.Books.{rows_of}
use Rattle.book.specs.Edits.{quoted as rows_quoted}
use Rattle.runs.specs.Steps.{Quoted}
use Rattle.runs.specs.Laws.Step.{quoted}
use Rattle.auction.specs.Auctions.{view, terms_of}
use Rattle.auction.proofs.Calls.{edited}
use Rattle.auction.proofs.Moves.{extends}
use Rattle.auction.proofs.auction.Auction.quote.Goals as goal

pub returns : goal.returns
returns g c =
    let a = c.args.self.now in
    let b = c.set_quote.new.self in
    let r = c.set_quote.result in
    let did = c.set_quote.ensures in
    let state = edited r (view a) (rows_quoted c.args.maker c.args.quote (rows_of a.book)) (rows_of b.book) b.stage b.last did.rows did.stays.stage did.stays.last in
    let step : Quoted (terms_of g.L.Ladder.permitted g.R.SharingRule.shares a) (view a) c.args.maker c.args.quote r (view b) = record { sound = a.book.sound; answer = did.answer; state = state; effects = did.effects } in
    record { step = step; kept = did.stays.kept; run = extends g.L.Ladder.permitted g.R.SharingRule.shares a b _ did.stays.kept (quoted step) }

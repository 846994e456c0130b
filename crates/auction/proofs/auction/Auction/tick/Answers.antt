-- The proof of `tick`.
use Rattle.std.proofs.Common.{◌≡◌, Err, refl, ap, ◌∙◌, rules}
use Rattle.book.specs.Books.{rows_of}
use Rattle.runs.specs.Ticks.{tick_of}
use Rattle.runs.specs.Laws.Step.{ticked}
use Rattle.auction.specs.Auctions.{view, terms_of, Kept}
use Rattle.auction.proofs.Moves.{same-state, same-terms, tick-refused, tick-after, extends}
use Rattle.auction.proofs.auction.Auction.tick.Goals as goal

pub returns-in_err-admit-clause-run : goal.returns-in_err-admit-clause-run
returns-in_err-admit-clause-run g c =
    let a = c.args.self.now in
    let b = c.admit.new.self in
    let told = c.in_err-admit.ensures in
    let shown = g.M.ShownMarket.shown c.args.market.now in
    let refusal = c.in_err-admit.field-0.0 in
    let is : c.from_residual.result ≡ Err refusal = search rules in
    let stays = same-state (rows_of b.book) (rows_of a.book) b.stage a.stage b.last a.last (ap rows_of told.book) told.stage told.clock in
    let step = tick-refused (terms_of g.L.Ladder.permitted g.R.SharingRule.shares a) (view a) (view b) (tick_of c.args.time c.args.underlying shown shown) c.from_residual.result refusal is (g.met.M.ShownMarket.worsens c.args.market.now) told.cause stays (λ side q. refl) in
    extends g.L.Ladder.permitted g.R.SharingRule.shares a b _ c.admit.ensures.kept (ticked step)

pub returns : goal.returns
returns g c =
    let a = c.args.self.now in
    let m = c.admit.new.self in
    let b = c.act.new.self in
    let permitted = g.L.Ladder.permitted in
    let shares = g.R.SharingRule.shares in
    let left = g.M.ShownMarket.shown c.act.new.market in
    let k = tick_of c.args.time c.args.underlying (g.M.ShownMarket.shown c.args.market.now) left in
    let told = c.in_ok-admit.ensures in
    let kept = c.admit.ensures.kept in
    let did = c.act.ensures in
    let both : Kept a b = record { ladder = did.kept.ladder ∙ kept.ladder; rule = did.kept.rule ∙ kept.rule; settings = did.kept.settings ∙ kept.settings } in
    let terms = same-terms _ _ _ _ _ _ (ap permitted kept.ladder) (ap shares kept.rule) kept.settings in
    let step = tick-after (terms_of permitted shares a) (terms_of permitted shares m) (view a) (view m) k c.decision-decision.result c.act.result (rows_of b.book) b.stage b.last
    terms (ap rows_of told.book) told.stage (g.met.M.ShownMarket.worsens c.args.market.now) told.cause (c.decision-decision.ensures left)
    did.answer did.rows did.stage (did.last ∙ told.clock) did.counts (did.carried c.args.underlying) in
    record {
      step = step;
      kept = both;
      run = extends permitted shares a b _ both (ticked step);
    }

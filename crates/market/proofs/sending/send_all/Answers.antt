-- Each turn makes the first of the sends that are left.
use Rattle.std.proofs.Common.{◌≡◌, ◌+◌, get_or, drop, ap, ◌∙◌, arith}
use Rattle.std.proofs.lemmas.List.{drop_all, at_drop_more}
use Rattle.market.specs.declared.sending.Sending.{Sending}
use Rattle.market.specs.Sends.{sent_in_all}
use Rattle.market.proofs.SendLists.{all_first, all-at-one}
use Rattle.market.proofs.sending.send_all.Goals as goal

pub loop-sending-preserved : goal.loop-sending-preserved
loop-sending-preserved g c =
    let d = c.args.side in
    let ss = c.args.sendings.now in
    let i = c.loop-sending.sending-index in
    let f = g.M.ShownMarket.shown c.loop-sending.market d in
    let h = g.M.ShownMarket.shown c.send.new.self d in
    let inv = c.loop-sending.invariant in
    let none : Sending = record { price = 0; contracts = 0 } in
    let was = at_drop_more (λ xs. sent_in_all f xs) ss i none c.loop-sending-test.true in
    let first = all_first f h (get_or ss i none) (drop (i + 1) ss) c.send.result c.send.ensures.answer c.send.ensures.taken in (
      omega (arith, inv.0, c.send.type_inv),
      λ p. omega (arith, inv.1 p, c.send.ensures.taken p),
      λ p. c.send.ensures.stays p ∙ inv.2 p,
      omega (arith, inv.3),
    )

pub returns : goal.returns
returns g c =
    let d = c.args.side in
    let ss = c.args.sendings.now in
    let inv = c.loop-sending.invariant in
    let f = g.M.ShownMarket.shown c.args.market.now d in
    let end : sent_in_all (g.M.ShownMarket.shown c.loop-sending.market d) (drop c.loop-sending.sending-index ss) ≡ 0 =
    ap (λ xs. sent_in_all (g.M.ShownMarket.shown c.loop-sending.market d) xs) (drop_all c.loop-sending.sending-index ss c.loop-sending-test.false) in
    let answer : c.loop-sending.total ≡ sent_in_all f ss = omega (arith, inv.3) in
    record {
      answer = answer;
      taken = inv.1;
      stays = inv.2;
      one_price = λ p h. answer ∙ all-at-one ss f p h;
    }

-- Each turn takes from the foremost level; at the end each level has given its part, and the levels that count are written back.
use Rattle.std.proofs.Common.{◌≡◌, ◌-◌, ◌≤◌, ◌⊎◌, List, ◌++◌, take, drop, length, length-take, ap, get_or, Some, None, Option, ℕ, subst, rules, sym, ◌∙◌, inl, inr, arith}
use Rattle.interest.specs.Sides.{opposite}
use Rattle.market.specs.declared.depth.DepthLevel.{DepthLevel}
use Rattle.market.specs.Counts.{counted}
use Rattle.market.specs.Depths.{cut, put_back, rest_back}
use Rattle.market.specs.Levels.{levels_show, blank, Foremost, Sent}
use Rattle.market.proofs.Sends.{sent-all}
use Rattle.market.proofs.Placed.{placed_less, nothing-shown}
use Rattle.market.proofs.Lowers.{lowered-more, other-stays, counts-less, still-shown, past-foremost, gave}
use Rattle.market.proofs.depth.send_of.Goals as goal
use Rattle.market.proofs.depth.send_of.Goals.{else-loop-left-test, then-loop-left-test+in-Some+else-reached, then-loop-left-test+in-None-1}

pub loop-left-preserved : goal.loop-left-preserved
loop-left-preserved c =
    let d = c.args.side in
    let ls = take c.min-top.result c.args.levels.now in
    let cur = c.loop-left.counting in
    let k = c.in-Some.at in
    let m = c.min-m.result in
    let sent = c.args.n - c.loop-left.left in
    let inv = c.loop-left.invariant in
    let u : Foremost d cur (length cur) (Some k) = c.in-Some.ensures in
    let most : m ≤ (get_or cur k blank).size = omega (arith, c.min-m.ensures) in
    let fits : m ≤ c.loop-left.left = omega (arith, c.min-m.ensures) in
    let shown = still-shown d ls cur sent inv.4.0 inv.1 k m c.args.price u (sym c.if-reached.ensures) most in (
      omega (arith, inv.0),
      λ i p. omega (arith, inv.0, inv.1 i p, placed_less d cur k m u most i p),
      omega (arith, inv.0, inv.2),
      λ p. other-stays d cur k m u.0 u.1 p ∙ inv.3 p,
      lowered-more d ls cur k m u.0 u.1 inv.4,
    )

pub returns : goal.returns
returns c =
    let d = c.args.side in
    let q = c.args.price in
    let ls = take c.min-top.result c.args.levels.now in
    let cur = c.loop-left.counting in
    let sent = c.args.n - c.loop-left.left in
    let inv = c.loop-left.invariant in
    let e = sym c.if-not-is_price.ensures in
    let less = counts-less d ls cur sent inv.4.0 inv.1 in
    let over : (c.loop-left.left ≡ 0) ⊎ (levels_show d ls q - sent ≡ 0) =
    elim c.loop-left-test.branch [
      | else-loop-left-test w ↦ inl (omega arith)
      | then-loop-left-test+in-Some+else-reached w ↦ inr (past-foremost d ls cur sent inv.4.0 inv.1 w.in-Some.at q w.in-Some.ensures (sym w.if-reached.ensures))
      | then-loop-left-test+in-None-1 w ↦ let z : w.foremost.result ≡ None = search rules in let u : Foremost d cur (length cur) None = subst (λ (o : Option ℕ). Foremost d cur (length cur) o) z w.foremost.ensures in inr (sym (less q) ∙ nothing-shown d cur u q)
    ] in
    let answer = sent-all (levels_show d ls) q c.args.n c.loop-left.left e inv.0 inv.2 over in
    let all = c.args.levels.now in
    let top = c.min-top.result in
    let after = c.loop-left-test.levels in
    let front = cut all 64 top c.min-top.ensures in
    let end : after ≡ cur ++ drop top all =
    elim c.loop-left-test.branch [
      | else-loop-left-test w ↦ w.levels-is
      | then-loop-left-test+in-Some+else-reached w ↦ w.levels-is
      | then-loop-left-test+in-None-1 w ↦ w.levels-is
    ] in
    let long : length cur ≡ top = omega (arith, inv.4.0, length-take top all) in
    let back = ap (λ (x : List DepthLevel). take 64 x) end ∙ put_back all cur 64 top c.min-top.ensures long in
    record {
      answer = answer ∙ ap (λ x. counted (levels_show d x) q c.args.n) front;
      taken = λ p. ap (λ x. levels_show d x p) back ∙ less p ∙ ap (λ x. levels_show d x p - sent) front;
      stays = λ p. ap (λ x. levels_show (opposite d) x p) back ∙ inv.3 p ∙ ap (λ x. levels_show (opposite d) x p) front;
      table = record {
        counting = subst (λ (y : List DepthLevel). Sent d q c.args.n (take 64 all) y) (sym back)
            (subst (λ (x : List DepthLevel). Sent d q c.args.n x cur) front (record { long = inv.4.0; each = gave d ls cur q c.args.n sent e answer inv.4 inv.1 }));
        rest = ap (λ (x : List DepthLevel). drop 64 x) end ∙ rest_back all cur 64 top c.min-top.ensures long;
      };
    }

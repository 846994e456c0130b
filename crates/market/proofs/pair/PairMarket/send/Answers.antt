-- Each turn takes at the best price of both; at the end all is sent, or nothing more is shown there.
use Rattle.std.proofs.Common.{◌≡◌, ℕ, ◌+◌, ◌-◌, min, ◌⊎◌, Some, None, Option, rules, sym, refl, ◌∙◌, subst, inl, inr, arith}
use Rattle.std.proofs.lemmas.Bool.{cond-false}
use Rattle.interest.specs.Bounds.{priced}
use Rattle.market.specs.Counts.{Best}
use Rattle.market.specs.Pairs.{Split}
use Rattle.market.proofs.Sends.{turn-fits, turn-less, turn-most, turn-some, turn-split, no-split, sent-all, none-there, past-there}
use Rattle.market.proofs.pair.PairMarket.send.Given as given
use Rattle.market.proofs.pair.PairMarket.send.Goals as goal
use Rattle.market.proofs.pair.PairMarket.send.Goals.{else-loop-left-test, then-loop-left-test+in-Some+else-reached, then-loop-left-test+in-None-1}

-- the level is the best of both markets together
level : (g : given.Over) (c : goal.After-send-left-in-loop-left g) → Best c.args.side (λ p. g.A.ShownMarket.shown c.loop-left.self.first c.args.side p + g.B.ShownMarket.shown c.loop-left.self.second c.args.side p) (Some c.in-Some.level)
level g c = c.in-Some.ensures.first

pub loop-left-init : goal.loop-left-init
loop-left-init g c =
    let d = c.args.side in
    let f = g.A.ShownMarket.shown c.args.self.now.first d in
    let h = g.B.ShownMarket.shown c.args.self.now.second d in (
      omega arith,
      λ p. omega arith,
      omega arith,
      λ p. omega arith,
      subst (λ (m : ℕ). Split d f h f h m) (let z : 0 ≡ c.args.n - c.args.n = omega arith in z) (no-split d f h),
    )

pub loop-left-preserved : goal.loop-left-preserved
loop-left-preserved g c =
    let d = c.args.side in
    let f = g.A.ShownMarket.shown c.loop-left.self.first d in
    let h = g.B.ShownMarket.shown c.loop-left.self.second d in
    let mf = g.met.A.ShownMarket.worsens c.loop-left.self.first d in
    let mh = g.met.B.ShownMarket.worsens c.loop-left.self.second d in
    let ef = g.met.A.ShownMarket.edge c.loop-left.self.first d in
    let eh = g.met.B.ShownMarket.edge c.loop-left.self.second d in
    let x = c.send-left.result in
    let y = c.send-left-in-loop-left.result in
    let fits = turn-fits d f h mf mh ef eh c.in-Some.level x y c.loop-left.left (level g c) c.send-left.ensures.answer c.send-left-in-loop-left.ensures.answer in
    let less = turn-less d f h mf mh ef eh c.in-Some.level x y c.loop-left.left (level g c) c.send-left.ensures.answer c.send-left-in-loop-left.ensures.answer
    (g.A.ShownMarket.shown c.send-left.new.self d) (g.B.ShownMarket.shown c.send-left-in-loop-left.new.self d) c.send-left.ensures.taken c.send-left-in-loop-left.ensures.taken in
    let most = turn-most d f h mf mh ef eh c.in-Some.level x y c.loop-left.left (level g c) c.send-left.ensures.answer c.send-left-in-loop-left.ensures.answer c.args.price (sym c.if-reached.ensures) in
    let f₀ = g.A.ShownMarket.shown c.args.self.now.first d in
    let h₀ = g.B.ShownMarket.shown c.args.self.now.second d in
    let f' = g.A.ShownMarket.shown c.send-left.new.self d in
    let h' = g.B.ShownMarket.shown c.send-left-in-loop-left.new.self d in
    let split = turn-split d f h mf mh ef eh c.in-Some.level x y c.loop-left.left (level g c) c.send-left.ensures.answer c.send-left-in-loop-left.ensures.answer
    f₀ h₀ f' h' (c.args.n - c.loop-left.left) (g.met.A.ShownMarket.worsens c.args.self.now.first d) (g.met.B.ShownMarket.worsens c.args.self.now.second d)
    (omega arith) c.loop-left.invariant.4 c.send-left.ensures.taken c.send-left-in-loop-left.ensures.taken in (
      omega (arith, c.loop-left.invariant.0),
      λ p. omega (arith, c.loop-left.invariant.0, fits.0, fits.1, less p, c.loop-left.invariant.1 p),
      omega (arith, c.loop-left.invariant.0, fits.0, fits.1, most, c.loop-left.invariant.1 c.args.price, c.loop-left.invariant.2),
      λ p. omega (arith, c.send-left.ensures.stays p, c.send-left-in-loop-left.ensures.stays p, c.loop-left.invariant.3 p),
      subst (λ (m : ℕ). Split d f₀ h₀ f' h' m) (let z : (c.args.n - c.loop-left.left) + x + y ≡ c.args.n - (c.loop-left.left - x - y) = omega (arith, c.loop-left.invariant.0, fits.0, fits.1) in z) split,
    )

pub loop-left-smaller : goal.loop-left-smaller
loop-left-smaller g c =
    let d = c.args.side in
    let some = turn-some d _ _ (g.met.A.ShownMarket.worsens c.loop-left.self.first d) (g.met.B.ShownMarket.worsens c.loop-left.self.second d)
    (g.met.A.ShownMarket.edge c.loop-left.self.first d) (g.met.B.ShownMarket.edge c.loop-left.self.second d)
    c.in-Some.level c.send-left.result c.send-left-in-loop-left.result c.loop-left.left (level g c) c.send-left.ensures.answer c.send-left-in-loop-left.ensures.answer (omega arith) in
    omega arith

pub returns : goal.returns
returns g c =
    let d = c.args.side in
    let q = c.args.price in
    let e = sym c.if-not-is_price.ensures in
    let f = g.A.ShownMarket.shown c.loop-left.self.first d in
    let h = g.B.ShownMarket.shown c.loop-left.self.second d in
    let old : ℕ → ℕ = λ p. g.A.ShownMarket.shown c.args.self.now.first d p + g.B.ShownMarket.shown c.args.self.now.second d p in
    let over : (c.loop-left.left ≡ 0) ⊎ (old q - (c.args.n - c.loop-left.left) ≡ 0) =
    elim c.loop-left-test.branch [
      | else-loop-left-test w ↦ inl (omega arith)
      | then-loop-left-test+in-Some+else-reached w ↦
          inr (sym (c.loop-left.invariant.1 q) ∙ past-there d (λ p. f p + h p) q w.in-Some.level e w.in-Some.ensures.first (sym w.if-reached.ensures))
      | then-loop-left-test+in-None-1 w ↦
          let z : w.best.result ≡ None = search rules in
          inr (sym (c.loop-left.invariant.1 q) ∙ none-there d (λ p. f p + h p) q e (subst (λ (o : Option ℕ). Best d (λ p. f p + h p) o) z w.best.ensures.first))
    ] in
    record {
      answer = sent-all old q c.args.n c.loop-left.left e c.loop-left.invariant.0 c.loop-left.invariant.2 over;
      taken = c.loop-left.invariant.1;
      few = omega arith;
      stays = c.loop-left.invariant.3;
      left = c.loop-left.invariant.4;
    }

pub returns-then-not-is_price : goal.returns-then-not-is_price
returns-then-not-is_price g c =
    let d = c.args.side in
    let f = g.A.ShownMarket.shown c.args.self.now.first d in
    let h = g.B.ShownMarket.shown c.args.self.now.second d in
    record {
      answer = sym (cond-false (priced c.args.price) (min c.args.n (f c.args.price + h c.args.price)) 0 (sym c.if-not-is_price.ensures));
      few = omega arith;
      taken = λ p. let z : f p + h p ≡ f p + h p - 0 = omega arith in z;
      stays = λ p. refl;
      left = no-split d f h;
    }

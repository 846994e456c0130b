-- What an opening comes to, from rows as accepted: its report, what it leaves away, and its trade.
use Rattle.std.proofs.Common.{◌≡◌, ℕ, suc, ◌+◌, ◌<◌, ◌≤◌, Bool, true, false, cond, List, [], ◌∷◌, length, get_or, Some, None, Option, sym, refl, ap, ◌∙◌, subst, inl, inr, arith}
use Rattle.std.specs.List.{AllByRecursion}
use Rattle.std.proofs.lemmas.Bool.{and_parts, both_ways, cases_lt, cond_both, eqb-true, leb-true}
use Rattle.interest.specs.declared.Side.{Side}
use Rattle.interest.specs.declared.Side.TheVariants.{Buy, Sell}
use Rattle.interest.specs.Bounds.{priced}
use Rattle.interest.specs.Sides.{opposite}
use Rattle.book.specs.declared.row.Row.{Row}
use Rattle.book.specs.Ranks.{of_side, interest_at, routable_at}
use Rattle.book.specs.Rewrites.{SameRows}
use Rattle.book.proofs.SumFacts.{routable-at-part}
use Rattle.levels.proofs.Totals.{total-cons}
use Rattle.pricing.specs.declared.figures.Mode.TheVariants as mode
use Rattle.pricing.specs.Prices.{opening, allowed, usable_at, volume_at}
use Rattle.clearing.specs.declared.opening.Kind.{Kind}
use Rattle.clearing.specs.declared.opening.Opening.{Opening}
use Rattle.clearing.specs.Kinds.{routes}
use Rattle.clearing.specs.Openings.{priced_only, traded_on, counts_left}
use Rattle.clearing.specs.Reports.{report_of}
use Rattle.clearing.specs.Promises.{better_for, Usable, takes_opening}
use Rattle.pricing.specs.Scenes.{scene}
use Rattle.runs.specs.States.{Terms}
use Rattle.runs.specs.Ticks.{Tick, Carried}
use Rattle.runs.specs.Laws.{mode_of, Trade, Opens}
use Rattle.runs.proofs.Sums.{Fresh, none-traded, none-routed}
use Rattle.runs.proofs.Chosen.{Fair}

-- A USABLE PRICE CAN BE OPENED AT

-- all better contracts can be taken by routable ones where the mode routes, and are none where it does not
allowed-few : (b : Bool) (better routable : ℕ) → allowed (cond b mode.Routing mode.Exchange) better routable ≡ true → better ≤ cond b routable 0
allowed-few true better routable e = leb-true better routable e
allowed-few false better routable e = omega (arith, eqb-true better 0 e)

few-part : (b : Bool) (better routable all : ℕ) → better ≤ cond b routable 0 → routable ≤ all → better ≤ all
few-part true better routable all le part = omega arith
few-part false better routable all le part = omega arith

pub usable-here : (k : Kind) (rows : List Row) (shown : Side → ℕ → ℕ) (p : ℕ) → usable_at (opening rows shown (mode_of k)) p ≡ true → Usable k shown p (volume_at (opening rows shown (mode_of k)) p) rows
usable-here k rows shown p e side = (few side, there side)
  where
    few : (side : Side) → better_for shown p side ≤ cond (routes k) (routable_at side p rows) 0
    few Buy = allowed-few (routes k) (better_for shown p Buy) (routable_at Buy p rows) (and_parts _ _ e).0
    few Sell = allowed-few (routes k) (better_for shown p Sell) (routable_at Sell p rows) (and_parts _ _ e).1

    covered : (side : Side) → better_for shown p side ≤ interest_at side p rows
    covered side = few-part (routes k) (better_for shown p side) (routable_at side p rows) (interest_at side p rows) (few side) (routable-at-part side p rows)

    there : (side : Side) → volume_at (opening rows shown (mode_of k)) p + better_for shown p side ≤ interest_at side p rows
    there Buy = omega (arith, covered Buy)
    there Sell = omega (arith, covered Sell)

-- a price that is told is the opening's
told-price : (price : Option ℕ) (p : ℕ) → priced_only price ≡ Some p → price ≡ Some p
told-price None p e = e
told-price (Some x) p e = by (priced x) e
  where
    by : (b : Bool) → cond b (Some x) None ≡ Some p → Some x ≡ Some p
    by true f = f
    by false f = let z : ◌≡◌ {A = ℕ} 0 1 = cc in absurd (omega arith)

-- rows of which none has traded, and none trades
untraded-rows : (side : Side) (found left : List Row) → SameRows found left → AllByRecursion Fresh found → ((i : ℕ) (d : Row) → i < length found → (get_or found i d).traded < (get_or left i d).traded → ⊥) → traded_on side left ≡ 0
untraded-rows side [] [] same fresh none = refl
untraded-rows side [] (s ∷ left) same fresh none = absurd same
untraded-rows side (r ∷ found) [] same fresh none = absurd same
untraded-rows side (r ∷ found) (s ∷ left) same fresh none =
    let rest = untraded-rows side found left same.1 fresh.1 (λ i d lt. none (suc i) d (omega arith)) in
    let zero-traded : s.traded ≡ 0 = elim (cases_lt r.traded s.traded) [ inl more ↦ absurd (none 0 r (omega arith) more) | inr le ↦ omega (arith, fresh.0.0) ] in
    let head : cond (of_side side s) s.traded 0 ≡ 0 = cond_both (of_side side s) s.traded 0 (λ (n : ℕ). n ≡ 0) (λ _. zero-traded) (λ _. refl) in
    omega (arith, head, rest, total-cons (λ (x : Row). x.traded) (of_side side) s left)

module _ (terms : Terms) (k : Tick) (o : Opening) (found left : List Row) (fresh : AllByRecursion Fresh found) (fair : Fair (scene terms.permitted terms.settings.close found k.before) o) (carried : Carried o k found left) where
  trade-at : (p : ℕ) → priced_only o.price ≡ Some p → Trade terms k (report_of o (Some p) left) p found left
  trade-at p e =
      let c = fair p (told-price o.price p e) in
      let at = opening found k.before (mode_of o.kind) in
      let same : c.choice.price ≡ p = c.price in
      let usable : usable_at at p ≡ true = subst (λ (q : ℕ). usable_at at q ≡ true) same c.best.usable in
      let exact : volume_at at p ≡ o.volume = ap (volume_at at) (sym same) ∙ sym c.best.trades ∙ c.volume in
      let open_at : Usable o.kind k.before p o.volume found = subst (λ (v : ℕ). Usable o.kind k.before p v found) exact (usable-here o.kind found k.before p usable) in
      record {
        volume = λ side. omega (arith, carried.volume p e open_at side, none-traded side found fresh);
        some = subst (λ (v : ℕ). 0 < v) c.volume c.best.some;
        on_ladder = subst (λ (q : ℕ). terms.permitted q ≡ true) same c.best.on_ladder;
        from_low = subst (λ (q : ℕ). o.range.low ≤ q) same c.best.from;
        to_high = subst (λ (q : ℕ). q ≤ o.range.high) same c.best.to;
        usable = usable;
        exact = exact;
        most = λ q low high rung can. subst (λ (v : ℕ). volume_at at q ≤ v) c.volume (c.best.most q low high rung can);
        nothing_better = carried.better p e open_at;
      }

  none-trades : priced_only o.price ≡ None → (side : Side) → traded_on side left ≡ 0
  none-trades e side = untraded-rows side found left carried.kept fresh (λ i d lt more. both_ways _ (ap (λ (t : Option ℕ). takes_opening t (get_or found i d)) e) (carried.limits i d lt more))

  pub opens : ((side : Side) (q : ℕ) → k.after side q ≡ counts_left k.before found left side q) → Opens terms k (report_of o (priced_only o.price) left) found left
  opens counts = record {
    same = carried.kept;
    routed_buys = refl;
    routed_sells = refl;
    cancelled_buys = refl;
    cancelled_sells = refl;
    away = λ side q. omega (arith, counts side q, none-routed (opposite side) found fresh);
    untraded = none-trades;
    trade = λ p e. subst (λ (told : Option ℕ). Trade terms k (report_of o told left) p found left) (sym e) (trade-at p e);
  }

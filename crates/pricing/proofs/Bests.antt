-- The choice is best.
use Rattle.std.proofs.Common.{◌≡◌, ℕ, suc, ◌+◌, ◌-◌, ◌/◌, ◌%◌, ◌<◌, ◌≤◌, Bool, true, false, ◌&&◌, eqb, ltb, ◌⊎◌, IfSome, Some, None, Option, unwrap_or, sym, refl, ap, ◌∙◌, subst, inl, inr, arith}
use Rattle.std.specs.Option.{option_map}
use Rattle.std.proofs.lemmas.Bool.{cases_lt, cases_order, and_parts, and_from, eq-eqb, eqb-true, eqb-false, both_ways, cond_both}
use Rattle.interest.specs.declared.Side.{Side}
use Rattle.interest.specs.declared.Side.TheVariants.{Buy, Sell}
use Rattle.interest.specs.Bounds.{priced}
use Rattle.ladder.specs.Rungs.{least_at_or_above, greatest_at_or_below, Least, Greatest}
use Rattle.ladder.proofs.Found.{priced-from, least-tells, greatest-tells}
use Rattle.pricing.specs.declared.search.Tally.{Tally}
use Rattle.ranges.specs.declared.Range.{Range}
use Rattle.pricing.specs.declared.figures.Mode.{Mode}
use Rattle.pricing.specs.declared.figures.Mode.TheVariants.{Exchange}
use Rattle.pricing.specs.declared.figures.Unmatched.{Unmatched}
use Rattle.pricing.specs.declared.figures.Unmatched.TheVariants.{Nothing, Buys, Sells}
use Rattle.pricing.specs.Scan.{greatest, lowest, highest}
use Rattle.pricing.specs.Prices.{Opening, usable_at, net_at, volume_at, unmatched_of, unmatched_at, side_of, same_left}
use Rattle.pricing.specs.Choosing.{distance, nearer, middle, traded_at, leaves, settled, price_with, price_of, choice_at}
use Rattle.pricing.specs.Tallies.{Seen, comes_to}
use Rattle.pricing.specs.Best.{Best, Chosen, CrossesMost}
use Rattle.pricing.specs.Scenes.{Scene, opening_in, Told}
use Rattle.pricing.proofs.Slopes.{Worsens, unmatched-buys, unmatched-sells, usable-mid, net-buys-fall, net-sells-rise, through-left, through-part, choice-crosses}
use Rattle.pricing.proofs.Walks.{Within, seen-price}
use Rattle.pricing.proofs.Scans.{Passes, greatest-bound, greatest-attained, lowest-found, highest-found, both_found, lowest-missed, highest-missed}

-- a permitted price from a to z
record Between (permitted : ℕ → Bool) (a z p : ℕ) : Type 0 where
  low : a ≤ p
  high : p ≤ z
  rung : permitted p ≡ true

-- the midpoint of two permitted prices, or a neighbour of it, lies between them
module _ (permitted : ℕ → Bool) (a z : ℕ) (bottom : 1 ≤ a) (order : a ≤ z) (top : z ≤ 100000) (at_low : permitted a ≡ true) (at_high : permitted z ≡ true) where
  under : (o : Option ℕ) → Greatest permitted ((a + z) / 2) o → Between permitted a z (unwrap_or o a)
  under None g = record { low = omega arith; high = order; rung = at_low }
  under (Some q) g = record {
    low = elim (cases_lt q a) [ inl l ↦ absurd (both_ways (permitted a) (g.3 a l (omega arith)) at_low) | inr h ↦ h ];
    high = omega (arith, g.1);
    rung = g.2;
  }

  over : (o : Option ℕ) → Least permitted ((a + z + 1) / 2) o → Between permitted a z (unwrap_or o z)
  over None g = record { low = order; high = omega arith; rung = at_high }
  over (Some q) g = record {
    low = omega (arith, g.0);
    high = elim (cases_lt z q) [ inl l ↦ absurd (both_ways (permitted z) (g.3 z (omega arith) l) at_high) | inr h ↦ h ];
    rung = g.2;
  }

  middle-between : (close : Option ℕ) → Between permitted a z (middle permitted close a z)
  middle-between close =
      cond_both (eqb ((a + z) % 2) 0 && permitted ((a + z) / 2)) ((a + z) / 2) (nearer close u o) (Between permitted a z)
      (λ e. record { low = omega arith; high = omega arith; rung = (and_parts _ _ e).1 })
      (λ _. near close)
    where
      u : ℕ
      u = unwrap_or (greatest_at_or_below permitted ((a + z) / 2)) a

      o : ℕ
      o = unwrap_or (least_at_or_above permitted ((a + z + 1) / 2)) z

      upper : Between permitted a z o
      upper = over _ (least-tells permitted ((a + z + 1) / 2) (omega arith) (omega arith))

      near : (c : Option ℕ) → Between permitted a z (nearer c u o)
      near (Some c) =
          cond_both (ltb (distance u c) (distance o c)) u o (Between permitted a z)
          (λ _. under _ (greatest-tells permitted ((a + z) / 2) (omega arith) (omega arith)))
          (λ _. upper)
      near None = upper

-- what trades may be the price
trades : (permitted : ℕ → Bool) (o : Opening) (p : ℕ) → 0 < traded_at permitted o p → (permitted p ≡ true) × (usable_at o p ≡ true) × (traded_at permitted o p ≡ volume_at o p)
trades permitted o p h = go (permitted p) (usable_at o p) refl refl
  where
    go : (x y : Bool) → permitted p ≡ x → usable_at o p ≡ y → (permitted p ≡ true) × (usable_at o p ≡ true) × (traded_at permitted o p ≡ volume_at o p)
    go true true ex ey = (ex, ey, rw (ex, ey))
    go true false ex ey = let z : traded_at permitted o p ≡ 0 = rw (ex, ey) in absurd (omega arith)
    go false y ex ey = let z : traded_at permitted o p ≡ 0 = rw ex in absurd (omega arith)

-- which side is left, by the order of the two
none-even : (b s : ℕ) → same_left (side_of (unmatched_of b s)) None ≡ true → b ≡ s
none-even b s e = elim (cases_order b s) [
  | inl h ↦ h
  | inr (inl h) ↦ let sells : false ≡ true = sym (ap left (unmatched-sells b s h)) ∙ e in cc
  | inr (inr h) ↦ let buys : false ≡ true = sym (ap left (unmatched-buys b s h)) ∙ e in cc
]
  where
    left : Unmatched → Bool
    left u = same_left (side_of u) None

some-side : (u : Unmatched) → (same_left (side_of u) None ≡ true) ⊎ ((same_left (side_of u) (Some Buy) ≡ true) ⊎ (same_left (side_of u) (Some Sell) ≡ true))
some-side Nothing = inl refl
some-side (Buys n) = inr (inl refl)
some-side (Sells n) = inr (inr refl)

module _ (permitted : ℕ → Bool) (o : Opening) (low high : ℕ) (close : Option ℕ) where
  none_more : (q : ℕ) → low ≤ q → q ≤ high → permitted q ≡ true → usable_at o q ≡ true → volume_at o q ≤ greatest (traded_at permitted o) low (suc high - low)
  none_more q f t rung u =
      let e : low + (q - low) ≡ q = omega arith in
      let same : traded_at permitted o q ≡ volume_at o q = rw (rung, u) in
      omega (arith, same, rw e at (greatest-bound (traded_at permitted o) low (suc high - low) (q - low) (omega arith)))

  -- a price of the range with the volume v
  record Top (v p : ℕ) : Type 0 where
    from : low ≤ p
    to : p ≤ high
    rung : permitted p ≡ true
    can : usable_at o p ≡ true
    vol : volume_at o p ≡ v

  top_of : (side : Option Side) (v p : ℕ) → 0 < v → Passes (leaves permitted o side v) low (suc high - low) p → Top v p × (same_left (side_of (unmatched_at o p)) side ≡ true)
  top_of side v p pos h =
      let parts = and_parts (eqb (traded_at permitted o p) v) (same_left (side_of (unmatched_at o p)) side) h.test in
      let same = eqb-true (traded_at permitted o p) v parts.0 in
      let t = trades permitted o p (omega (arith, same)) in
      (record { from = h.from; to = omega (arith, h.below, h.from); rung = t.0; can = t.1; vol = sym t.2 ∙ same }, parts.1)

  module _ (w : Worsens o.shown) (within : Within permitted) (v : ℕ) (is : v ≡ greatest (traded_at permitted o) low (suc high - low)) (pos : 0 < v) where
    best_of : (p : ℕ) → Top v p → Best permitted o low high (choice_at o p)
    best_of p t = record {
      on_ladder = t.rung;
      from = t.from;
      to = t.to;
      usable = t.can;
      trades = refl;
      some = omega (arith, t.vol);
      most = λ q f l rung u. omega (arith, none_more q f l rung u, t.vol, is);
      rest = refl;
      over = refl;
      left = through-left o p (unmatched_at o p);
      part = through-part o p t.can;
    }

    -- between the lowest and the highest price that leave nothing unmatched
    even-best : (a : ℕ) → lowest (leaves permitted o None v) low (suc high - low) ≡ Some a → Best permitted o low high (choice_at o (middle permitted close a (unwrap_or (highest (leaves permitted o None v) low (suc high - low)) a)))
    even-best a e =
        let z : ℕ = unwrap_or (highest (leaves permitted o None v) low (suc high - low)) a in
        let pair = both_found (leaves permitted o None v) low (suc high - low) a e in
        let ta = top_of None v a pos (lowest-found (leaves permitted o None v) low (suc high - low) a e) in
        let tz = top_of None v z pos pair.0 in
        let ea : net_at o Buy a ≡ net_at o Sell a = none-even _ _ ta.1 in
        let ez : net_at o Buy z ≡ net_at o Sell z = none-even _ _ tz.1 in
        let p : ℕ = middle permitted close a z in
        let m = middle-between permitted a z (within a ta.0.rung).0 pair.1 (within z tz.0.rung).1 ta.0.rung tz.0.rung close in
        best_of p (record {
          from = omega (arith, ta.0.from, m.low);
          to = omega (arith, tz.0.to, m.high);
          rung = m.rung;
          can = usable-mid o w a p z m.low m.high ta.0.can tz.0.can;
          vol = omega (arith, ta.0.vol, tz.0.vol, ea, ez, net-buys-fall o w a p m.low, net-buys-fall o w p z m.high, net-sells-rise o w a p m.low, net-sells-rise o w p z m.high);
        })

    buys-best : (x : ℕ) → highest (leaves permitted o (Some Buy) v) low (suc high - low) ≡ Some x → Best permitted o low high (choice_at o x)
    buys-best x e = best_of x (top_of (Some Buy) v x pos (highest-found (leaves permitted o (Some Buy) v) low (suc high - low) x e)).0

    sells-best : (y : ℕ) → lowest (leaves permitted o (Some Sell) v) low (suc high - low) ≡ Some y → Best permitted o low high (choice_at o y)
    sells-best y e = best_of y (top_of (Some Sell) v y pos (lowest-found (leaves permitted o (Some Sell) v) low (suc high - low) y e)).0

    -- some price has the greatest volume, and leaves nothing, buys or sells unmatched
    one-is-found : lowest (leaves permitted o None v) low (suc high - low) ≡ None → highest (leaves permitted o (Some Buy) v) low (suc high - low) ≡ None → lowest (leaves permitted o (Some Sell) v) low (suc high - low) ≡ None → ⊥
    one-is-found ee eb es =
        let at = greatest-attained (traded_at permitted o) low (suc high - low) (omega (arith, is)) in
        let q = eq-eqb (traded_at permitted o at.0) v (at.3 ∙ sym is) in
        elim (some-side (unmatched_at o at.0)) [
          | inl x ↦ lowest-missed (leaves permitted o None v) low (suc high - low) at.0 ee (record { from = at.1; below = at.2; test = and_from _ _ q x })
          | inr (inl x) ↦ highest-missed (leaves permitted o (Some Buy) v) low (suc high - low) at.0 eb (record { from = at.1; below = at.2; test = and_from _ _ q x })
          | inr (inr x) ↦ lowest-missed (leaves permitted o (Some Sell) v) low (suc high - low) at.0 es (record { from = at.1; below = at.2; test = and_from _ _ q x })
        ]

    picked : (f x y : Option ℕ) → lowest (leaves permitted o None v) low (suc high - low) ≡ f → highest (leaves permitted o (Some Buy) v) low (suc high - low) ≡ x → lowest (leaves permitted o (Some Sell) v) low (suc high - low) ≡ y → Chosen permitted o low high (option_map (choice_at o) (settled permitted o close f (highest (leaves permitted o None v) low (suc high - low)) x y))
    picked (Some a) x y ef ex ey = even-best a ef
    picked None (Some x) (Some y) ef ex ey = cond_both _ y x (λ p. Best permitted o low high (choice_at o p)) (λ _. sells-best y ey) (λ _. buys-best x ex)
    picked None (Some x) None ef ex ey = buys-best x ex
    picked None None (Some y) ef ex ey = sells-best y ey
    picked None None None ef ex ey = absurd (one-is-found ef ex ey)

  price-chosen : Worsens o.shown → Within permitted → Chosen permitted o low high (option_map (choice_at o) (price_of permitted o low (suc high - low) close))
  price-chosen w within = go (greatest (traded_at permitted o) low (suc high - low)) refl
    where
      go : (v : ℕ) → v ≡ greatest (traded_at permitted o) low (suc high - low) → Chosen permitted o low high (option_map (choice_at o) (price_with permitted o low (suc high - low) close v))
      go v is = cond_both (eqb v 0) _ _ (λ x. Chosen permitted o low high (option_map (choice_at o) x))
          (λ e. λ q f t rung u. omega (arith, none_more q f t rung u, is, eqb-true v 0 e))
          (λ e. let ne = eqb-false v 0 e in picked w within v is (elim (cases_lt 0 v) [ inl l ↦ l | inr g ↦ absurd (ne (omega arith)) ]) _ _ _ refl refl refl)

  -- the price of the choice is best
  pub told-best : Worsens o.shown → Within permitted → (r : Option ℕ) → r ≡ price_of permitted o low (suc high - low) close → Chosen permitted o low high (option_map (choice_at o) r)
  told-best w within r e = subst (λ x. Chosen permitted o low high (option_map (choice_at o) x)) (sym e) (price-chosen w within)

  pub best-priced : Within permitted → (r : Option ℕ) → Chosen permitted o low high (option_map (choice_at o) r) → IfSome r (λ p. priced p ≡ true)
  best-priced within None h = tt
  best-priced within (Some p) h = let bounds = within p h.on_ladder in priced-from p bounds.0 bounds.1

  pub best-crosses : (r : Option ℕ) → Chosen permitted o low high (option_map (choice_at o) r) → o.mode ≡ Exchange → CrossesMost o.rows (option_map (choice_at o) r)
  best-crosses None h e = tt
  best-crosses (Some p) h e = choice-crosses o p e h.usable

-- the price that a tally comes to is that of the choice
pub told : (x : Scene) (m : Mode) (range : Range) → Worsens x.shown → Within x.permitted → (t : Tally) → Seen x.permitted (opening_in x m) range.low (suc range.high - range.low) t → (r : Option ℕ) → r ≡ comes_to x.permitted x.close t → Told x m range r
told x m range w within t seen r e =
    let o : Opening = opening_in x m in
    let is : r ≡ price_of x.permitted o range.low (suc range.high - range.low) x.close = e ∙ seen-price x.permitted o range.low (suc range.high - range.low) t seen x.close in
    let best = told-best x.permitted o range.low range.high x.close w within r is in
    record {
      in_bounds = best-priced x.permitted o range.low range.high x.close within r best;
      is = ap (option_map (choice_at o)) is;
      best = best;
      crosses = best-crosses x.permitted o range.low range.high x.close r best;
    }

-- What a walk has seen after n prices, and one price more.
use Rattle.std.proofs.Common.{◌≡◌, ℕ, suc, ◌+◌, ◌-◌, ◌<◌, ◌≤◌, min, max, Bool, true, false, cond, ◌&&◌, eqb, ltb, leb, Some, None, Option, sym, refl, ap, ◌∙◌, subst, ap₂, inl, inr, arith}
use Rattle.std.specs.Option.{option_map, option_or}
use Rattle.std.proofs.lemmas.Bool.{cases_lt, cases_Bool, and_left, and_right, and_from, ltb-true, ltb-false, leb-true, leb-false, eq-eqb, ne_eqb}
use Rattle.interest.specs.declared.Side.{Side}
use Rattle.interest.specs.declared.Side.TheVariants.{Buy, Sell}
use Rattle.pricing.specs.declared.figures.Unmatched.{Unmatched}
use Rattle.pricing.specs.declared.figures.Unmatched.TheVariants.{Nothing, Buys, Sells}
use Rattle.pricing.specs.declared.search.Lead.{Lead}
use Rattle.pricing.specs.declared.search.Tally.{Tally}
use Rattle.pricing.specs.Prices.{Opening, usable_at, volume_at, unmatched_at, side_of, same_left, contracts_of, figures_at}
use Rattle.pricing.specs.Scan.{greatest, lowest, highest}
use Rattle.pricing.specs.Choosing.{traded_at, leaves, settled, price_with, price_of}
use Rattle.pricing.specs.Steps.{Steps}
use Rattle.pricing.specs.Tallies.{lead_of, lead_at, fresh, joined, stepped, Tops, Seen, comes_to_by, comes_to}
use Rattle.pricing.proofs.Scans.{greatest-bound, greatest-skip, lowest-skip, highest-skip, lowest-none, highest-none, lowest-miss, highest-miss, lowest-hit, highest-hit}

seen_none : (permitted : ℕ → Bool) (o : Opening) (low : ℕ) → Seen permitted o low 0 (fresh 0)
seen_none permitted o low = record { volume = refl; tops = λ h. record { first = refl; last = refl; buys = refl; sells = refl } }

else-mapped : (f : ℕ → Lead) (x : Option ℕ) (y : ℕ) → option_or (option_map f x) (Some (f y)) ≡ option_map f (option_or x (Some y))
else-mapped f None y = refl
else-mapped f (Some x) y = refl

joined-volume : (t : Tally) (p : ℕ) (u : Unmatched) → (joined t p u).volume ≡ t.volume
joined-volume t p Nothing = refl
joined-volume t p (Buys m) = refl
joined-volume t p (Sells m) = refl

module _ (permitted : ℕ → Bool) (o : Opening) (low n : ℕ) where
  -- a test for the volume v fails where the volume is another
  off : (k : Option Side) (v p : ℕ) → (traded_at permitted o p ≡ v → ⊥) → leaves permitted o k v p ≡ false
  off k v p h = and_left _ _ (ne_eqb _ v h)

  -- and where another side is left
  other : (k : Option Side) (v p : ℕ) (u : Unmatched) → unmatched_at o p ≡ u → same_left (side_of u) k ≡ false → leaves permitted o k v p ≡ false
  other k v p u e h = and_right _ _ (ap (λ x. same_left (side_of x) k) e ∙ h)

  on : (k : Option Side) (v p : ℕ) (u : Unmatched) → traded_at permitted o p ≡ v → unmatched_at o p ≡ u → same_left (side_of u) k ≡ true → leaves permitted o k v p ≡ true
  on k v p u t e h = and_from _ _ (eq-eqb _ v t) (ap (λ x. same_left (side_of x) k) e ∙ h)

  tops-fresh : (v : ℕ) → ((k : ℕ) → k < n → traded_at permitted o (low + k) < v) → Tops permitted o low n v (fresh v)
  tops-fresh v h =
      let ne : (k : ℕ) → k < n → traded_at permitted o (low + k) ≡ v → ⊥ = λ k l e. omega (arith, h k l, e) in
      record {
        first = sym (lowest-none (leaves permitted o None v) low n (λ k l. off None v (low + k) (ne k l)));
        last = sym (highest-none (leaves permitted o None v) low n (λ k l. off None v (low + k) (ne k l)));
        buys = ap (option_map (lead_at o)) (sym (highest-none (leaves permitted o (Some Buy) v) low n (λ k l. off (Some Buy) v (low + k) (ne k l))));
        sells = ap (option_map (lead_at o)) (sym (lowest-none (leaves permitted o (Some Sell) v) low n (λ k l. off (Some Sell) v (low + k) (ne k l))));
      }

  tops-keep : (v : ℕ) (t : Tally) → (traded_at permitted o (low + n) ≡ v → ⊥) → Tops permitted o low n v t → Tops permitted o low (suc n) v t
  tops-keep v t ne h = record {
    first = h.first ∙ sym (lowest-miss (leaves permitted o None v) low n (off None v (low + n) ne));
    last = h.last ∙ sym (highest-miss (leaves permitted o None v) low n (off None v (low + n) ne));
    buys = h.buys ∙ ap (option_map (lead_at o)) (sym (highest-miss (leaves permitted o (Some Buy) v) low n (off (Some Buy) v (low + n) ne)));
    sells = h.sells ∙ ap (option_map (lead_at o)) (sym (lowest-miss (leaves permitted o (Some Sell) v) low n (off (Some Sell) v (low + n) ne)));
  }

  tops-skip : (v m : ℕ) (t : Tally) → ((k : ℕ) → n ≤ k → k < n + m → traded_at permitted o (low + k) ≡ v → ⊥) → Tops permitted o low n v t → Tops permitted o low (n + m) v t
  tops-skip v m t ne h = record {
    first = h.first ∙ sym (lowest-skip (leaves permitted o None v) low n m (λ k a l. off None v (low + k) (ne k a l)));
    last = h.last ∙ sym (highest-skip (leaves permitted o None v) low n m (λ k a l. off None v (low + k) (ne k a l)));
    buys = h.buys ∙ ap (option_map (lead_at o)) (sym (highest-skip (leaves permitted o (Some Buy) v) low n m (λ k a l. off (Some Buy) v (low + k) (ne k a l))));
    sells = h.sells ∙ ap (option_map (lead_at o)) (sym (lowest-skip (leaves permitted o (Some Sell) v) low n m (λ k a l. off (Some Sell) v (low + k) (ne k a l))));
  }

  tops-join : (v : ℕ) (t : Tally) → traded_at permitted o (low + n) ≡ v → Tops permitted o low n v t → (u : Unmatched) → unmatched_at o (low + n) ≡ u → Tops permitted o low (suc n) v (joined t (low + n) u)
  tops-join v t e h Nothing eu = record {
    first = ap (λ x. option_or x (Some (low + n))) h.first ∙ sym (lowest-hit (leaves permitted o None v) low n (on None v (low + n) Nothing e eu refl));
    last = sym (highest-hit (leaves permitted o None v) low n (on None v (low + n) Nothing e eu refl));
    buys = h.buys ∙ ap (option_map (lead_at o)) (sym (highest-miss (leaves permitted o (Some Buy) v) low n (other (Some Buy) v (low + n) Nothing eu refl)));
    sells = h.sells ∙ ap (option_map (lead_at o)) (sym (lowest-miss (leaves permitted o (Some Sell) v) low n (other (Some Sell) v (low + n) Nothing eu refl)));
  }
  tops-join v t e h (Buys m) eu = record {
    first = h.first ∙ sym (lowest-miss (leaves permitted o None v) low n (other None v (low + n) (Buys m) eu refl));
    last = h.last ∙ sym (highest-miss (leaves permitted o None v) low n (other None v (low + n) (Buys m) eu refl));
    buys = ap (λ (x : Unmatched). Some (lead_of (low + n) (contracts_of x))) (sym eu) ∙ ap (option_map (lead_at o)) (sym (highest-hit (leaves permitted o (Some Buy) v) low n (on (Some Buy) v (low + n) (Buys m) e eu refl)));
    sells = h.sells ∙ ap (option_map (lead_at o)) (sym (lowest-miss (leaves permitted o (Some Sell) v) low n (other (Some Sell) v (low + n) (Buys m) eu refl)));
  }
  tops-join v t e h (Sells m) eu = record {
    first = h.first ∙ sym (lowest-miss (leaves permitted o None v) low n (other None v (low + n) (Sells m) eu refl));
    last = h.last ∙ sym (highest-miss (leaves permitted o None v) low n (other None v (low + n) (Sells m) eu refl));
    buys = h.buys ∙ ap (option_map (lead_at o)) (sym (highest-miss (leaves permitted o (Some Buy) v) low n (other (Some Buy) v (low + n) (Sells m) eu refl)));
    sells = ap₂ option_or h.sells (ap (λ (x : Unmatched). Some (lead_of (low + n) (contracts_of x))) (sym eu)) ∙ else-mapped (lead_at o) _ (low + n) ∙ ap (option_map (lead_at o)) (sym (lowest-hit (leaves permitted o (Some Sell) v) low n (on (Some Sell) v (low + n) (Sells m) e eu refl)));
  }

module _ (permitted : ℕ → Bool) (o : Opening) (low n : ℕ) (t : Tally) (h : Seen permitted o low n t) where
  -- prices that are not permitted
  seen_skip : (m : ℕ) → ((k : ℕ) → n ≤ k → k < n + m → permitted (low + k) ≡ false) → Seen permitted o low (n + m) t
  seen_skip m no-rung = record {
    volume = h.volume ∙ sym (greatest-skip (traded_at permitted o) low n m (λ k a l. none k a l));
    tops = λ pos. tops-skip permitted o low n t.volume m t (λ k a l e. omega (arith, none k a l)) (h.tops pos);
  }
    where
      none : (k : ℕ) → n ≤ k → k < n + m → traded_at permitted o (low + k) ≡ 0
      none k a l = let e : permitted (low + k) ≡ false = no-rung k a l in rw e

  -- a price that is not among the best
  seen-keep : traded_at permitted o (low + n) ≤ t.volume → (0 < t.volume → traded_at permitted o (low + n) ≡ t.volume → ⊥) → Seen permitted o low (suc n) t
  seen-keep le ne = record {
    volume = omega (arith, h.volume, le);
    tops = λ pos. tops-keep permitted o low n t.volume t (ne pos) (h.tops pos);
  }

  -- a price among the best
  seen-join : (base : Tally) → Tops permitted o low n base.volume base → traded_at permitted o (low + n) ≡ base.volume → t.volume ≤ base.volume → Seen permitted o low (suc n) (joined base (low + n) (unmatched_at o (low + n)))
  seen-join base tops e le =
      let same = joined-volume base (low + n) (unmatched_at o (low + n)) in
      record {
        volume = omega (arith, same, h.volume, e, le);
        tops = λ pos. rw same (tops-join permitted o low n base.volume base e tops (unmatched_at o (low + n)) refl);
      }

  seen_step : permitted (low + n) ≡ true → Seen permitted o low (suc n) (stepped t (low + n) (figures_at o (low + n)))
  seen_step rung = go (usable_at o p) (ltb 0 (volume_at o p)) (leb t.volume (volume_at o p)) (ltb t.volume (volume_at o p)) refl refl refl refl
    where
      p : ℕ
      p = low + n

      idle : usable_at o p ≡ false → traded_at permitted o p ≡ 0
      idle e = rw (rung, e)

      busy : usable_at o p ≡ true → traded_at permitted o p ≡ volume_at o p
      busy e = rw (rung, e)

      go : (u z l f : Bool) → usable_at o p ≡ u → ltb 0 (volume_at o p) ≡ z → leb t.volume (volume_at o p) ≡ l → ltb t.volume (volume_at o p) ≡ f → Seen permitted o low (suc n) (cond (u && (z && l)) (joined (cond f (fresh (volume_at o p)) t) p (unmatched_at o p)) t)
      go false z l f eu ez el ef = seen-keep (omega (arith, idle eu)) (λ pos e. omega (arith, idle eu))
      go true false l f eu ez el ef = seen-keep (omega (arith, busy eu, ltb-false 0 (volume_at o p) ez)) (λ pos e. omega (arith, busy eu, ltb-false 0 (volume_at o p) ez))
      go true true false f eu ez el ef = seen-keep (omega (arith, busy eu, leb-false t.volume (volume_at o p) el)) (λ pos e. omega (arith, busy eu, leb-false t.volume (volume_at o p) el))
      go true true true true eu ez el ef =
          let more = ltb-true t.volume (volume_at o p) ef in
          seen-join (fresh (volume_at o p)) (tops-fresh permitted o low n (volume_at o p) (λ k l. omega (arith, greatest-bound (traded_at permitted o) low n k l, h.volume, more))) (busy eu) (omega (arith, more))
      go true true true false eu ez el ef =
          let pos = ltb-true 0 (volume_at o p) ez in
          let same : t.volume ≡ volume_at o p = omega (arith, leb-true t.volume (volume_at o p) el, ltb-false t.volume (volume_at o p) ef) in
          seen-join t (h.tops (omega (arith, same, pos))) (busy eu ∙ sym same) (omega arith)

-- the walk passes prices that are not permitted
pub seen-to : (permitted : ℕ → Bool) (o : Opening) (low n m : ℕ) (t : Tally) → Seen permitted o low n t → n ≤ m → ((k : ℕ) → low + n ≤ k → k < low + m → permitted k ≡ false) → Seen permitted o low m t
seen-to permitted o low n m t h l no-rung =
    let e : n + (m - n) ≡ m = omega arith in
    subst (λ x. Seen permitted o low x t) e (seen_skip permitted o low n t h (m - n) (λ k x y. no-rung (low + k) (omega arith) (omega arith)))

-- and takes a permitted one
pub seen-take : (permitted : ℕ → Bool) (o : Opening) (low p : ℕ) (t : Tally) → Seen permitted o low (p - low) t → low ≤ p → permitted p ≡ true → Seen permitted o low ((p + 1) - low) (stepped t p (figures_at o p))
seen-take permitted o low p t h a rung =
    let e : low + (p - low) ≡ p = omega arith in
    let k : suc (p - low) ≡ (p + 1) - low = omega arith in
    let s = seen_step permitted o low (p - low) t h (rw e rung) in
    subst (λ q. Seen permitted o low ((p + 1) - low) (stepped t q (figures_at o q))) e (subst (λ m. Seen permitted o low m (stepped t (low + (p - low)) (figures_at o (low + (p - low))))) k s)

-- only prices are permitted
abbrev pub Within : (ℕ → Bool) → Type 0
Within permitted = (p : ℕ) → permitted p ≡ true → (1 ≤ p) × (p ≤ 100000)

out : (permitted : ℕ → Bool) → Within permitted → (k : ℕ) → ((1 ≤ k) × (k ≤ 100000) → ⊥) → permitted k ≡ false
out permitted w k h = elim (cases_Bool (permitted k)) [ inl y ↦ absurd (h (w k y)) | inr n ↦ n ]

-- the walk begins at a price
pub seen_start : (permitted : ℕ → Bool) (o : Opening) (low at : ℕ) → Within permitted → at ≡ max low 1 → Seen permitted o low (at - low) (fresh 0)
seen_start permitted o low at w e =
    seen-to permitted o low 0 (at - low) (fresh 0) (seen_none permitted o low) (omega arith) (λ k a l. out permitted w k (λ b. omega (arith, b.0, b.1)))

-- and may end at the highest one
pub seen_end : (permitted : ℕ → Bool) (o : Opening) (low high at : ℕ) (t : Tally) → Within permitted → Seen permitted o low (at - low) t → low ≤ at → at - low ≤ suc high - low → min high 100000 < at → Seen permitted o low (suc high - low) t
seen_end permitted o low high at t w h a l top = seen-to permitted o low (at - low) (suc high - low) t h l (λ k x y. out permitted w k (λ b. omega (arith, b.0, b.1)))

-- the walk is at a price of the range, or just above: the tally has seen those below
pub record Walked (permitted : ℕ → Bool) (o : Opening) (low high at top : ℕ) (t : Tally) : Type 0 where
  pub from : low ≤ at
  pub to : at - low ≤ suc high - low
  pub ends : top ≡ min high 100000
  pub seen : Seen permitted o low (at - low) t

module _ (permitted : ℕ → Bool) (o : Opening) (low high : ℕ) where
  pub walk-begins : Within permitted → Walked permitted o low high (max low 1) (min high 100000) (fresh 0)
  walk-begins w = record {
    from = omega arith;
    to = omega arith;
    ends = refl;
    seen = seen_start permitted o low (max low 1) w refl;
  }

  pub walk-steps : (at top p after : ℕ) (t : Tally) → Walked permitted o low high at top t → Steps permitted at top (Some p) after → Walked permitted o low high after top (stepped t p (figures_at o p))
  walk-steps at top p after t h s =
      let passed = seen-to permitted o low (at - low) (p - low) t h.seen (omega (arith, h.from, s.0)) (λ k x y. s.3 k (omega (arith, h.from)) (omega (arith, h.from, s.0))) in
      let taken = seen-take permitted o low p t passed (omega (arith, h.from, s.0)) s.2 in
      record {
        from = omega (arith, h.from, s.0, s.4);
        to = omega (arith, h.from, h.ends, s.0, s.1, s.4);
        ends = h.ends;
        seen = subst (λ x. Seen permitted o low (x - low) (stepped t p (figures_at o p))) (sym s.4) taken;
      }

  -- it may end at the highest price
  pub walk-ends : (at top after : ℕ) (t : Tally) → Within permitted → Walked permitted o low high at top t → Steps permitted at top None after → Seen permitted o low (suc high - low) t
  walk-ends at top after t w h s = seen-to permitted o low (at - low) (suc high - low) t h.seen h.to (λ k x y. elim (cases_lt top k) [
    | inl beyond ↦ out permitted w k (λ b. omega (arith, h.from, h.ends, b.1))
    | inr within ↦ s.1 k (omega (arith, h.from)) within
  ])

-- the price of a tally is the price of what it has seen
comes-to-settled : (permitted : ℕ → Bool) (o : Opening) (close : Option ℕ) (f z x y : Option ℕ) → comes_to_by permitted close f z (option_map (lead_at o) x) (option_map (lead_at o) y) ≡ settled permitted o close f z x y
comes-to-settled permitted o close (Some a) z x y = refl
comes-to-settled permitted o close None z (Some x) (Some y) = refl
comes-to-settled permitted o close None z (Some x) None = refl
comes-to-settled permitted o close None z None (Some y) = refl
comes-to-settled permitted o close None z None None = refl

pub seen-price : (permitted : ℕ → Bool) (o : Opening) (low n : ℕ) (t : Tally) → Seen permitted o low n t → (close : Option ℕ) → comes_to permitted close t ≡ price_of permitted o low n close
seen-price permitted o low n t h close = elim (cases_lt 0 t.volume) [
  | inl pos ↦ let tops = h.tops pos in simp (tops.first, tops.last, tops.buys, tops.sells) (ap (cond (eqb t.volume 0) None) (comes-to-settled permitted o close (lowest (leaves permitted o None t.volume) low n) (highest (leaves permitted o None t.volume) low n) (highest (leaves permitted o (Some Buy) t.volume) low n) (lowest (leaves permitted o (Some Sell) t.volume) low n)) ∙ ap (price_with permitted o low n close) h.volume)
  | inr none ↦ let z : eqb t.volume 0 ≡ true = eq-eqb t.volume 0 (omega arith) in let y : eqb (greatest (traded_at permitted o) low n) 0 ≡ true = eq-eqb _ 0 (omega (arith, h.volume)) in rw (z, y)
]

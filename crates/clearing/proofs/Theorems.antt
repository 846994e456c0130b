-- What an opening keeps to.
use Rattle.std.proofs.Common.{◌≡◌, ℕ, ◌+◌, ◌-◌, ◌<◌, ◌≤◌, min, max, Bool, true, false, cond, ◌&&◌, ltb, ◌⊎◌, List, map, length, get_or, Some, None, Option, sym, refl, ap, ◌∙◌, subst, inl, inr, arith}
use Rattle.std.proofs.lemmas.Bool.{and_from, cases_Bool, cases_lt, cond-true, cond-false, true≢false}
use Rattle.std.proofs.lemmas.List.{get_or-map, length-map}
use Rattle.interest.specs.Bounds.{priced}
use Rattle.interest.specs.declared.Side.{Side}
use Rattle.interest.specs.declared.Side.TheVariants.{Buy, Sell}
use Rattle.interest.specs.Sides.{opposite, same_side}
use Rattle.ladder.proofs.Found.{priced-from, priced-tells}
use Rattle.market.specs.Counts.{AsGood, Better, beyond, best_of}
use Rattle.sharing.specs.declared.level.Holding.{Holding}
use Rattle.sharing.specs.Totals.{total, contracts as sizes, EachAtMost}
use Rattle.book.specs.declared.row.Row.{Row}
use Rattle.book.specs.Rows.{sound_table}
use Rattle.book.specs.Ranks.{of_side, can_route, interest_at, routable_at, rank_of, below, ranks_at}
use Rattle.book.specs.Rewrites.{SameRow, RowByRow, SameRows}
use Rattle.book.proofs.RewriteFacts.{row-sound, sound-at, table_same}
use Rattle.book.proofs.RankFacts.{rank-top, interest-below, routable-below, routable-takes-below}
use Rattle.levels.proofs.Totals.{none-at}
use Rattle.routing.specs.Routes.{count_at, own_limit, routed_rows}
use Rattle.routing.proofs.Routing.{routed-total, own-spent}
use Rattle.settling.specs.declared.Edges.{Edges}
use Rattle.settling.specs.Settles.{cancel_through, rested_row}
use Rattle.clearing.specs.declared.opening.Kind.{Kind}
use Rattle.clearing.specs.declared.opening.Kind.TheVariants.{Plain, Quick, Exchange, Routed, Forced}
use Rattle.clearing.specs.declared.opening.Opening.{Opening}
use Rattle.clearing.specs.Kinds.{routes, is_forced}
use Rattle.clearing.specs.Openings.{priced_only, traded_on, routed_on, counts_left, sent_at, better_than, filled_at, after_fill, after_price, sent_own, executed, settled}
use Rattle.clearing.specs.Promises.{better_for, Usable, TradesVolume, takes_opening, TradesWithin, BestFirst, NothingBetter, SpentAt, SpentOwn, Quiet, RestsShort}
use Rattle.clearing.proofs.BothSides.{Sent, sent-both, routed-sum-other, fill-routed, fill-both, settled-sum}
use Rattle.clearing.proofs.RowWise.{rows_then, rows_at, rows-length, same_then, rank_same, SentRow, SettledRow, sent-one, sent-rows, sent-stay, settled-rows, Done, done_none, sent-done, done-sent, fill_done}
use Rattle.clearing.proofs.Shorts.{row-short}

abbrev pub PricedOption : Option ℕ → Type 0
PricedOption None = Unit {0}
PricedOption (Some p) = priced p ≡ true

pub option-priced : (price : Option ℕ) → PricedOption (priced_only price)
option-priced None = tt
option-priced (Some p) = elim (cases_Bool (priced p)) [
  | inl e ↦ subst PricedOption (sym (cond-true (priced p) (Some p) None e)) e
  | inr e ↦ subst PricedOption (sym (cond-false (priced p) (Some p) None e)) tt
]

pub some-priced : (price : Option ℕ) (p : ℕ) → priced_only price ≡ Some p → priced p ≡ true
some-priced price p e = subst PricedOption e (option-priced price)

-- a send at one price for each side
sent-sums : (f : Side → ℕ → ℕ) (ask : Side → ℕ) (p : ℕ) (rows : List Row) → Sent (λ s. count_at (f (opposite s)) (ask s)) (λ s. ranks_at s p) rows (sent_at f ask p rows)
sent-sums f ask p rows = sent-both (λ s. count_at (f (opposite s)) (ask s)) (λ s. ranks_at s p) rows

sent-each : (f : Side → ℕ → ℕ) (ask : Side → ℕ) (p : ℕ) (rows : List Row) → RowByRow SentRow rows (sent_at f ask p rows)
sent-each f ask p rows = sent-rows (λ s _. count_at (f (opposite s)) (ask s)) (λ s. ranks_at s p) rows

pub sent-grows : (f : Side → ℕ → ℕ) (ask : Side → ℕ) (p : ℕ) (rows : List Row) (s : Side) → routed_on s rows ≤ routed_on s (sent_at f ask p rows)
sent-grows f ask p rows s = omega (arith, (sent-sums f ask p rows).routes s)

sent-sound : (a b : List Row) → RowByRow SentRow a b → sound_table a ≡ true → sound_table b ≡ true
sent-sound a b h sd = table_same a b (done_none None a b h).same ∙ sd

better-count : (counts : Side → ℕ → ℕ) → ((d : Side) → counts d (beyond d) ≡ 0) → (p : ℕ) → priced p ≡ true → (s : Side) → better_for counts p s ≡ count_at (counts (opposite s)) (better_than p s)
better-count counts edge p hp Buy =
    let t = priced-tells p hp in
    elim (cases_Bool (priced (p - 1))) [
      | inl e ↦ sym (cond-true (priced (p - 1)) _ _ e)
      | inr e ↦ (
          let low : p - 1 ≡ 0 = small p e t in
          ap (counts Sell) low ∙ edge Sell ∙ sym (cond-false (priced (p - 1)) _ _ e))
    ]
  where
    small : (p : ℕ) → priced (p - 1) ≡ false → (1 ≤ p) × (p ≤ 100000) → p - 1 ≡ 0
    small p e t = elim (near p) [ inl z ↦ z | inr le ↦ absurd (true≢false (sym (priced-from (p - 1) le (omega (arith, t.1))) ∙ e)) ]
      where
        near : (p : ℕ) → (p - 1 ≡ 0) ⊎ (1 ≤ p - 1)
        near p = elim (cases_lt 0 (p - 1)) [ inl lt ↦ inr (omega arith) | inr le ↦ inl (omega arith) ]
better-count counts edge p hp Sell =
    let t = priced-tells p hp in
    elim (cases_Bool (priced (p + 1))) [
      | inl e ↦ sym (cond-true (priced (p + 1)) _ _ e)
      | inr e ↦ (
          let high : p + 1 ≡ 100001 = large p e t in
          ap (counts Buy) high ∙ edge Buy ∙ sym (cond-false (priced (p + 1)) _ _ e))
    ]
  where
    large : (p : ℕ) → priced (p + 1) ≡ false → (1 ≤ p) × (p ≤ 100000) → p + 1 ≡ 100001
    large p e t = elim (near p t.1) [ inl z ↦ z | inr le ↦ absurd (true≢false (sym (priced-from (p + 1) (omega arith) le) ∙ e)) ]
      where
        near : (p : ℕ) → p ≤ 100000 → (p + 1 ≡ 100001) ⊎ (p + 1 ≤ 100000)
        near p le = elim (cases_lt p 100000) [ inl lt ↦ inr (omega arith) | inr ge ↦ inl (omega arith) ]

side-self : (s : Side) → same_side s s ≡ true
side-self Buy = refl
side-self Sell = refl

-- every routable row sent at its own limit: one that keeps contracts leaves none shown there
own_out : (counts : Side → ℕ → ℕ) (rows : List Row) (s : Side) (i : ℕ) (d : Row) → i < length rows → rank_of (get_or rows i d) ≤ 100000 → can_route s (get_or rows i d) ≡ true → 0 < (get_or (sent_own counts rows) i d).left
    → count_at (counts (opposite s)) (own_limit s (rank_of (get_or rows i d))) ≤ routed_on s (sent_own counts rows) - routed_on s rows
own_out counts rows Buy i d lt top can some =
    let f : ℕ → ℕ = λ k. count_at (counts Sell) (own_limit Buy k) in
    let g : ℕ → ℕ = λ k. count_at (counts Buy) (own_limit Sell k) in
    let mid = routed_rows f Buy 100001 rows in
    let last = rows_at SentRow mid (routed_rows g Sell 100001 mid) (sent-one g Sell 100001 mid) i d (omega (arith, rows-length SentRow rows mid (sent-one f Buy 100001 rows))) in
    elim (cases_lt 0 (get_or mid i d).left) [
      | inl held ↦ omega (arith, own-spent f Buy 100001 rows mid refl i d lt can (omega arith) held, routed-total f Buy 100001 rows 100001, routed-sum-other g Sell 100001 mid)
      | inr none ↦ absurd (omega (arith, last.none (omega arith)))
    ]
own_out counts rows Sell i d lt top can some =
    let f : ℕ → ℕ = λ k. count_at (counts Sell) (own_limit Buy k) in
    let g : ℕ → ℕ = λ k. count_at (counts Buy) (own_limit Sell k) in
    let mid = routed_rows f Buy 100001 rows in
    let same = (rows_at SentRow rows mid (sent-one f Buy 100001 rows) i d lt).same in
    let can₂ : can_route Sell (get_or mid i d) ≡ true = cc (same.side, same.class, can) in
    let e = rank_same (get_or rows i d) (get_or mid i d) same in
    omega (
      arith,
      own-spent g Sell 100001 mid (routed_rows g Sell 100001 mid) refl i d (omega (arith, rows-length SentRow rows mid (sent-one f Buy 100001 rows))) can₂ (omega (arith, e)) some,
      ap g e,
      routed-total g Sell 100001 mid 100001,
      routed-sum-other f Buy 100001 rows,
    )

own-priced : (s : Side) (k : ℕ) → k ≤ 100000 → priced (own_limit s k) ≡ true
own-priced Buy k le = priced-from (min 100000 (100001 - k)) (omega arith) (omega arith)
own-priced Sell k le = priced-from (max 1 k) (omega arith) (omega arith)

pick : (P : List Row → Type 0) (b : Bool) (x y : List Row) → P x → P y → P (cond b x y)
pick P true x y h k = h
pick P false x y h k = k

module _ (shares : ℕ → List Holding → List ℕ) (long : (q : ℕ) (xs : List Holding) → length (shares q xs) ≡ length xs) (within : (q : ℕ) (xs : List Holding) → EachAtMost (shares q xs) (sizes xs)) (whole : (q : ℕ) (xs : List Holding) → total (shares q xs) ≡ min q (total (sizes xs)))
    (counts : Side → ℕ → ℕ) (rows : List Row) (sound : sound_table rows ≡ true) where
  -- routing, filling and sending again, at a price in bounds
  module _ (p v : ℕ) (hp : priced p ≡ true) where
    price-done : Done (Some p) rows (after_price shares counts p v rows)
    unfolding after_price after_fill
    price-done =
        let one = sent_at counts (better_than p) p rows in
        let two = filled_at shares p v one in
        let three = sent_at (counts_left counts rows two) (λ _. p) p two in
        sent-done (Some p) rows one three (sent-each counts (better_than p) p rows)
        (done-sent (Some p) one two three (fill_done shares long within whole p v hp one (sent-sound rows one (sent-each counts (better_than p) p rows) sound)) (sent-each (counts_left counts rows two) (λ _. p) p two))

    -- what the three steps come to, for each side: sent before the fill, and after it
    pub record Sums (after : List Row) : Type 0 where
      pub early : Side → ℕ
      pub late : Side → ℕ
      pub early-is : (s : Side) → early s ≡ min (count_at (counts (opposite s)) (better_than p s)) (routable_at s p rows)
      pub routes-all : (s : Side) → routed_on s after ≡ (routed_on s rows + early s) + late s
      pub trades-all : (s : Side) → traded_on s after ≡ traded_on s rows + min v (interest_at s p rows - early s)
      pub spent : (s : Side) → (below (can_route s) (ranks_at s p) after ≡ 0) ⊎ (count_at (counts (opposite s)) p - early s ≤ late s)

    price-sums : Sums (after_price shares counts p v rows)
    unfolding after_price after_fill
    price-sums =
        let one = sent_at counts (better_than p) p rows in
        let two = filled_at shares p v one in
        let three = sent_at (counts_left counts rows two) (λ _. p) p two in
        let s1 = sent-sums counts (better_than p) p rows in
        let s2 = sent-sums (counts_left counts rows two) (λ _. p) p two in
        let e : Side → ℕ = λ s. min (count_at (counts (opposite s)) (better_than p s)) (below (can_route s) (ranks_at s p) rows) in
        let l : Side → ℕ = λ s. min (count_at (counts_left counts rows two (opposite s)) p) (below (can_route s) (ranks_at s p) two) in
        record {
          early = e;
          late = l;
          early-is = λ s. ap (min (count_at (counts (opposite s)) (better_than p s))) (sym (routable-below s p rows hp sound));
          routes-all = λ s. omega (arith, s2.routes s, fill-routed shares p v one s, s1.routes s);
          trades-all = λ s. omega (arith, s2.trades s, fill-both shares long within whole p v one s, s1.trades s, s1.left s, interest-below s p rows hp sound);
          spent = λ s. all-spent (count_at (counts_left counts rows two (opposite s)) p) (below (can_route s) (ranks_at s p) two) (below (can_route s) (ranks_at s p) three) (count_at (counts (opposite s)) p - e s) (s2.routable s) (left-count s two (e s) (fill-routed shares p v one s ∙ s1.routes s));
        }
      where
        all-spent : (c b a n : ℕ) → a + min c b ≡ b → c ≡ n → (a ≡ 0) ⊎ (n ≤ min c b)
        all-spent c b a n e en = elim (cases_lt (min c b) c) [ inl lt ↦ inl (omega arith) | inr le ↦ inr (omega arith) ]

        left-count : (s : Side) (now : List Row) (x : ℕ) → routed_on s now ≡ routed_on s rows + x → count_at (counts_left counts rows now (opposite s)) p ≡ count_at (counts (opposite s)) p - x
        left-count Buy now x e = elim (priced p) as (λ b. cond b (counts_left counts rows now Sell p) 0 ≡ cond b (counts Sell p) 0 - x) [ true ↦ omega (arith, e) | false ↦ omega arith ]
        left-count Sell now x e = elim (priced p) as (λ b. cond b (counts_left counts rows now Buy p) 0 ≡ cond b (counts Buy p) 0 - x) [ true ↦ omega (arith, e) | false ↦ omega arith ]

    fill-only : (s : Side) → traded_on s (filled_at shares p v rows) ≡ traded_on s rows + min v (interest_at s p rows)
    fill-only s = omega (arith, fill-both shares long within whole p v rows s, interest-below s p rows hp sound)

  pub executed-done : (kind : Kind) (price : Option ℕ) (v : ℕ) → PricedOption price → Done price rows (executed shares counts kind price v rows)
  executed-done kind None v h = pick (λ (x : List Row). Done None rows x) (is_forced kind) _ _ (done_none None rows (sent_own counts rows) (sent-rows (λ s k. count_at (counts (opposite s)) (own_limit s k)) (λ _. 100001) rows)) (done_none None rows rows (sent-stay rows))
  executed-done kind (Some p) v hp = pick (λ (x : List Row). Done (Some p) rows x) (routes kind) _ _ (price-done p v hp) (fill_done shares long within whole p v hp rows sound)

  -- with a usable price, each side trades the volume and takes all that is better
  pub usable-sums : (edge : (d : Side) → counts d (beyond d) ≡ 0) (kind : Kind) (p v : ℕ) → priced p ≡ true → Usable kind counts p v rows → (s : Side)
      → (traded_on s (executed shares counts kind (Some p) v rows) ≡ traded_on s rows + v) × (better_for counts p s ≤ routed_on s (executed shares counts kind (Some p) v rows) - routed_on s rows)
  usable-sums edge kind p v hp u s =
      let w = price-sums p v hp in
      let A = after_price shares counts p v rows in
      let F = filled_at shares p v rows in
      let G : Bool → Type 0 = λ b. better_for counts p s ≤ cond b (routable_at s p rows) 0 → (traded_on s (cond b A F) ≡ traded_on s rows + v) × (better_for counts p s ≤ routed_on s (cond b A F) - routed_on s rows) in
      elim (routes kind) as G [
        | true ↦ (λ le.
            let e : better_for counts p s ≡ count_at (counts (opposite s)) (better_than p s) = better-count counts edge p hp s in
            let x : w.early s ≡ better_for counts p s = omega (arith, w.early-is s, e, le) in
            (omega (arith, w.trades-all s, x, (u s).1), omega (arith, w.routes-all s, x)))
        | false ↦ (λ le. (omega (arith, fill-only p v hp s, (u s).1), omega arith))
      ] (u s).0

  -- where the kind routes: a routable row that takes the price keeps nothing, or the away market has nothing left there
  pub spent-out : (kind : Kind) (p v : ℕ) → priced p ≡ true → routes kind ≡ true → (s : Side)
      → (below (can_route s) (ranks_at s p) (executed shares counts kind (Some p) v rows) ≡ 0) ⊎ (counts (opposite s) p ≤ routed_on s (executed shares counts kind (Some p) v rows) - routed_on s rows)
  spent-out kind p v hp hr s =
      let w = price-sums p v hp in
      let A = after_price shares counts p v rows in
      let P : List Row → Type 0 = λ x. (below (can_route s) (ranks_at s p) x ≡ 0) ⊎ (counts (opposite s) p ≤ routed_on s x - routed_on s rows) in
      let raw : count_at (counts (opposite s)) p ≡ counts (opposite s) p = cond-true (priced p) _ _ hp in
      subst P (sym (cond-true (routes kind) A (filled_at shares p v rows) hr))
      (elim (w.spent s) [ inl z ↦ inl z | inr le ↦ inr (omega (arith, w.routes-all s, raw, le)) ])

  pub quiet_sum : (kind : Kind) (price : Option ℕ) (v : ℕ) → routes kind ≡ false → (s : Side) → routed_on s (executed shares counts kind price v rows) ≡ routed_on s rows
  quiet_sum Plain None v h s = refl
  quiet_sum Plain (Some p) v h s = fill-routed shares p v rows s
  quiet_sum Quick None v h s = refl
  quiet_sum Quick (Some p) v h s = fill-routed shares p v rows s
  quiet_sum Exchange None v h s = refl
  quiet_sum Exchange (Some p) v h s = fill-routed shares p v rows s
  quiet_sum Routed price v h s = absurd (true≢false h)
  quiet_sum Forced price v h s = absurd (true≢false h)

-- the rows after, and the counts left
module _ (permitted : ℕ → Bool) (shares : ℕ → List Holding → List ℕ) (long : (q : ℕ) (xs : List Holding) → length (shares q xs) ≡ length xs) (within : (q : ℕ) (xs : List Holding) → EachAtMost (shares q xs) (sizes xs)) (whole : (q : ℕ) (xs : List Holding) → total (shares q xs) ≡ min q (total (sizes xs)))
    (counts : Side → ℕ → ℕ) (worsens : (d : Side) (p q : ℕ) → AsGood d p q → counts d p ≤ counts d q) (edge : (d : Side) → counts d (beyond d) ≡ 0)
    (o : Opening) (rows : List Row) (sound : sound_table rows ≡ true) (edges : Edges) (done after : List Row) (left : Side → ℕ → ℕ)
    (done-is : done ≡ executed shares counts o.kind (priced_only o.price) o.volume rows)
    (after_is : after ≡ settled permitted (counts_left counts rows done) edges done)
    (left_is : (side : Side) (q : ℕ) → left side q ≡ counts_left counts rows done side q) where
  facts : Done (priced_only o.price) rows done
  facts = subst (λ (x : List Row). Done (priced_only o.price) rows x) (sym done-is) (executed-done shares long within whole counts rows sound o.kind (priced_only o.price) o.volume (option-priced o.price))

  finish : RowByRow SettledRow done after
  finish = subst (λ (x : List Row). RowByRow SettledRow done x) (sym after_is) (settled-rows permitted (λ side. best_of side (counts_left counts rows done side)) edges done)

  pub routed-kept : (s : Side) → routed_on s after ≡ routed_on s done
  routed-kept s = ap (routed_on s) after_is ∙ settled-sum permitted (λ side. best_of side (counts_left counts rows done side)) edges done (λ (r : Row). r.routed) s (λ r. refl) (λ r. refl)

  traded-kept : (s : Side) → traded_on s after ≡ traded_on s done
  traded-kept s = ap (traded_on s) after_is ∙ settled-sum permitted (λ side. best_of side (counts_left counts rows done side)) edges done (λ (r : Row). r.traded) s (λ r. refl) (λ r. refl)

  same_length : length done ≡ length rows
  same_length = rows-length SameRow rows done facts.same

  at-price : (p : ℕ) → priced_only o.price ≡ Some p → done ≡ executed shares counts o.kind (Some p) o.volume rows
  at-price p e = done-is ∙ ap (λ (x : Option ℕ). executed shares counts o.kind x o.volume rows) e

  pub rows-kept : SameRows rows after
  rows-kept = rows_then SameRow SettledRow SameRow (λ r s t x y. same_then r s t x y.same) rows done after facts.same finish

  pub trades-volume : TradesVolume counts o rows after
  trades-volume p e u s = traded-kept s ∙ ap (traded_on s) (at-price p e) ∙ (usable-sums shares long within whole counts rows sound edge o.kind p o.volume (some-priced o.price p e) u s).0

  pub trades-within : TradesWithin o rows after
  trades-within i d lt grew =
      let f = rows_at SettledRow done after finish i d (omega (arith, same_length)) in
      rows_at (λ (r s : Row). r.traded < s.traded → takes_opening (priced_only o.price) r ≡ true) rows done facts.within i d lt (omega (arith, f.traded))

  pub best-first : BestFirst rows after
  best-first i j d lti ltj es lt grew =
      let fi = rows_at SettledRow done after finish i d (omega (arith, same_length)) in
      let fj = rows_at SettledRow done after finish j d (omega (arith, same_length)) in
      let none = facts.first i j d lti ltj es lt (omega (arith, fi.traded)) in
      let gone = fj.none none in
      (gone, omega (arith, fj.sum, none, gone, rows_at (λ (r s : Row). s.cancelled ≡ r.cancelled) rows done facts.cancelled j d ltj))

  pub nothing_better : NothingBetter counts o rows left
  nothing_better p e u side q better =
      let hp = some-priced o.price p e in
      let taken : (s : Side) → better_for counts p s ≤ routed_on s done - routed_on s rows = λ s.
      subst (λ (x : List Row). better_for counts p s ≤ routed_on s x - routed_on s rows) (sym (at-price p e)) (usable-sums shares long within whole counts rows sound edge o.kind p o.volume hp u s).1 in
      by_side side q better taken
    where
      by_side : (side : Side) (q : ℕ) → Better side q p → ((s : Side) → better_for counts p s ≤ routed_on s done - routed_on s rows) → left side q ≡ 0
      by_side Buy q b t = omega (arith, left_is Buy q, worsens Buy q (p + 1) (omega arith), t Sell)
      by_side Sell q b t = omega (arith, left_is Sell q, worsens Sell q (p - 1) (omega arith), t Buy)

  pub spent-at : SpentAt o rows after left
  spent-at p e hr i d lt class takes some =
      let hp = some-priced o.price p e in
      let r = get_or rows i d in
      let x = get_or done i d in
      let s = r.side in
      let same = rows_at SameRow rows done facts.same i d lt in
      let f = rows_at SettledRow done after finish i d (omega (arith, same_length)) in
      let c = rows_at (λ (r s : Row). s.cancelled ≡ r.cancelled) rows done facts.cancelled i d lt in
      let here : (can_route s r && ltb (rank_of r) (ranks_at s p)) ≡ true = sym (routable-takes-below s p r hp (sound-at rows i d sound lt)) ∙ and_from (can_route s r) _ (and_from (of_side s r) _ (side-self s) class) takes in
      let there : (can_route s x && ltb (rank_of x) (ranks_at s p)) ≡ true = cc (same.side, same.limit, same.class, here) in
      let kept : 0 < x.left = omega (arith, f.sum, f.more, c, some) in
      let out = spent-out shares long within whole counts rows sound o.kind p o.volume hp hr s in
      let P : List Row → Type 0 = λ y. (below (can_route s) (ranks_at s p) y ≡ 0) ⊎ (counts (opposite s) p ≤ routed_on s y - routed_on s rows) in
      elim (subst P (sym (at-price p e)) out) [
        | inl z ↦ absurd (omega (arith, none-at (λ (y : Row). y.left) (λ y. can_route s y && ltb (rank_of y) (ranks_at s p)) done i d z (omega (arith, same_length)) there))
        | inr le ↦ gone s le
      ]
    where
      gone : (s : Side) → counts (opposite s) p ≤ routed_on s done - routed_on s rows → left (opposite s) p ≡ 0
      gone Buy le = omega (arith, left_is Sell p)
      gone Sell le = omega (arith, left_is Buy p)

  pub spent-own : SpentOwn o rows after left
  spent-own e hf i d lt class some =
      let r = get_or rows i d in
      let x = get_or done i d in
      let s = r.side in
      let f = rows_at SettledRow done after finish i d (omega (arith, same_length)) in
      let c = rows_at (λ (r s : Row). s.cancelled ≡ r.cancelled) rows done facts.cancelled i d lt in
      let kept : 0 < x.left = omega (arith, f.sum, f.more, c, some) in
      let own_is : done ≡ sent_own counts rows = done-is ∙ ap (λ (y : Option ℕ). executed shares counts o.kind y o.volume rows) e ∙ cond-true (is_forced o.kind) _ _ hf in
      let top : rank_of r ≤ 100000 = rank-top s r.limit (row-sound r (sound-at rows i d sound lt)).3 in
      let out = own_out counts rows s i d lt top (and_from (of_side s r) _ (side-self s) class) (subst (λ (y : List Row). 0 < (get_or y i d).left) own_is kept) in
      let raw : count_at (counts (opposite s)) (own_limit s (rank_of r)) ≡ counts (opposite s) (own_limit s (rank_of r)) = cond-true (priced (own_limit s (rank_of r))) _ _ (own-priced s (rank_of r) top) in
      gone s (own_limit s (rank_of r)) (omega (arith, raw, out, ap (routed_on s) own_is))
    where
      gone : (s : Side) (q : ℕ) → counts (opposite s) q ≤ routed_on s done - routed_on s rows → left (opposite s) q ≡ 0
      gone Buy q le = omega (arith, left_is Sell q)
      gone Sell q le = omega (arith, left_is Buy q)

  pub stays-quiet : Quiet o counts left
  stays-quiet h side q =
      let z : routed_on (opposite side) done ≡ routed_on (opposite side) rows = ap (routed_on (opposite side)) done-is ∙ quiet_sum shares long within whole counts rows sound o.kind (priced_only o.price) o.volume h (opposite side) in
      omega (arith, left_is side q, z)

  pub rests-short : RestsShort after left
  rests-short i d lt some q hq gq =
      let x = get_or (map (cancel_through edges) done) i d in
      let f = rested_row permitted (λ side. best_of side (counts_left counts rows done side)) in
      let len : length after ≡ length done = rows-length SettledRow done after finish in
      let is : get_or after i d ≡ f x = ap (λ (ys : List Row). get_or ys i d) after_is ∙ get_or-map f (map (cancel_through edges) done) i d d (omega (arith, len, length-map done (cancel_through edges))) in
      let G : Row → Type 0 = λ y. Better (opposite y.side) y.shown q in
      subst G (sym is) (row-short permitted (counts_left counts rows done) x (subst (λ (y : Row). 0 < y.shown) is some) q hq (subst (λ (n : ℕ). 0 < n) (left_is (opposite x.side) q) (subst (λ (y : Row). 0 < left (opposite y.side) q) is gq)))

  pub left-all : (side : Side) (q : ℕ) → left side q ≡ counts_left counts rows after side q
  left-all side q = omega (arith, left_is side q, routed-kept (opposite side))

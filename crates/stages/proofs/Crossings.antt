-- The greatest smaller-of-buys-and-sells of all permitted prices, and how the best row of each side tells whether it is 0.
use Rattle.std.proofs.Common.{◌≡◌, ℕ, zero, suc, ◌+◌, ◌-◌, ◌<◌, ◌≤◌, min, max, Bool, true, false, cond, ◌&&◌, eqb, ltb, leb, List, [], ◌∷◌, length, get_or, Some, None, Option, sym, refl, ◌∙◌, inl, inr, arith}
use Rattle.std.proofs.lemmas.Bool.Decides.{nat_tests}
use Rattle.std.proofs.lemmas.Bool.{cases_lt, cases_Bool, and_parts, and_from, and_right, eq-eqb, eqb-true, ne_eqb, ltb-true, lt-ltb, le-ltb, both_ways, cond-true, cond-false, cond_both}
use Rattle.interest.specs.Bounds.{priced}
use Rattle.interest.specs.declared.Side.{Side}
use Rattle.interest.specs.declared.Side.TheVariants.{Buy, Sell}
use Rattle.ladder.specs.Rungs.{Least}
use Rattle.ladder.proofs.Found.{priced-from}
use Rattle.book.specs.declared.row.Row.{Row}
use Rattle.book.specs.Rows.{every, sound_row}
use Rattle.book.specs.Ranks.{of_side, takes_price, rank_of, ranks_at, interest_at}
use Rattle.book.proofs.RankFacts.{takes-below}
use Rattle.levels.specs.Levels.{stands_below, NextRank}
use Rattle.levels.proofs.Totals.{none-at, total-cons}
use Rattle.ranges.specs.declared.Range.{Range}
use Rattle.pricing.specs.declared.figures.Mode.TheVariants as mode
use Rattle.pricing.specs.declared.search.Choice.{Choice}
use Rattle.pricing.specs.Scan.{greatest}
use Rattle.pricing.specs.Best.{CrossesMost, crossing}
use Rattle.pricing.proofs.Scans.{greatest-bound, greatest-attained}
use Rattle.pricing.proofs.Walks.{Within}
use Rattle.clearing.specs.declared.opening.Kind.TheVariants.{Quick}
use Rattle.clearing.specs.declared.opening.Opening.{Opening}
use Rattle.pricing.specs.Scenes.{Scene, ChosenIn}
use Rattle.stages.specs.Looks.{opening_at, cleanly, crossable_to, crossable, MostCrossing, quick_at}

-- permitted prices up to the top, and none beyond
pub most-crossing : (top : ℕ) (permitted : ℕ → Bool) (rows : List Row) → ((p : ℕ) → permitted p ≡ true → (1 ≤ p) × (p ≤ top)) → MostCrossing permitted rows (crossable_to top permitted rows)
unfolding crossable_to
most-crossing top permitted rows within = record {
  covers = λ p on.
      let b = within p on in
      let e : 1 + (p - 1) ≡ p = omega (arith, b.0) in
      let is : cond (permitted p) (crossing rows p) 0 ≡ crossing rows p = cond-true (permitted p) (crossing rows p) 0 on in
      omega (arith, is, rw e at (greatest-bound f 1 top (p - 1) (omega (arith, b.0, b.1))));
  attained = λ some. let at = greatest-attained f 1 top some in found at.0 at.3 some;
}
  where
    f : ℕ → ℕ
    f p = cond (permitted p) (crossing rows p) 0

    found : (p : ℕ) → f p ≡ greatest f 1 top → 0 < greatest f 1 top → (q : ℕ) × (permitted q ≡ true) × (crossing rows q ≡ greatest f 1 top)
    found p e some = elim (cases_Bool (permitted p)) [
      | inl on ↦ (p, on, sym (cond-true (permitted p) (crossing rows p) 0 on) ∙ e)
      | inr off ↦ absurd (let z : f p ≡ 0 = cond-false (permitted p) (crossing rows p) 0 off in omega arith)
    ]

-- where nothing unmatched is through an exchange-only choice, it trades as much as any price
most-is : (permitted : ℕ → Bool) (rows : List Row) (n p : ℕ) → MostCrossing permitted rows n → permitted p ≡ true → ((q : ℕ) → crossing rows q ≤ crossing rows p) → crossing rows p ≡ n
most-is permitted rows n p most on up =
    let low : crossing rows p ≤ n = most.covers p on in
    let high : n ≤ crossing rows p = elim (cases_lt 0 n) [ inl some ↦ (let at = most.attained some in omega (arith, at.2, up at.0)) | inr none ↦ omega arith ] in
    omega arith

pub quick-clean : (x : Scene) (range : Range) (o : Option Choice) → Within x.permitted → ChosenIn x mode.Exchange range o → CrossesMost x.rows o → cleanly Quick range o ≡ quick_at x range o
quick-clean x range None within best crosses = refl
quick-clean x range (Some c) within best crosses = by (eqb c.through 0) refl
  where
    here : Option Opening
    here = Some (opening_at Quick range c)

    by : (b : Bool) → eqb c.through 0 ≡ b → cond (eqb c.through 0) here None ≡ cond (eqb (crossing x.rows c.price) (crossable x.permitted x.rows) && eqb c.through 0) here None
    by true e =
        let up : (q : ℕ) → crossing x.rows q ≤ crossing x.rows c.price = λ q. omega (arith, crosses.crossed, crosses.most (eqb-true c.through 0 e) q) in
        let is = most-is x.permitted x.rows (crossable x.permitted x.rows) c.price (most-crossing 100000 x.permitted x.rows within) best.on_ladder up in
        cond-true _ here None e ∙ sym (cond-true _ here None (and_from _ _ (eq-eqb _ _ is) e))
    by false e = cond-false _ here None e ∙ sym (cond-false _ here None (and_right _ _ e))

-- the best rank of a side: rows stand at just the prices that it takes
pub record Edge (side : Side) (rows : List Row) (k : ℕ) : Type 0 where
  pub top : k < 100001
  pub some : (p : ℕ) → priced p ≡ true → k < ranks_at side p → 0 < interest_at side p rows
  pub none : (p : ℕ) → priced p ≡ true → ranks_at side p ≤ k → interest_at side p rows ≡ 0

none_below : (side : Side) (k p : ℕ) (rows : List Row) → every sound_row rows ≡ true → priced p ≡ true → ranks_at side p ≤ k → ((i : ℕ) (d : Row) → i < length rows → stands_below (of_side side) k (get_or rows i d) ≡ true → ⊥) → interest_at side p rows ≡ 0
none_below side k p [] sound hp le h = refl
none_below side k p (r ∷ rows) sound hp le h =
    let parts = and_parts (sound_row r) (every sound_row rows) sound in
    let rest = none_below side k p rows parts.1 hp le (λ i d lt. h (suc i) d (omega arith)) in
    let head : cond (of_side side r && takes_price side p r.limit) r.left 0 ≡ 0 = cond_both (of_side side r && takes_price side p r.limit) r.left 0 (λ (n : ℕ). n ≡ 0)
    (λ e. let b = and_parts (of_side side r) (ltb (rank_of r) (ranks_at side p)) (sym (takes-below side p r hp parts.0) ∙ e) in
    elim (cases_lt 0 r.left) [
      | inl l ↦ absurd (h 0 r (omega arith) (and_from _ _ b.0 (and_from _ _ (lt-ltb (rank_of r) k (omega (arith, ltb-true (rank_of r) (ranks_at side p) b.1))) (lt-ltb 0 r.left l))))
      | inr z ↦ omega arith
    ])
    (λ e. refl) in
    omega (arith, head, rest, total-cons (λ (x : Row). x.left) (λ x. of_side side x && takes_price side p x.limit) r rows)

ranks-top : (side : Side) (p : ℕ) → priced p ≡ true → ranks_at side p ≤ 100001
ranks-top Buy p hp = let b = and_parts (leb 1 p) (leb p 100000) hp in grind (arith, nat_tests)
ranks-top Sell p hp = let b = and_parts (leb 1 p) (leb p 100000) hp in grind (arith, nat_tests)

pub edge_of : (side : Side) (rows : List Row) (k : ℕ) → every sound_row rows ≡ true → NextRank (of_side side) 0 100001 rows (Some k) → Edge side rows k
edge_of side rows k sound next = record {
  top = next.within;
  some = λ p hp lt.
      let at = next.stands in
      let d : Row = get_d_any rows at.0 at.1 in
      let row = get_or rows at.0 d in
      let s = and_parts (of_side side row) (eqb (rank_of row) k && ltb 0 row.left) (at.2 d) in
      let t = and_parts (eqb (rank_of row) k) (ltb 0 row.left) s.1 in
      let takes = takes-below side p row hp (every-at rows at.0 d at.1 sound) ∙ and_from _ _ s.0 (lt-ltb (rank_of row) (ranks_at side p) (omega (arith, eqb-true (rank_of row) k t.0))) in
      elim (cases_lt 0 (interest_at side p rows)) [
        | inl l ↦ l
        | inr z ↦ absurd (let zero_left = none-at (λ (r : Row). r.left) (λ r. of_side side r && takes_price side p r.limit) rows at.0 d (omega arith) at.1 takes in omega (arith, zero_left, ltb-true 0 row.left t.1))
      ];
  none = λ p hp le. none_below side k p rows sound hp le (λ i d lt e. absurd (omega (arith, next.between i d lt e)));
}
  where
    get_d_any : (rows : List Row) (i : ℕ) → i < length rows → Row
    get_d_any [] i lt = absurd (omega arith)
    get_d_any (r ∷ rows) i lt = r

    every-at : (rows : List Row) (i : ℕ) (d : Row) → i < length rows → every sound_row rows ≡ true → sound_row (get_or rows i d) ≡ true
    every-at [] i d lt sound = absurd (omega arith)
    every-at (r ∷ rows) zero d lt sound = (and_parts (sound_row r) (every sound_row rows) sound).0
    every-at (r ∷ rows) (suc i) d lt sound = every-at rows i d (omega arith) (and_parts (sound_row r) (every sound_row rows) sound).1

module _ (permitted : ℕ → Bool) (rows : List Row) (within : Within permitted) where
  on-priced : (p : ℕ) → permitted p ≡ true → priced p ≡ true
  on-priced p on = let b = within p on in priced-from p b.0 b.1

  -- none crosses
  pub none-crosses : ((p : ℕ) → permitted p ≡ true → crossing rows p ≡ 0) → eqb (crossable permitted rows) 0 ≡ true
  none-crosses h = elim (cases_lt 0 (crossable permitted rows)) [
    | inl some ↦ absurd (let at = (most-crossing 100000 permitted rows within).attained some in omega (arith, at.2, h at.0 at.1))
    | inr none ↦ eq-eqb _ 0 (omega arith)
  ]

  pub one-crosses : (p : ℕ) → permitted p ≡ true → 0 < crossing rows p → eqb (crossable permitted rows) 0 ≡ false
  one-crosses p on some = ne_eqb _ 0 (λ z. omega (arith, (most-crossing 100000 permitted rows within).covers p on, z))

  -- a side without a row
  pub side-absent : (side : Side) → every sound_row rows ≡ true → NextRank (of_side side) 0 100001 rows None → eqb (crossable permitted rows) 0 ≡ true
  side-absent side sound next = none-crosses (λ p on.
      let hp = on-priced p on in
      let none = none_below side 100001 p rows sound hp (ranks-top side p hp) (λ i d lt e. absurd (omega (arith, next i d lt e))) in
      crossing-none side p none)
    where
      crossing-none : (side : Side) (p : ℕ) → interest_at side p rows ≡ 0 → crossing rows p ≡ 0
      crossing-none Buy p none = omega arith
      crossing-none Sell p none = omega arith

  -- the least permitted price from the best sell on, and the best buy
  pub least-crosses : (kb ks q : ℕ) → Edge Buy rows kb → Edge Sell rows ks → Least permitted (max ks 1) (Some q) → ltb (min 100000 (100001 - kb)) q ≡ eqb (crossable permitted rows) 0
  least-crosses kb ks q buy sell least = elim (cases_lt (min 100000 (100001 - kb)) q) [
    | inl far ↦ lt-ltb _ q far ∙ sym (none-crosses (λ p on.
        let b = within p on in
        elim (cases_lt 100001 (kb + p)) [
          | inl beyond ↦ omega (arith, buy.none p (on-priced p on) (omega (arith, b.0, b.1)))
          | inr reach ↦ elim (cases_lt p ks) [
            | inl under ↦ omega (arith, sell.none p (on-priced p on) (omega arith))
            | inr over ↦ absurd (both_ways (permitted p) (least.3 p (omega (arith, b.0)) (omega (arith, b.1))) on)
          ]
        ]))
    | inr near ↦ le-ltb _ q near ∙ sym (one-crosses q least.2 (
        let b = within q least.2 in
        omega (arith, least.0, buy.some q (on-priced q least.2) (omega (arith, b.0, b.1)), sell.some q (on-priced q least.2) (omega (arith, least.0)))))
  ]

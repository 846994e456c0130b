-- The steps of an opening row by row.
use Rattle.std.proofs.Common.{◌≡◌, ℕ, zero, suc, ◌+◌, ◌<◌, ◌≤◌, min, Bool, true, false, cond, ◌&&◌, ltb, List, [], ◌∷◌, ◌++◌, map, length, get_or, Some, None, Option, sym, refl, ap, ◌∙◌, subst, inl, inr, arith}
use Rattle.std.proofs.lemmas.Bool.{and_parts, and_from, cases_lt, false≢true}
use Rattle.interest.specs.Bounds.{priced}
use Rattle.interest.specs.declared.Side.{Side}
use Rattle.interest.specs.declared.Side.TheVariants.{Buy, Sell}
use Rattle.interest.specs.Sides.{same_side}
use Rattle.sharing.specs.declared.level.Holding.{Holding}
use Rattle.sharing.specs.Totals.{total, contracts as sizes, EachAtMost}
use Rattle.book.specs.declared.row.Row.{Row}
use Rattle.book.specs.Rows.{sound_row, sound_table}
use Rattle.book.specs.Ranks.{of_side, can_route, takes_price, rank_of, ranks_at}
use Rattle.book.specs.Rewrites.{trade_row, route_row, cancel_row, SameRow, RowByRow, SameRows}
use Rattle.book.proofs.RewriteFacts.{same_self, same-trade, same_route, same-cancel, same_rest, sound-at}
use Rattle.book.proofs.RankFacts.{takes-below}
use Rattle.levels.specs.Levels.{stands_below}
use Rattle.levels.specs.Deals.{dealt, share_of}
use Rattle.filling.specs.Fills.{filled_rows, level_shares}
use Rattle.filling.proofs.Filling.{fill-priority}
use Rattle.routing.specs.Routes.{routed_rows, route_shares}
use Rattle.settling.specs.declared.Edges.{Edges}
use Rattle.settling.specs.Settles.{cancel_through, rested_row}
use Rattle.clearing.specs.Openings.{both_sides, filled_at}
use Rattle.clearing.specs.Promises.{takes_opening}

-- a relation held row by row
pub rows_then : (P Q R : Row → Row → Type 0) → ((r s t : Row) → P r s → Q s t → R r t) → (a b c : List Row) → RowByRow P a b → RowByRow Q b c → RowByRow R a c
rows_then P Q R j [] [] [] h k = tt
rows_then P Q R j [] [] (z ∷ c) h k = k
rows_then P Q R j [] (y ∷ b) c h k = absurd h
rows_then P Q R j (x ∷ a) [] c h k = absurd h
rows_then P Q R j (x ∷ a) (y ∷ b) [] h k = k
rows_then P Q R j (x ∷ a) (y ∷ b) (z ∷ c) h k = (j x y z h.0 k.0, rows_then P Q R j a b c h.1 k.1)

pub rows_at : (P : Row → Row → Type 0) (a b : List Row) → RowByRow P a b → (i : ℕ) (d : Row) → i < length a → P (get_or a i d) (get_or b i d)
rows_at P [] b h i d lt = absurd (omega arith)
rows_at P (x ∷ a) [] h i d lt = absurd h
rows_at P (x ∷ a) (y ∷ b) h zero d lt = h.0
rows_at P (x ∷ a) (y ∷ b) h (suc i) d lt = rows_at P a b h.1 i d (omega arith)

pub rows-length : (P : Row → Row → Type 0) (a b : List Row) → RowByRow P a b → length b ≡ length a
rows-length P [] [] h = refl
rows-length P [] (y ∷ b) h = absurd h
rows-length P (x ∷ a) [] h = absurd h
rows-length P (x ∷ a) (y ∷ b) h = ap suc (rows-length P a b h.1)

pub rows-map : (P : Row → Row → Type 0) (f : Row → Row) → ((r : Row) → P r (f r)) → (rows : List Row) → RowByRow P rows (map f rows)
rows-map P f h [] = tt
rows-map P f h (r ∷ rows) = (h r, rows-map P f h rows)

pub rows-dealt : (P : Row → Row → Type 0) (part : Row → Bool) (change : ℕ → Row → Row) (n : ℕ) → ((r : Row) → P r r) → ((g : ℕ) (r : Row) → stands_below part n r ≡ true → P r (change g r)) → (shares : ℕ → List ℕ) (ahead rows : List Row) → RowByRow P rows (dealt part change shares n ahead rows)
rows-dealt P part change n stay go shares ahead [] = tt
rows-dealt P part change n stay go shares ahead (r ∷ rows) =
    let s = share_of part shares ahead r in
    let G : Bool → Type 0 = λ b. stands_below part n r ≡ b → P r (cond b (change s r) r) in (
      elim (stands_below part n r) as G [ true ↦ (λ e. go s r e) | false ↦ (λ e. stay r) ] refl,
      rows-dealt P part change n stay go shares (ahead ++ r ∷ []) rows,
    )

pub same_then : (r s t : Row) → SameRow r s → SameRow s t → SameRow r t
same_then r s t h k = record { owner = k.owner ∙ h.owner; side = k.side ∙ h.side; limit = k.limit ∙ h.limit; class = k.class ∙ h.class; size = k.size ∙ h.size; held = k.held ∙ h.held }

-- what a send, a fill and settling do to a row
pub record SentRow (r s : Row) : Type 0 where
  pub same : SameRow r s
  pub traded : s.traded ≡ r.traded
  pub cancelled : s.cancelled ≡ r.cancelled
  pub none : r.left ≡ 0 → s.left ≡ 0

pub record SettledRow (r s : Row) : Type 0 where
  pub same : SameRow r s
  pub traded : s.traded ≡ r.traded
  pub sum : s.cancelled + s.left ≡ r.cancelled + r.left
  pub more : r.cancelled ≤ s.cancelled
  pub none : r.left ≡ 0 → s.left ≡ 0

sent-then : (r s t : Row) → SentRow r s → SentRow s t → SentRow r t
sent-then r s t h k = record { same = same_then r s t h.same k.same; traded = k.traded ∙ h.traded; cancelled = k.cancelled ∙ h.cancelled; none = λ e. k.none (h.none e) }

sent-self : (r : Row) → SentRow r r
sent-self r = record { same = same_self r; traded = refl; cancelled = refl; none = λ e. e }

pub sent-one : (f : ℕ → ℕ) (side : Side) (n : ℕ) (rows : List Row) → RowByRow SentRow rows (routed_rows f side n rows)
sent-one f side n rows =
    rows-dealt SentRow (can_route side) route_row n sent-self (λ g r t. record { same = same_route g r; traded = refl; cancelled = refl; none = λ e. omega arith }) (route_shares f (can_route side) rows) [] rows

pub sent-rows : (f : Side → ℕ → ℕ) (n : Side → ℕ) (rows : List Row) → RowByRow SentRow rows (both_sides (λ s. routed_rows (f s) s (n s)) rows)
sent-rows f n rows = rows_then SentRow SentRow SentRow sent-then rows (routed_rows (f Buy) Buy (n Buy) rows) (routed_rows (f Sell) Sell (n Sell) (routed_rows (f Buy) Buy (n Buy) rows)) (sent-one (f Buy) Buy (n Buy) rows) (sent-one (f Sell) Sell (n Sell) (routed_rows (f Buy) Buy (n Buy) rows))

pub sent-stay : (rows : List Row) → RowByRow SentRow rows rows
sent-stay [] = tt
sent-stay (r ∷ rows) = (sent-self r, sent-stay rows)

cancel-row : (edges : Edges) (r : Row) → SettledRow r (cancel_through edges r)
cancel-row edges r =
    let P : Row → Type 0 = λ x. SettledRow r x in
    let yes : P (cancel_row r) = record { same = same-cancel r; traded = refl; sum = omega arith; more = omega arith; none = λ e. refl } in
    let no : P r = record { same = same_self r; traded = refl; sum = refl; more = omega arith; none = λ e. e } in
    pick _ (cancel_row r) r yes no
  where
    pick : (b : Bool) (x y : Row) → SettledRow r x → SettledRow r y → SettledRow r (cond b x y)
    pick true x y h k = h
    pick false x y h k = k

pub settled-rows : (permitted : ℕ → Bool) (away : Side → Option ℕ) (edges : Edges) (rows : List Row) → RowByRow SettledRow rows (map (rested_row permitted away) (map (cancel_through edges) rows))
settled-rows permitted away edges rows =
    rows_then SettledRow SettledRow SettledRow (λ r s t h k. record { same = same_then r s t h.same k.same; traded = k.traded ∙ h.traded; sum = k.sum ∙ h.sum; more = omega (arith, h.more, k.more); none = λ e. k.none (h.none e) })
    rows (map (cancel_through edges) rows) (map (rested_row permitted away) (map (cancel_through edges) rows))
    (rows-map SettledRow (cancel_through edges) (cancel-row edges) rows)
    (rows-map SettledRow (rested_row permitted away) (λ r. record { same = same_rest _ _ r; traded = refl; sum = refl; more = omega arith; none = λ e. e }) (map (cancel_through edges) rows))

-- what holds of rows that an opening has executed: only what takes the price trades, best level first
pub record Done (price : Option ℕ) (before after : List Row) : Type 0 where
  pub same : SameRows before after
  pub cancelled : RowByRow (λ (r s : Row). s.cancelled ≡ r.cancelled) before after
  pub within : RowByRow (λ (r s : Row). r.traded < s.traded → takes_opening price r ≡ true) before after
  pub first : (i j : ℕ) (d : Row) → i < length before → j < length before → (get_or before j d).side ≡ (get_or before i d).side → rank_of (get_or before j d) < rank_of (get_or before i d) → (get_or before i d).traded < (get_or after i d).traded → (get_or after j d).left ≡ 0

pub done_none : (price : Option ℕ) (a b : List Row) → RowByRow SentRow a b → Done price a b
done_none price a b h =
    let of : (P : Row → Row → Type 0) → ((r s : Row) → SentRow r s → P r s) → RowByRow P a b = λ P w. weaker P w a b h in
    record {
      same = of SameRow (λ r s k. k.same);
      cancelled = of (λ (r s : Row). s.cancelled ≡ r.cancelled) (λ r s k. k.cancelled);
      within = of (λ (r s : Row). r.traded < s.traded → takes_opening price r ≡ true) (λ r s k lt. absurd (omega (arith, k.traded)));
      first = λ i j d lti ltj es lt grew. absurd (omega (arith, (rows_at SentRow a b h i d lti).traded));
    }
  where
    weaker : (P : Row → Row → Type 0) → ((r s : Row) → SentRow r s → P r s) → (a b : List Row) → RowByRow SentRow a b → RowByRow P a b
    weaker P w [] [] h = tt
    weaker P w [] (y ∷ b) h = h
    weaker P w (x ∷ a) [] h = h
    weaker P w (x ∷ a) (y ∷ b) h = (w x y h.0, weaker P w a b h.1)

pub rank_same : (r s : Row) → SameRow r s → rank_of s ≡ rank_of r
rank_same r s h = cc (h.side, h.limit)

takes_same : (price : Option ℕ) (r s : Row) → SameRow r s → takes_opening price s ≡ takes_opening price r
takes_same None r s h = refl
takes_same (Some p) r s h = cc (h.side, h.limit)

-- a send before, and a send after
pub sent-done : (price : Option ℕ) (a b c : List Row) → RowByRow SentRow a b → Done price b c → Done price a c
sent-done price a b c h k =
    let len = rows-length SentRow a b h in
    record {
      same = rows_then SentRow SameRow SameRow (λ r s t x y. same_then r s t x.same y) a b c h k.same;
      cancelled = rows_then SentRow (λ (r s : Row). s.cancelled ≡ r.cancelled) (λ (r s : Row). s.cancelled ≡ r.cancelled) (λ r s t x y. y ∙ x.cancelled) a b c h k.cancelled;
      within = rows_then SentRow (λ (r s : Row). r.traded < s.traded → takes_opening price r ≡ true) (λ (r s : Row). r.traded < s.traded → takes_opening price r ≡ true)
          (λ r s t x y lt. sym (takes_same price r s x.same) ∙ y (omega (arith, x.traded))) a b c h k.within;
      first = λ i j d lti ltj es lt grew.
          let si = rows_at SentRow a b h i d lti in
          let sj = rows_at SentRow a b h j d ltj in
          k.first i j d (omega (arith, len)) (omega (arith, len)) (sj.same.side ∙ es ∙ sym si.same.side) (omega (arith, rank_same _ _ si.same, rank_same _ _ sj.same)) (omega (arith, si.traded));
    }

pub done-sent : (price : Option ℕ) (a b c : List Row) → Done price a b → RowByRow SentRow b c → Done price a c
done-sent price a b c h k =
    let len = rows-length SameRow a b h.same in
    record {
      same = rows_then SameRow SentRow SameRow (λ r s t x y. same_then r s t x y.same) a b c h.same k;
      cancelled = rows_then (λ (r s : Row). s.cancelled ≡ r.cancelled) SentRow (λ (r s : Row). s.cancelled ≡ r.cancelled) (λ r s t x y. y.cancelled ∙ x) a b c h.cancelled k;
      within = rows_then (λ (r s : Row). r.traded < s.traded → takes_opening price r ≡ true) SentRow (λ (r s : Row). r.traded < s.traded → takes_opening price r ≡ true)
          (λ r s t x y lt. x (omega (arith, y.traded))) a b c h.within k;
      first = λ i j d lti ltj es lt grew.
          let ti = rows_at SentRow b c k i d (omega (arith, len)) in
          let tj = rows_at SentRow b c k j d (omega (arith, len)) in
          tj.none (h.first i j d lti ltj es lt (omega (arith, ti.traded)));
    }

-- filling one side, then the other
pub record FilledRow (side : Side) (n : ℕ) (r s : Row) : Type 0 where
  pub same : SameRow r s
  pub cancelled : s.cancelled ≡ r.cancelled
  pub trades : r.traded < s.traded → (of_side side r && ltb (rank_of r) n) ≡ true
  pub others : of_side side r ≡ false → s ≡ r

filled-rows : (shares : ℕ → List Holding → List ℕ) (side : Side) (n v : ℕ) (rows : List Row) → RowByRow (FilledRow side n) rows (filled_rows shares side n v rows)
filled-rows shares side n v rows =
    rows-dealt (FilledRow side n) (of_side side) trade_row n (λ r. record { same = same_self r; cancelled = refl; trades = λ lt. absurd (omega arith); others = λ e. refl })
    (λ g r t.
    let p = and_parts (of_side side r) _ t in
    record { same = same-trade g r; cancelled = refl; trades = λ lt. and_from (of_side side r) _ p.0 (and_parts (ltb (rank_of r) n) _ p.1).0; others = λ e. absurd (false≢true (sym e ∙ p.0)) })
    (level_shares shares side v rows) [] rows

side-is : (a s : Side) → same_side a s ≡ true → s ≡ a
side-is Buy Buy e = refl
side-is Sell Sell e = refl
side-is Buy Sell e = absurd (false≢true e)
side-is Sell Buy e = absurd (false≢true e)

one-takes : (p : ℕ) (side : Side) (r : Row) → priced p ≡ true → sound_row r ≡ true → (of_side side r && ltb (rank_of r) (ranks_at side p)) ≡ true → takes_price r.side p r.limit ≡ true
one-takes p side r hp hs h =
    let q = and_parts (of_side side r) _ (takes-below side p r hp hs ∙ h) in
    subst (λ (s : Side). takes_price s p r.limit ≡ true) (side-is r.side side q.0) q.1

module _ (shares : ℕ → List Holding → List ℕ) (long : (q : ℕ) (xs : List Holding) → length (shares q xs) ≡ length xs) (within-sizes : (q : ℕ) (xs : List Holding) → EachAtMost (shares q xs) (sizes xs)) (whole : (q : ℕ) (xs : List Holding) → total (shares q xs) ≡ min q (total (sizes xs)))
    (p v : ℕ) (hp : priced p ≡ true) (rows : List Row) (sound : sound_table rows ≡ true) where
  both-within : (a m z : List Row) → sound_table a ≡ true → RowByRow (FilledRow Buy (ranks_at Buy p)) a m → RowByRow (FilledRow Sell (ranks_at Sell p)) m z → (i : ℕ) (d : Row) → i < length a → (get_or a i d).traded < (get_or z i d).traded → takes_opening (Some p) (get_or a i d) ≡ true
  both-within a m z sd h k i d lt grew =
      let r = get_or a i d in
      let s = get_or m i d in
      let fb = rows_at (FilledRow Buy (ranks_at Buy p)) a m h i d lt in
      let fs = rows_at (FilledRow Sell (ranks_at Sell p)) m z k i d (omega (arith, rows-length (FilledRow Buy (ranks_at Buy p)) a m h)) in
      let sr = sound-at a i d sd lt in
      elim (cases_lt r.traded s.traded) [
        | inl lt1 ↦ one-takes p Buy r hp sr (fb.trades lt1)
        | inr le ↦
            let t : (of_side Sell s && ltb (rank_of s) (ranks_at Sell p)) ≡ true = fs.trades (omega arith) in
            let same : (of_side Sell s && ltb (rank_of s) (ranks_at Sell p)) ≡ (of_side Sell r && ltb (rank_of r) (ranks_at Sell p)) = cc (fb.same.side, fb.same.limit) in
            one-takes p Sell r hp sr (sym same ∙ t)
      ]

  pub fill_done : Done (Some p) rows (filled_at shares p v rows)
  fill_done =
      let n = ranks_at Buy p in
      let m = ranks_at Sell p in
      let mid = filled_rows shares Buy n v rows in
      let end = filled_rows shares Sell m v mid in
      let h = filled-rows shares Buy n v rows in
      let k = filled-rows shares Sell m v mid in
      let B = FilledRow Buy n in
      let S = FilledRow Sell m in
      let len = rows-length B rows mid h in
      let pb = fill-priority shares long within-sizes whole Buy n v rows mid refl in
      let ps = fill-priority shares long within-sizes whole Sell m v mid end refl in
      record {
        same = rows_then B S SameRow (λ r s t x y. same_then r s t x.same y.same) rows mid end h k;
        cancelled = rows_then B S (λ (r s : Row). s.cancelled ≡ r.cancelled) (λ r s t x y. y.cancelled ∙ x.cancelled) rows mid end h k;
        within = from_at (λ (r s : Row). r.traded < s.traded → takes_opening (Some p) r ≡ true) rows end (rows-length S mid end k ∙ len) (λ i d lt. both-within rows mid end sound h k i d lt);
        first = λ i j d lti ltj es lt grew.
            let ri = get_or rows i d in
            let rj = get_or rows j d in
            let bi = rows_at B rows mid h i d lti in
            let bj = rows_at B rows mid h j d ltj in
            let si = rows_at S mid end k i d (omega (arith, len)) in
            let sj = rows_at S mid end k j d (omega (arith, len)) in
            by_side ri.side ri rj (get_or mid i d) (get_or mid j d) (get_or end i d) (get_or end j d) refl es bi bj si sj grew
            (λ oi oj lt1. pb i j d lti ltj oi oj lt lt1)
            (λ oi oj lt1. ps i j d (omega (arith, len)) (omega (arith, len)) oi oj (omega (arith, rank_same _ _ bi.same, rank_same _ _ bj.same)) lt1);
      }
    where
      from_at : (P : Row → Row → Type 0) (a b : List Row) → length b ≡ length a → ((i : ℕ) (d : Row) → i < length a → P (get_or a i d) (get_or b i d)) → RowByRow P a b
      from_at P [] [] e f = tt
      from_at P [] (y ∷ b) e f = absurd (omega arith)
      from_at P (x ∷ a) [] e f = absurd (omega arith)
      from_at P (x ∷ a) (y ∷ b) e f = (f 0 x (omega arith), from_at P a b (omega arith) (λ i d lt. f (suc i) d (omega arith)))

      of-own : (r : Row) (s : Side) → r.side ≡ s → of_side s r ≡ true
      of-own r s e = ap (λ (x : Side). same_side x s) e ∙ own s
        where
          own : (s : Side) → same_side s s ≡ true
          own Buy = refl
          own Sell = refl

      by_side : (s : Side) (ri rj mi mj ei ej : Row) → ri.side ≡ s → rj.side ≡ ri.side → FilledRow Buy (ranks_at Buy p) ri mi → FilledRow Buy (ranks_at Buy p) rj mj → FilledRow Sell (ranks_at Sell p) mi ei → FilledRow Sell (ranks_at Sell p) mj ej
          → ri.traded < ei.traded
          → (of_side Buy ri ≡ true → of_side Buy rj ≡ true → ri.traded < mi.traded → mj.left ≡ 0)
          → (of_side Sell mi ≡ true → of_side Sell mj ≡ true → mi.traded < ei.traded → ej.left ≡ 0)
          → ej.left ≡ 0
      by_side Buy ri rj mi mj ei ej e es bi bj si sj grew pb ps =
          let offi : of_side Sell mi ≡ false = ap (λ (x : Side). same_side x Sell) (bi.same.side ∙ e) in
          let offj : of_side Sell mj ≡ false = ap (λ (x : Side). same_side x Sell) (bj.same.side ∙ es ∙ e) in
          ap (λ (r : Row). r.left) (sj.others offj) ∙ pb (of-own ri Buy e) (of-own rj Buy (es ∙ e)) (omega (arith, ap (λ (r : Row). r.traded) (si.others offi)))
      by_side Sell ri rj mi mj ei ej e es bi bj si sj grew pb ps =
          let offi : of_side Buy ri ≡ false = ap (λ (x : Side). same_side x Buy) e in
          ps (of-own mi Sell (bi.same.side ∙ e)) (of-own mj Sell (bj.same.side ∙ es ∙ e)) (omega (arith, ap (λ (r : Row). r.traded) (bi.others offi)))

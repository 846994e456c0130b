-- Routing, level by level.
use Rattle.std.proofs.Common.{◌≡◌, ℕ, Some, None, zero, suc, ◌+◌, ◌-◌, ◌<◌, ◌≤◌, min, Bool, true, false, cond, ◌&&◌, eqb, ltb, List, [], ◌∷◌, length, get_or, take, sym, refl, ap, ◌∙◌, inl, inr, arith}
use Rattle.std.proofs.lemmas.Bool.Decides.{nat_tests}
use Rattle.std.proofs.lemmas.Bool.{and_parts, and_from, cond-true, cond-false, cases_Bool}
use Rattle.std.proofs.lemmas.List.Sums.{sum_by_more, sum_by-take-le}
use Rattle.std.proofs.lemmas.List.{length-map}
use Rattle.interest.specs.declared.Side.{Side}
use Rattle.interest.specs.Sides.{same_side}
use Rattle.sharing.specs.declared.level.Holding.{Holding}
use Rattle.sharing.specs.Totals.{total, contracts as sizes, EachAtMost}
use Rattle.sharing.specs.InOrder.{time_shares}
use Rattle.sharing.specs.InOrders.{order-length, order-within, order-whole}
use Rattle.book.specs.declared.row.Row.{Row}
use Rattle.book.specs.Rows.{sound_table}
use Rattle.book.specs.Ranks.{rank_of, of_side, can_route, routable_class, total_of, below, at_rank}
use Rattle.book.specs.Rewrites.{route_row}
use Rattle.book.proofs.RewriteFacts.{table-rows}
use Rattle.book.proofs.RankFacts.{total-le, below_more, below_none, below_up}
use Rattle.levels.specs.Levels.{stands_at, stands_below, holding_of, level_at, next_rank}
use Rattle.levels.specs.Deals.{share_of, EachRow}
use Rattle.levels.proofs.Dealing.{level-kept, level-total, dealt-at}
use Rattle.levels.proofs.Walking.{Skipped, begun, reach, advance, ended}
use Rattle.levels.proofs.Totals.{gained, left_over}
use Rattle.routing.specs.Routes.{served, sent_below, route_shares, routed_rows, route_share, own_share}
use Rattle.routing.proofs.Sending.{served-deal}

-- what levels send
module _ (f : ℕ → ℕ) (part : Row → Bool) (rows : List Row) where
  pub sent-none : sent_below f part rows 0 ≡ 0
  unfolding sent_below
  sent-none = refl

  pub sent-more : (n : ℕ) → sent_below f part rows (n + 1) ≡ sent_below f part rows n + min (f n - sent_below f part rows n) (at_rank part n rows)
  unfolding sent_below
  sent-more n = let e : n + 1 ≡ suc n = omega arith in ap (sent_below f part rows) e

  pub sent-le : (n : ℕ) → sent_below f part rows n ≤ below part n rows
  unfolding sent_below
  sent-le zero = omega arith
  sent-le (suc n) =
      let e : n + 1 ≡ suc n = omega arith in
      let more : below part (suc n) rows ≡ below part n rows + at_rank part n rows = ap (λ (x : ℕ). below part x rows) (sym e) ∙ below_more part n rows in
      omega (arith, sent-le n, more)

  sent-skip-by : (n d : ℕ) → below part (n + d) rows ≡ below part n rows → sent_below f part rows (n + d) ≡ sent_below f part rows n
  sent-skip-by n zero h = let e : n + 0 ≡ n = omega arith in ap (sent_below f part rows) e
  sent-skip-by n (suc d) h =
      let e : n + suc d ≡ (n + d) + 1 = omega arith in
      let b : below part (n + suc d) rows ≡ below part (n + d) rows + at_rank part (n + d) rows = ap (λ (x : ℕ). below part x rows) e ∙ below_more part (n + d) rows in
      let up = below_up part n d rows in
      omega (arith, ap (sent_below f part rows) e, sent-more (n + d), sent-skip-by n d (omega arith))

  pub sent-skip : (n k : ℕ) → n ≤ k → below part k rows ≡ below part n rows → sent_below f part rows k ≡ sent_below f part rows n
  sent-skip n k le h =
      let e : n + (k - n) ≡ k = omega arith in
      ap (sent_below f part rows) (sym e) ∙ sent-skip-by n (k - n) (ap (λ (x : ℕ). below part x rows) e ∙ h)

-- at one price
pub sent-const : (c : ℕ) (part : Row → Bool) (rows : List Row) (n : ℕ) → sent_below (λ _. c) part rows n ≡ min c (below part n rows)
unfolding sent_below
sent-const c part rows zero = omega (arith, below_none part rows)
sent-const c part rows (suc n) =
    let e : n + 1 ≡ suc n = omega arith in
    let more : below part (suc n) rows ≡ below part n rows + at_rank part n rows = ap (λ (x : ℕ). below part x rows) (sym e) ∙ below_more part n rows in
    omega (arith, sent-const c part rows n, more)

pub routable-in : (side : Side) (r : Row) → can_route side r ≡ true → of_side side r ≡ true
routable-in side r h = (and_parts (same_side r.side side) (routable_class r.class) h).0

-- from level to level
module _ (f : ℕ → ℕ) (side : Side) (upto : ℕ) (start : List Row) where
  pub record Routing (rows : List Row) (k sent : ℕ) : Type 0 where
    pub most : k ≤ upto
    pub rows_are : rows ≡ routed_rows f side k start
    pub sent_is : sent ≡ sent_below f (can_route side) start k

  pub route-begun : Routing start 0 0
  route-begun = record { most = omega arith; rows_are = begun (can_route side) route_row (λ g r. refl) (route_shares f (can_route side) start) start; sent_is = sym (sent-none f (can_route side) start) }

  skipped_to : (n k sent : ℕ) (rows : List Row) → k ≤ upto → n ≤ k → Routing rows n sent → Skipped (can_route side) route_row (λ g r. refl) (route_shares f (can_route side) start) start n rows k → Routing rows k sent
  skipped_to n k sent rows most le now w = record { most = most; rows_are = w.rows_are; sent_is = now.sent_is ∙ sym (sent-skip f (can_route side) start n k le w.sums) }

  pub route-reach : (n k sent : ℕ) (rows : List Row) → Routing rows n sent → Some k ≡ next_rank (can_route side) n upto rows → Routing rows k sent
  route-reach n k sent rows now ek =
      let w = reach (can_route side) route_row (λ g r. refl) (route_shares f (can_route side) start) start n upto k rows now.rows_are ek in
      skipped_to n k sent rows (omega (arith, w.within)) w.least now w.skipped

  pub route-ended : (n sent : ℕ) (rows : List Row) → Routing rows n sent → None ≡ next_rank (can_route side) n upto rows → Routing rows upto sent
  route-ended n sent rows now en =
      skipped_to n upto sent rows (omega arith) now.most now (ended (can_route side) route_row (λ g r. refl) (route_shares f (can_route side) start) start n upto rows now.most now.rows_are en)

  same-level : (k : ℕ) (rows : List Row) → rows ≡ routed_rows f side k start → level_at (can_route side) k rows ≡ level_at (can_route side) k start
  same-level k rows er = ap (level_at (can_route side) k) er ∙ level-kept (can_route side) route_row (λ g r. refl) (route_shares f (can_route side) start) k k (omega arith) [] start

  same_count : (k : ℕ) (rows : List Row) → rows ≡ routed_rows f side k start → at_rank (can_route side) k rows ≡ at_rank (can_route side) k start
  same_count k rows er = sym (level-total (can_route side) k rows) ∙ ap (λ (xs : List Holding). total (sizes xs)) (same-level k rows er) ∙ level-total (can_route side) k start

  pub route-turn : (k sent q m : ℕ) (rows after : List Row) → k < upto → Routing rows k sent → q ≡ f k - sent → after ≡ served (can_route side) route_row k q rows → m ≡ min q (at_rank (can_route side) k rows)
      → Routing after (k + 1) (sent + m)
  route-turn k sent q m rows after lt now eq ea em =
      let part = can_route side in
      let sa = same-level k rows now.rows_are in
      let S = route_shares f part start in
      let qs : q ≡ f k - sent_below f part start k = omega (arith, now.sent_is) in
      let sh : time_shares q (level_at part k rows) ≡ S k = cc (qs, sa) in
      record {
        most = omega arith;
        rows_are = advance part route_row (λ g r. refl) S start k rows after now.rows_are (ea ∙ served-deal part route_row k (S k) 0 q rows (sym sh));
        sent_is = omega (arith, now.sent_is, em, qs, same_count k rows now.rows_are, sent-more f part start k);
      }

  pub sum_fits : (k sent m q : ℕ) (rows : List Row) → length start ≤ 128 → sound_table start ≡ true → rows ≡ routed_rows f side k start → sent ≡ sent_below f (can_route side) start k → m ≡ min q (at_rank (can_route side) k rows) → sent + m ≤ 128000000
  sum_fits k sent m q rows few sd er es em =
      let part = can_route side in
      omega (arith, es, em, same_count k rows er, sent-le f part start k, below_more part k start, total-le (λ (r : Row). r.left) (λ r. omega arith) (λ r. part r && ltb (rank_of r) (k + 1)) start (table-rows start sd))

  next-sum : (k : ℕ) → sent_below f (can_route side) start (k + 1) ≡ sent_below f (can_route side) start k + total (route_shares f (can_route side) start k)
  next-sum k =
      let part = can_route side in
      omega (arith, sent-more f part start k, order-whole (f k - sent_below f part start k) (sizes (level_at part k start)), level-total part k start)

  share-count : (k : ℕ) → length (route_shares f (can_route side) start k) ≡ length (level_at (can_route side) k start)
  share-count k = order-length _ (sizes (level_at (can_route side) k start)) ∙ length-map (level_at (can_route side) k start) _

  share-small : (k : ℕ) → EachAtMost (route_shares f (can_route side) start k) (sizes (level_at (can_route side) k start))
  share-small k = order-within _ (sizes (level_at (can_route side) k start))

  -- what is sent is added to the side's routed contracts, and taken from those left
  pub routed-total : (n : ℕ) → total_of (λ (r : Row). r.routed) (of_side side) (routed_rows f side n start) ≡ total_of (λ (r : Row). r.routed) (of_side side) start + sent_below f (can_route side) start n
  routed-total n =
      let part = can_route side in
      gained part route_row (λ g r. refl) (of_side side) (λ g r. refl) n (λ r h. routable-in side r (and_parts (part r) _ h).0) (route_shares f part start) start share-count share-small
      (sent_below f part start) (sent-none f part start) next-sum (λ (r : Row). r.routed) (λ g r le. omega arith)

  pub left-total : (n : ℕ) → below (of_side side) n (routed_rows f side n start) + sent_below f (can_route side) start n ≡ below (of_side side) n start
  left-total n =
      let part = can_route side in
      left_over part route_row (λ g r. refl) (λ r. of_side side r && ltb (rank_of r) n) (λ g r. refl) n
      (λ r t. let p = and_parts (part r) _ t in and_from (of_side side r) _ (routable-in side r p.0) (and_parts (ltb (rank_of r) n) _ p.1).0)
      (route_shares f part start) start share-count share-small (sent_below f part start) (sent-none f part start) next-sum (λ g r le. omega arith)

  pub routable-left : (n : ℕ) → below (can_route side) n (routed_rows f side n start) + sent_below f (can_route side) start n ≡ below (can_route side) n start
  routable-left n =
      let part = can_route side in
      left_over part route_row (λ g r. refl) (λ r. part r && ltb (rank_of r) n) (λ g r. refl) n
      (λ r t. let p = and_parts (part r) _ t in and_from (part r) _ p.0 (and_parts (ltb (rank_of r) n) _ p.1).0)
      (route_shares f part start) start share-count share-small (sent_below f part start) (sent-none f part start) next-sum (λ g r le. omega arith)

-- shares in the order of time, at a row's place
time-at : (part : Row → Bool) (k q : ℕ) (rows : List Row) (i : ℕ) (d : Row) → i < length rows → stands_at part k (get_or rows i d) ≡ true
    → get_or (time_shares q (level_at part k rows)) (length (level_at part k (take i rows))) 0 ≡ min (get_or rows i d).left (q - total (sizes (level_at part k (take i rows))))
time-at part k q [] i d lt h = absurd (omega arith)
time-at part k q (x ∷ xs) zero d lt h =
    ap (λ (ys : List Holding). get_or (time_shares q ys) 0 0) (cond-true (stands_at part k x) (holding_of x ∷ level_at part k xs) (level_at part k xs) h) ∙ omega arith
time-at part k q (x ∷ xs) (suc i) d lt h =
    let G : Bool → Type 0 = λ b. get_or (time_shares q (cond b (holding_of x ∷ level_at part k xs) (level_at part k xs))) (length (cond b (holding_of x ∷ level_at part k (take i xs)) (level_at part k (take i xs)))) 0
    ≡ min (get_or xs i d).left (q - total (sizes (cond b (holding_of x ∷ level_at part k (take i xs)) (level_at part k (take i xs))))) in
    elim (stands_at part k x) as G [
      | true ↦ time-at part k (q - x.left) xs i d (omega arith) h ∙ omega arith
      | false ↦ time-at part k q xs i d (omega arith) h
    ]

each-by : (f : ℕ → ℕ) (side : Side) (n : ℕ) (rows after : List Row) (share : List Row → Row → ℕ) → ((ahead : List Row) (r : Row) → own_share f side rows ahead r ≡ share ahead r) → after ≡ routed_rows f side n rows → EachRow (can_route side) route_row n share rows after
each-by f side n rows after share eq e = λ i d lt.
    let part = can_route side in
    let x = get_or rows i d in
    let k = rank_of x in
    let S = route_shares f part rows in
    let G : Bool → Type 0 = λ b. stands_below part n x ≡ b → cond b (route_row (share_of part S (take i rows) x) x) x ≡ cond b (route_row (share (take i rows) x) x) x in
    let one : cond (stands_below part n x) (route_row (share_of part S (take i rows) x) x) x ≡ cond (stands_below part n x) (route_row (share (take i rows) x) x) x =
    elim (stands_below part n x) as G [
      | true ↦ (λ t.
          let here : stands_at part k x ≡ true = grind (arith, nat_tests) in
          let sh = time-at part k (f k - sent_below f part rows k) rows i d lt here in
          let num : share_of part S (take i rows) x ≡ own_share f side rows (take i rows) x = omega (arith, sh, level-total part k (take i rows)) in
          ap (λ (m : ℕ). route_row m x) (num ∙ eq (take i rows) x))
      | false ↦ (λ t. refl)
    ] refl in
    ap (λ (xs : List Row). get_or xs i d) e ∙ dealt-at part route_row S n [] rows i d lt ∙ one

pub own-each : (f : ℕ → ℕ) (side : Side) (n : ℕ) (rows after : List Row) → after ≡ routed_rows f side n rows → EachRow (can_route side) route_row n (own_share f side rows) rows after
own-each f side n rows after e = each-by f side n rows after (own_share f side rows) (λ ahead r. refl) e

pub route-each : (c : ℕ) (side : Side) (n : ℕ) (rows after : List Row) → after ≡ routed_rows (λ _. c) side n rows → EachRow (can_route side) route_row n (route_share c side rows) rows after
route-each c side n rows after e = each-by (λ _. c) side n rows after (route_share c side rows) (λ ahead r. omega (arith, sent-const c (can_route side) rows (rank_of r))) e

-- a row that keeps contracts has seen all that was shown to it be taken
sent-up : (f : ℕ → ℕ) (part : Row → Bool) (rows : List Row) (n d : ℕ) → sent_below f part rows n ≤ sent_below f part rows (n + d)
sent-up f part rows n zero = let e : n + 0 ≡ n = omega arith in omega (arith, ap (sent_below f part rows) e)
sent-up f part rows n (suc d) =
    let e : n + suc d ≡ (n + d) + 1 = omega arith in
    omega (arith, sent-up f part rows n d, ap (sent_below f part rows) e, sent-more f part rows (n + d))

ahead-le : (part : Row → Bool) (k : ℕ) (rows : List Row) (i : ℕ) (d : Row) → i < length rows → stands_at part k (get_or rows i d) ≡ true → at_rank part k (take i rows) + (get_or rows i d).left ≤ at_rank part k rows
ahead-le part k rows i d lt h =
    let V : Row → ℕ = λ r. cond (part r && eqb (rank_of r) k) r.left 0 in
    let e : cond (part (get_or rows i d) && eqb (rank_of (get_or rows i d)) k) (get_or rows i d).left 0 ≡ (get_or rows i d).left = grind (arith, nat_tests) in
    omega (arith, e, sum_by_more V rows i d lt, sum_by-take-le V rows (i + 1))

pub own-spent : (f : ℕ → ℕ) (side : Side) (n : ℕ) (rows after : List Row) → after ≡ routed_rows f side n rows → (i : ℕ) (d : Row) → i < length rows → can_route side (get_or rows i d) ≡ true → rank_of (get_or rows i d) < n → 0 < (get_or after i d).left
    → f (rank_of (get_or rows i d)) ≤ sent_below f (can_route side) rows n
own-spent f side n rows after e i d lt can ltn some =
    let part = can_route side in
    let x = get_or rows i d in
    let k = rank_of x in
    let at = own-each f side n rows after e i d lt in
    elim (cases_Bool (stands_below part n x)) [
      | inr off ↦ absurd (
          let kept : (get_or after i d).left ≡ x.left = ap (λ (r : Row). r.left) (at ∙ cond-false (stands_below part n x) _ _ off) in
          let none : x.left ≡ 0 = grind (arith, nat_tests) in
          omega arith)
      | inl on ↦
          let left : (get_or after i d).left ≡ x.left - own_share f side rows (take i rows) x = ap (λ (r : Row). r.left) (at ∙ cond-true (stands_below part n x) _ _ on) in
          let here : stands_at part k x ≡ true = grind (arith, nat_tests) in
          let up : (k + 1) + (n - (k + 1)) ≡ n = omega arith in
          omega (arith, left, ahead-le part k rows i d lt here, sent-more f part rows k, sent-up f part rows (k + 1) (n - (k + 1)), ap (sent_below f part rows) up)
    ]

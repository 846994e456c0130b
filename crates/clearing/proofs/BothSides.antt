-- The steps of an opening for both sides, as sums over a side see them.
use Rattle.std.proofs.Common.{◌≡◌, ℕ, ◌+◌, ◌-◌, ◌≤◌, min, Bool, true, false, cond, ◌&&◌, ltb, List, [], map, length, Option, sym, refl, ap, ◌∙◌, arith}
use Rattle.std.proofs.lemmas.Bool.{and_left, cond-false, false≢true}
use Rattle.interest.specs.declared.Side.{Side}
use Rattle.interest.specs.declared.Side.TheVariants.{Buy, Sell}
use Rattle.interest.specs.Sides.{opposite, same_side}
use Rattle.sharing.specs.declared.level.Holding.{Holding}
use Rattle.sharing.specs.Totals.{total, contracts as sizes, EachAtMost}
use Rattle.book.specs.declared.row.Row.{Row}
use Rattle.book.specs.Ranks.{of_side, can_route, total_of, rank_of, below, ranks_at}
use Rattle.book.specs.Rewrites.{trade_row, route_row, cancel_row}
use Rattle.levels.proofs.Totals.{total-same, total-map}
use Rattle.filling.specs.Fills.{filled_rows, level_shares}
use Rattle.filling.proofs.Filling.{fill-traded}
use Rattle.routing.specs.Routes.{count_at, routed_rows, route_shares}
use Rattle.routing.proofs.Routing.{routable-in, sent-const, routed-total, left-total, routable-left}
use Rattle.settling.specs.declared.Edges.{Edges}
use Rattle.settling.specs.Settles.{cancel_through, rested_row}
use Rattle.clearing.specs.Openings.{both_sides, traded_on, routed_on, counts_left, sent_at, filled_at}

not-other : (a s : Side) → same_side a s ≡ true → same_side a (opposite s) ≡ false
not-other Buy Buy e = refl
not-other Sell Sell e = refl
not-other Buy Sell e = absurd (false≢true e)
not-other Sell Buy e = absurd (false≢true e)

-- one side's routing and filling do not touch a sum over the other's rows
pub routed-other : (f : ℕ → ℕ) (side : Side) (n : ℕ) (rows : List Row) (h : Row → ℕ) (of : Row → Bool) → ((r : Row) → of_side (opposite side) r ≡ false → of r ≡ false) → ((g : ℕ) (r : Row) → of (route_row g r) ≡ of r) → total_of h of (routed_rows f side n rows) ≡ total_of h of rows
routed-other f side n rows h of out still =
    total-same h of (can_route side) route_row (λ g r t.
    let off : of r ≡ false = out r (not-other r.side side (routable-in side r t)) in
    cond-false (of (route_row g r)) _ _ (still g r ∙ off) ∙ sym (cond-false (of r) _ _ off))
    (route_shares f (can_route side) rows) n [] rows

pub filled-other : (shares : ℕ → List Holding → List ℕ) (side : Side) (n v : ℕ) (rows : List Row) (h : Row → ℕ) (of : Row → Bool) → ((r : Row) → of_side (opposite side) r ≡ false → of r ≡ false) → ((g : ℕ) (r : Row) → of (trade_row g r) ≡ of r) → total_of h of (filled_rows shares side n v rows) ≡ total_of h of rows
filled-other shares side n v rows h of out still =
    total-same h of (of_side side) trade_row (λ g r t.
    let off : of r ≡ false = out r (not-other r.side side t) in
    cond-false (of (trade_row g r)) _ _ (still g r ∙ off) ∙ sym (cond-false (of r) _ _ off))
    (level_shares shares side v rows) n [] rows

pub routed-sum-other : (f : ℕ → ℕ) (side : Side) (n : ℕ) (rows : List Row) → routed_on (opposite side) (routed_rows f side n rows) ≡ routed_on (opposite side) rows
routed-sum-other f side n rows = routed-other f side n rows (λ (r : Row). r.routed) (of_side (opposite side)) (λ r e. e) (λ g r. refl)

below_other : (f : ℕ → ℕ) (side : Side) (n m : ℕ) (rows : List Row) → below (of_side (opposite side)) m (routed_rows f side n rows) ≡ below (of_side (opposite side)) m rows
below_other f side n m rows = routed-other f side n rows (λ (r : Row). r.left) (λ r. of_side (opposite side) r && ltb (rank_of r) m) (λ r e. and_left (of_side (opposite side) r) _ e) (λ g r. refl)

routable-other : (f : ℕ → ℕ) (side : Side) (n m : ℕ) (rows : List Row) → below (can_route (opposite side)) m (routed_rows f side n rows) ≡ below (can_route (opposite side)) m rows
routable-other f side n m rows = routed-other f side n rows (λ (r : Row). r.left) (λ r. can_route (opposite side) r && ltb (rank_of r) m) (λ r e. and_left (can_route (opposite side) r) _ (and_left (of_side (opposite side) r) _ e)) (λ g r. refl)

routed-traded : (f : ℕ → ℕ) (side : Side) (n : ℕ) (rows : List Row) (s : Side) → traded_on s (routed_rows f side n rows) ≡ traded_on s rows
routed-traded f side n rows s = total-same (λ (r : Row). r.traded) (of_side s) (can_route side) route_row (λ g r t. refl) (route_shares f (can_route side) rows) n [] rows

-- what sending at one price for each side does, side by side
pub record Sent (shown upto : Side → ℕ) (before after : List Row) : Type 0 where
  pub routes : (s : Side) → routed_on s after ≡ routed_on s before + min (shown s) (below (can_route s) (upto s) before)
  pub left : (s : Side) → below (of_side s) (upto s) after + min (shown s) (below (can_route s) (upto s) before) ≡ below (of_side s) (upto s) before
  pub routable : (s : Side) → below (can_route s) (upto s) after + min (shown s) (below (can_route s) (upto s) before) ≡ below (can_route s) (upto s) before
  pub trades : (s : Side) → traded_on s after ≡ traded_on s before

pub sent-both : (shown upto : Side → ℕ) (rows : List Row) → Sent shown upto rows (both_sides (λ s. routed_rows (λ _. shown s) s (upto s)) rows)
sent-both shown upto rows =
    let fb : ℕ → ℕ = λ _. shown Buy in
    let fs : ℕ → ℕ = λ _. shown Sell in
    let n = upto Buy in
    let m = upto Sell in
    let mid = routed_rows fb Buy n rows in
    let end = routed_rows fs Sell m mid in
    let sb = sent-const (shown Buy) (can_route Buy) rows n in
    let ss = sent-const (shown Sell) (can_route Sell) mid m in
    let rs = routable-other fb Buy n m rows in
    record {
      routes = λ s. elim s as (λ s. routed_on s end ≡ routed_on s rows + min (shown s) (below (can_route s) (upto s) rows)) [
        | Buy ↦ omega (arith, routed-sum-other fs Sell m mid, routed-total fb Buy n rows n, sb)
        | Sell ↦ omega (arith, routed-total fs Sell m mid m, routed-sum-other fb Buy n rows, ss, rs)
      ];
      left = λ s. elim s as (λ s. below (of_side s) (upto s) end + min (shown s) (below (can_route s) (upto s) rows) ≡ below (of_side s) (upto s) rows) [
        | Buy ↦ omega (arith, below_other fs Sell m n mid, left-total fb Buy n rows n, sb)
        | Sell ↦ omega (arith, left-total fs Sell m mid m, below_other fb Buy n m rows, ss, rs)
      ];
      routable = λ s. elim s as (λ s. below (can_route s) (upto s) end + min (shown s) (below (can_route s) (upto s) rows) ≡ below (can_route s) (upto s) rows) [
        | Buy ↦ omega (arith, routable-other fs Sell m n mid, routable-left fb Buy n rows n, sb)
        | Sell ↦ omega (arith, routable-left fs Sell m mid m, ss, rs)
      ];
      trades = λ s. routed-traded fs Sell m mid s ∙ routed-traded fb Buy n rows s;
    }

-- filling both sides
filled-routed : (shares : ℕ → List Holding → List ℕ) (side : Side) (n v : ℕ) (rows : List Row) (s : Side) → routed_on s (filled_rows shares side n v rows) ≡ routed_on s rows
filled-routed shares side n v rows s = total-same (λ (r : Row). r.routed) (of_side s) (of_side side) trade_row (λ g r t. refl) (level_shares shares side v rows) n [] rows

pub fill-routed : (shares : ℕ → List Holding → List ℕ) (p v : ℕ) (rows : List Row) (s : Side) → routed_on s (filled_at shares p v rows) ≡ routed_on s rows
fill-routed shares p v rows s = filled-routed shares Sell (ranks_at Sell p) v (filled_rows shares Buy (ranks_at Buy p) v rows) s ∙ filled-routed shares Buy (ranks_at Buy p) v rows s

module _ (shares : ℕ → List Holding → List ℕ) (long : (q : ℕ) (xs : List Holding) → length (shares q xs) ≡ length xs) (within : (q : ℕ) (xs : List Holding) → EachAtMost (shares q xs) (sizes xs)) (whole : (q : ℕ) (xs : List Holding) → total (shares q xs) ≡ min q (total (sizes xs))) where
  pub fill-both : (p v : ℕ) (rows : List Row) (s : Side) → traded_on s (filled_at shares p v rows) ≡ traded_on s rows + min v (below (of_side s) (ranks_at s p) rows)
  fill-both p v rows s =
      let n = ranks_at Buy p in
      let m = ranks_at Sell p in
      let mid = filled_rows shares Buy n v rows in
      let end = filled_rows shares Sell m v mid in
      elim s as (λ s. traded_on s end ≡ traded_on s rows + min v (below (of_side s) (ranks_at s p) rows)) [
        | Buy ↦ omega (arith, filled-other shares Sell m v mid (λ (r : Row). r.traded) (of_side Buy) (λ r e. e) (λ g r. refl), fill-traded shares long within whole Buy n v rows mid refl)
        | Sell ↦ omega (
          arith,
          fill-traded shares long within whole Sell m v mid end refl,
          filled-other shares Buy n v rows (λ (r : Row). r.traded) (of_side Sell) (λ r e. e) (λ g r. refl),
          filled-other shares Buy n v rows (λ (r : Row). r.left) (λ r. of_side Sell r && ltb (rank_of r) m) (λ r e. and_left (of_side Sell r) _ e) (λ g r. refl),
        )
      ]

-- settling touches neither what is traded nor what is routed
cond-side : (b : Bool) (x y : Row) (h : Row → ℕ) (s : Side) → x.side ≡ y.side → h x ≡ h y → cond (of_side s (cond b x y)) (h (cond b x y)) 0 ≡ cond (of_side s y) (h y) 0
cond-side true x y h s es eh = cc (es, eh)
cond-side false x y h s es eh = refl

pub settled-sum : (permitted : ℕ → Bool) (away : Side → Option ℕ) (edges : Edges) (rows : List Row) (h : Row → ℕ) (s : Side) → ((r : Row) → h (cancel_row r) ≡ h r) → ((r : Row) → h (rested_row permitted away r) ≡ h r)
    → total_of h (of_side s) (map (rested_row permitted away) (map (cancel_through edges) rows)) ≡ total_of h (of_side s) rows
settled-sum permitted away edges rows h s ec er =
    total-map h (of_side s) (rested_row permitted away) (λ r. ap (λ (x : ℕ). cond (of_side s r) x 0) (er r)) (map (cancel_through edges) rows)
    ∙ total-map h (of_side s) (cancel_through edges) (λ r. cond-side _ (cancel_row r) r h s refl (ec r)) rows

-- counts after two sends, one for each side
pub counts-both : (f g k : Side → ℕ → ℕ) (r₁ r₂ : ℕ) (start mid end : List Row) → routed_on Buy mid ≡ routed_on Buy start + r₁ → routed_on Sell end ≡ routed_on Sell mid + r₂ → routed_on Buy end ≡ routed_on Buy mid → routed_on Sell mid ≡ routed_on Sell start
    → ((q : ℕ) → g Sell q ≡ f Sell q - r₁) → ((q : ℕ) → g Buy q ≡ f Buy q) → ((q : ℕ) → k Buy q ≡ g Buy q - r₂) → ((q : ℕ) → k Sell q ≡ g Sell q)
    → (side : Side) (q : ℕ) → k side q ≡ counts_left f start end side q
counts-both f g k r₁ r₂ start mid end eb es sb ss t₁ y₁ t₂ y₂ side q =
    elim side as (λ s. k s q ≡ counts_left f start end s q) [ Buy ↦ omega (arith, t₂ q, y₁ q, es, ss) | Sell ↦ omega (arith, y₂ q, t₁ q, eb, sb) ]

-- one after the other
pub counts-then : (f : Side → ℕ → ℕ) (a b c : List Row) → ((s : Side) → routed_on s a ≤ routed_on s b) → ((s : Side) → routed_on s b ≤ routed_on s c) → (side : Side) (q : ℕ) → counts_left (counts_left f a b) b c side q ≡ counts_left f a c side q
counts-then f a b c up up₂ side q = omega (arith, up (opposite side), up₂ (opposite side))

-- the same rows are sent where the same is shown
pub sent-same : (f g : Side → ℕ → ℕ) (ask ask₂ : Side → ℕ) (p : ℕ) (rows : List Row) → ((s : Side) → count_at (f (opposite s)) (ask s) ≡ count_at (g (opposite s)) (ask₂ s)) → sent_at f ask p rows ≡ sent_at g ask₂ p rows
sent-same f g ask ask₂ p rows e =
    ap (λ (n : ℕ). routed_rows (λ _. count_at (f Buy) (ask Sell)) Sell (ranks_at Sell p) (routed_rows (λ _. n) Buy (ranks_at Buy p) rows)) (e Buy)
    ∙ ap (λ (n : ℕ). routed_rows (λ _. n) Sell (ranks_at Sell p) (routed_rows (λ _. count_at (g Sell) (ask₂ Buy)) Buy (ranks_at Buy p) rows)) (e Sell)

-- How the figures move with the price, and the figures from counts that stop at the largest `u32`.
use Rattle.std.proofs.Common.{◌≡◌, ℕ, ◌+◌, ◌-◌, ◌<◌, ◌≤◌, min, Bool, true, false, ◌&&◌, sym, refl, ap, ◌∙◌, subst, ap₂, inl, inr, arith}
use Rattle.std.proofs.lemmas.Bool.Decides.{nat_tests}
use Rattle.std.proofs.lemmas.Bool.{cases_eq, cases_order, and_parts, and_from, eq-eqb, eqb-true, le-leb, leb-true, lt-ltb, le-ltb, cond-true, cond-false}
use Rattle.interest.specs.declared.Side.{Side}
use Rattle.interest.specs.declared.Side.TheVariants.{Buy, Sell}
use Rattle.interest.specs.Bounds.{priced}
use Rattle.book.specs.declared.sums.Depth.{Depth}
use Rattle.book.specs.declared.book.Book.{Book}
use Rattle.book.specs.Books.{rows_of}
use Rattle.book.specs.Ranks.{of_side, takes_price, interest_at, routable_at}
use Rattle.book.specs.Sums.{depth_of}
use Rattle.book.proofs.SumFacts.{book-sound, book-fits, contracts-bound, buys-fall, sells-rise, routable-buys-fall, routable-sells-rise, interest-split, routable-split, routable-limited-part, buys-through, sells-through}
use Rattle.market.specs.Counts.{AsGood, beyond, counted}
use Rattle.pricing.specs.declared.figures.Mode.{Mode}
use Rattle.pricing.specs.declared.figures.Mode.TheVariants.{Exchange, Routing}
use Rattle.pricing.specs.declared.figures.Unmatched.{Unmatched}
use Rattle.pricing.specs.declared.figures.Unmatched.TheVariants.{Nothing, Buys, Sells}
use Rattle.pricing.specs.declared.figures.Figures.{Figures}
use Rattle.pricing.specs.Prices.{Opening, better_at, allowed, usable_at, net_at, volume_at, unmatched_of, unmatched_at, left_through, through_by, through_at, contracts_of, figures_at}
use Rattle.pricing.specs.Choosing.{choice_at}
use Rattle.pricing.specs.Best.{TakenFirst, LeftBy, crossing, Crosses, Slope}

-- as a price worsens the contracts shown do not fall
abbrev pub Worsens : (Side → ℕ → ℕ) → Type 0
Worsens shown = (d : Side) (p q : ℕ) → AsGood d p q → shown d p ≤ shown d q

module _ (o : Opening) (w : Worsens o.shown) (p q : ℕ) (h : p ≤ q) where
  pub better-offers-rise : better_at o Buy p ≤ better_at o Buy q
  better-offers-rise = w Sell (p - 1) (q - 1) (omega arith)

  pub better-bids-fall : better_at o Sell q ≤ better_at o Sell p
  better-bids-fall = w Buy (q + 1) (p + 1) (omega arith)

  pub net-buys-fall : net_at o Buy q ≤ net_at o Buy p
  net-buys-fall = omega (arith, buys-fall o.rows p q h, better-offers-rise)

  pub net-sells-rise : net_at o Sell p ≤ net_at o Sell q
  net-sells-rise = omega (arith, sells-rise o.rows p q h, better-bids-fall)

-- fewer better contracts and more routable ones leave a price usable
allowed-weaker : (mode : Mode) (b r b' r' : ℕ) → b' ≤ b → r ≤ r' → allowed mode b r ≡ true → allowed mode b' r' ≡ true
allowed-weaker Exchange b r b' r' hb hr e = eq-eqb b' 0 (omega (arith, eqb-true b 0 e))
allowed-weaker Routing b r b' r' hb hr e = le-leb b' r' (omega (arith, leb-true b r e))

allowed-le : (mode : Mode) (b r : ℕ) → allowed mode b r ≡ true → b ≤ r
allowed-le Exchange b r e = omega (arith, eqb-true b 0 e)
allowed-le Routing b r e = leb-true b r e

-- a price between two usable ones is usable
pub usable-mid : (o : Opening) → Worsens o.shown → (a p z : ℕ) → a ≤ p → p ≤ z → usable_at o a ≡ true → usable_at o z ≡ true → usable_at o p ≡ true
usable-mid o w a p z low high ua uz =
    and_from _ _
    (allowed-weaker o.mode _ _ _ _ (better-offers-rise o w p z high) (routable-buys-fall o.rows p z high) (and_parts _ _ uz).0)
    (allowed-weaker o.mode _ _ _ _ (better-bids-fall o w a p low) (routable-sells-rise o.rows a p low) (and_parts _ _ ua).1)

-- what is unmatched, by the order of the two sides
pub unmatched-buys : (b s : ℕ) → s < b → unmatched_of b s ≡ Buys (b - s)
unmatched-buys b s h = rw (lt-ltb s b h)

pub unmatched-sells : (b s : ℕ) → b < s → unmatched_of b s ≡ Sells (s - b)
unmatched-sells b s h = rw (le-ltb s b (omega arith), lt-ltb b s h)

unmatched-none : (b s : ℕ) → b ≡ s → unmatched_of b s ≡ Nothing
unmatched-none b s h = rw (le-ltb s b (omega arith), le-ltb b s (omega arith))

module _ (o : Opening) (p : ℕ) (u : usable_at o p ≡ true) where
  offers-fit : better_at o Buy p ≤ routable_at Buy p o.rows
  offers-fit = allowed-le o.mode _ _ (and_parts _ _ u).0

  bids-fit : better_at o Sell p ≤ routable_at Sell p o.rows
  bids-fit = allowed-le o.mode _ _ (and_parts _ _ u).1

  -- the unmatched contracts through a usable price are some of the unmatched ones
  pub through-part : through_at o p ≤ contracts_of (unmatched_at o p)
  through-part = elim (cases_order (net_at o Buy p) (net_at o Sell p)) [
    | inl e ↦ subst P (sym (unmatched-none _ _ e)) (omega arith)
    | inr (inl l) ↦ subst P (sym (unmatched-sells _ _ l)) (omega (arith, bids-fit, interest-split Sell p o.rows, routable-split Sell p o.rows, routable-limited-part Sell p o.rows))
    | inr (inr l) ↦ subst P (sym (unmatched-buys _ _ l)) (omega (arith, offers-fit, interest-split Buy p o.rows, routable-split Buy p o.rows, routable-limited-part Buy p o.rows))
  ]
    where
      P : Unmatched → Type 0
      P x = through_by o p x ≤ contracts_of x

-- what is left through a price by routing and filling that take the best rows first
pub taken-left : (b r t v routed filled : ℕ) → TakenFirst b r routed → TakenFirst v (t - routed) filled → t - routed - filled ≡ left_through t r b v
taken-left b r t v routed filled x y = elim (cases_eq x.later 0) [
  | inl e ↦ elim (cases_eq y.later 0) [
    | inl f ↦ omega (arith, x.all, x.fits, y.all, y.fits)
    | inr f ↦ omega (arith, x.all, x.fits, y.all, y.before (omega arith))
  ]
  | inr e ↦ elim (cases_eq y.later 0) [
    | inl f ↦ omega (arith, x.all, x.before (omega arith), y.all, y.fits)
    | inr f ↦ omega (arith, x.all, x.before (omega arith), y.all, y.before (omega arith))
  ]
]

pub through-left : (o : Opening) (p : ℕ) (u : Unmatched) → LeftBy o p u (through_by o p u)
through-left o p Nothing = refl
through-left o p (Buys n) = λ routed filled x y. taken-left _ _ _ _ routed filled x y
through-left o p (Sells n) = λ routed filled x y. taken-left _ _ _ _ routed filled x y

-- without routing no price has more on both sides, where nothing unmatched is through this one
module _ (o : Opening) (p : ℕ) (e : o.mode ≡ Exchange) (u : usable_at o p ≡ true) where
  none-better : (b r : ℕ) → allowed o.mode b r ≡ true → b ≡ 0
  none-better b r a = eqb-true b 0 (subst (λ m. allowed m b r ≡ true) e a)

  no-offers : better_at o Buy p ≡ 0
  no-offers = none-better _ _ (and_parts _ _ u).0

  no-bids : better_at o Sell p ≡ 0
  no-bids = none-better _ _ (and_parts _ _ u).1

  abbrev Enough : Unmatched → Type 0
  Enough x = through_by o p x ≡ 0 → (q : ℕ) → crossing o.rows q ≤ volume_at o p

  enough : Enough (unmatched_at o p)
  enough = elim (cases_order (net_at o Buy p) (net_at o Sell p)) [
    | inl l ↦ subst Enough (sym (unmatched-none _ _ l)) (λ t q. elim (cases_order p q) [
      | inl s ↦ omega (arith, no-offers, no-bids, sells-rise o.rows q p (omega arith))
      | inr (inl s) ↦ omega (arith, no-offers, no-bids, buys-fall o.rows p q (omega arith))
      | inr (inr s) ↦ omega (arith, no-offers, no-bids, sells-rise o.rows q p (omega arith))
    ])
    | inr (inl l) ↦ subst Enough (sym (unmatched-sells _ _ l)) (λ t q. elim (cases_order p q) [
      | inl s ↦ omega (arith, no-offers, no-bids, buys-fall o.rows p q (omega arith))
      | inr (inl s) ↦ omega (arith, no-offers, no-bids, buys-fall o.rows p q (omega arith))
      | inr (inr s) ↦ omega (arith, no-offers, no-bids, sells-through o.rows p q s, t)
    ])
    | inr (inr l) ↦ subst Enough (sym (unmatched-buys _ _ l)) (λ t q. elim (cases_order p q) [
      | inl s ↦ omega (arith, no-offers, no-bids, sells-rise o.rows q p (omega arith))
      | inr (inl s) ↦ omega (arith, no-offers, no-bids, buys-through o.rows p q s, t)
      | inr (inr s) ↦ omega (arith, no-offers, no-bids, sells-rise o.rows q p (omega arith))
    ])
  ]

  pub choice-crosses : Crosses o.rows (choice_at o p)
  choice-crosses = record { crossed = omega (arith, no-offers, no-bids); most = enough }

-- counts at the prices next to p, where what is shown one step beyond the best price is nothing
edge-shown : (f : ℕ → ℕ) (p n : ℕ) (x : Bool) → priced p ≡ x → (x ≡ false → f p ≡ 0) → counted f p n ≡ min n (f p)
edge-shown f p n true e h = cond-true (priced p) _ _ e
edge-shown f p n false e h = cond-false (priced p) _ _ e ∙ sym (omega (arith, h refl))

pub offers-counted : (f : ℕ → ℕ) (p n : ℕ) → priced p ≡ true → f (beyond Sell) ≡ 0 → counted f (p - 1) n ≡ min n (f (p - 1))
offers-counted f p n e h = edge-shown f (p - 1) n (priced (p - 1)) refl (λ out. let z : p - 1 ≡ 0 = grind (arith, nat_tests) in ap f z ∙ h)

pub bids-counted : (f : ℕ → ℕ) (p n : ℕ) → priced p ≡ true → f (beyond Buy) ≡ 0 → counted f (p + 1) n ≡ min n (f (p + 1))
bids-counted f p n e h = edge-shown f (p + 1) n (priced (p + 1)) refl (λ out. let z : p + 1 ≡ 100001 = grind (arith, nat_tests) in ap f z ∙ h)

-- a count that stops at a number above the routable contracts decides as the count itself
allowed-capped : (mode : Mode) (n b r : ℕ) → r < n → allowed mode (min n b) r ≡ allowed mode b r
allowed-capped Exchange n b r h = grind (arith, nat_tests)
allowed-capped Routing n b r h = grind (arith, nat_tests)

pub figures-are : (o : Opening) (p : ℕ) → priced p ≡ true → ((side : Side) → o.shown side (beyond side) ≡ 0) → (d : Depth) (bo bb x y v : ℕ) (u₁ u₂ u : Bool) (rest : Unmatched) → d ≡ depth_of p o.rows → d.buys ≤ 128000000 → d.sells ≤ 128000000 → d.routable_buys ≤ d.buys → d.routable_sells ≤ d.sells → bo ≡ counted (o.shown Sell) (p - 1) 4294967295 → bb ≡ counted (o.shown Buy) (p + 1) 4294967295 → u₁ ≡ allowed o.mode bo d.routable_buys → u₂ ≡ allowed o.mode bb d.routable_sells → u ≡ (u₁ && u₂) → x ≡ d.buys - bo → y ≡ d.sells - bb → v ≡ min x y → rest ≡ unmatched_of x y → ◌≡◌ {A = Figures} (record { buys = d.buys; sells = d.sells; better_offers = bo; better_bids = bb; usable = u; volume = v; unmatched = rest }) (figures_at o p)
figures-are o p price edge d bo bb x y v u₁ u₂ u rest ed fb fs rb rs co cb e₁ e₂ eu ex ey ev er =
    let eo : bo ≡ min 4294967295 (better_at o Buy p) = co ∙ offers-counted (o.shown Sell) p 4294967295 price (edge Sell) in
    let eb : bb ≡ min 4294967295 (better_at o Sell p) = cb ∙ bids-counted (o.shown Buy) p 4294967295 price (edge Buy) in
    let buys = ap (λ (d : Depth). d.buys) ed in
    let sells = ap (λ (d : Depth). d.sells) ed in
    let rbuys = ap (λ (d : Depth). d.routable_buys) ed in
    let rsells = ap (λ (d : Depth). d.routable_sells) ed in
    let is₁ : u₁ ≡ allowed o.mode (better_at o Buy p) (routable_at Buy p o.rows) = e₁ ∙ ap₂ (allowed o.mode) eo rbuys ∙ allowed-capped o.mode _ _ _ (omega (arith, rbuys)) in
    let is₂ : u₂ ≡ allowed o.mode (better_at o Sell p) (routable_at Sell p o.rows) = e₂ ∙ ap₂ (allowed o.mode) eb rsells ∙ allowed-capped o.mode _ _ _ (omega (arith, rsells)) in
    let isx : x ≡ net_at o Buy p = omega (arith, buys) in
    let isy : y ≡ net_at o Sell p = omega (arith, sells) in
    let usable-is : u ≡ usable_at o p = eu ∙ ap₂ ◌&&◌ is₁ is₂ in
    let volume-is : v ≡ volume_at o p = ev ∙ ap₂ min isx isy in
    let rest-is : rest ≡ unmatched_at o p = er ∙ ap₂ unmatched_of isx isy in
    λ j. record { buys = buys j; sells = sells j; better_offers = eo j; better_bids = eb j; usable = usable-is j; volume = volume-is j; unmatched = rest-is j }

-- the sides less what is better away, from the figures of a book
pub figures-slope : (b : Book) (o : Opening) (p : ℕ) (f : Figures) → o.rows ≡ rows_of b → Worsens o.shown → f ≡ figures_at o p → Slope o p f
figures-slope b o p f rows w e =
    let bound : (side : Side) → interest_at side p o.rows ≤ 128000000 = λ side. rw rows (contracts-bound (λ r. of_side side r && takes_price side p r.limit) (rows_of b) (book-sound b) (book-fits b)) in
    let buys : f.buys - f.better_offers ≡ net_at o Buy p = omega (arith, ap (λ (f : Figures). f.buys) e, ap (λ (f : Figures). f.better_offers) e, bound Buy) in
    let sells : f.sells - f.better_bids ≡ net_at o Sell p = omega (arith, ap (λ (f : Figures). f.sells) e, ap (λ (f : Figures). f.better_bids) e, bound Sell) in
    λ q h. (omega (arith, buys, net-buys-fall o w p q h), omega (arith, sells, net-sells-rise o w p q h))

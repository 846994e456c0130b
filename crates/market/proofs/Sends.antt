-- One turn of a send through two markets: all that is taken at the best price of both.
use Rattle.std.proofs.Common.{◌≡◌, ℕ, ◌+◌, ◌-◌, ◌<◌, ◌≤◌, min, true, false, ◌⊎◌, Some, None, sym, refl, ◌∙◌, inl, inr, arith}
use Rattle.std.proofs.lemmas.Bool.{cond-true, cond-false, cond_both, cases_Bool, leb-true, leb-false, cases_lt}
use Rattle.interest.specs.Bounds.{priced}
use Rattle.ladder.proofs.Found.{priced-from, priced-tells}
use Rattle.interest.specs.declared.Side.{Side}
use Rattle.interest.specs.declared.Side.TheVariants.{Buy, Sell}
use Rattle.market.specs.Counts.{AsGood, Better, beyond, one_better, reaches, counted, Best}
use Rattle.market.specs.Pairs.{Split}

abbrev pub Mono : Side → (ℕ → ℕ) → Type 0
Mono d f = (p q : ℕ) → AsGood d p q → f p ≤ f q

pub counted-most : (f : ℕ → ℕ) (p n : ℕ) → counted f p n ≤ f p
counted-most f p n = cond_both (priced p) (min n (f p)) 0 (λ x. x ≤ f p) (λ e. omega arith) (λ e. omega arith)

pub counted-few : (f : ℕ → ℕ) (p n : ℕ) → counted f p n ≤ n
counted-few f p n = cond_both (priced p) (min n (f p)) 0 (λ x. x ≤ n) (λ e. omega arith) (λ e. omega arith)

-- the smaller of n and a count of two parts
pub counted-more : (f g h : ℕ → ℕ) (p n m r : ℕ) → h p ≡ f p + g p → m ≡ counted f p n → r ≡ counted g p (n - m) → m + r ≡ counted h p n
counted-more f g h p n m r e s t =
    elim (cases_Bool (priced p)) [
      | inl i ↦
          let a : m ≡ min n (f p) = s ∙ cond-true (priced p) (min n (f p)) 0 i in
          let b : r ≡ min (n - m) (g p) = t ∙ cond-true (priced p) (min (n - m) (g p)) 0 i in
          sym (cond-true (priced p) (min n (h p)) 0 i ∙ omega arith)
      | inr i ↦
          let a : m ≡ 0 = s ∙ cond-false (priced p) (min n (f p)) 0 i in
          let b : r ≡ 0 = t ∙ cond-false (priced p) (min (n - m) (g p)) 0 i in
          sym (cond-false (priced p) (min n (h p)) 0 i ∙ omega arith)
    ]

pub reached-good : (d : Side) (p q : ℕ) → reaches d p q ≡ true → AsGood d p q
reached-good Buy p q e = leb-true q p e
reached-good Sell p q e = leb-true p q e

pub past-better : (d : Side) (p q : ℕ) → reaches d p q ≡ false → Better d q p
past-better Buy p q e = leb-false q p e
past-better Sell p q e = leb-false p q e

pub better-or : (d : Side) (p q : ℕ) → Better d p q ⊎ AsGood d q p
better-or Buy p q = cases_lt q p
better-or Sell p q = cases_lt p q

better-step : (d : Side) (p q : ℕ) → Better d (one_better d p) q → AsGood d p q
better-step Buy p q b = omega arith
better-step Sell p q b = omega arith

-- nothing has been sent yet
pub no-split : (d : Side) (f g : ℕ → ℕ) → Split d f g f g 0
no-split d f g =
    record { x = 0; y = 0; all = refl; first = λ p. omega arith; second = λ p. omega arith; best = λ p h. absurd (omega arith); turn = λ p h. absurd (omega arith) }

-- nothing is shown past the best price, out of bounds too
pub cleared : (d : Side) (h : ℕ → ℕ) → Mono d h → h (beyond d) ≡ 0 → (l : ℕ) → Best d h (Some l) → (p : ℕ) → Better d p l → h p ≡ 0
cleared Buy h m e l u p b =
    elim (cases_lt 100000 p) [
      | inl k ↦ let z = m p 100001 (omega arith) in omega arith
      | inr k ↦ u.3 p (omega arith) k b
    ]
cleared Sell h m e l u p b =
    elim (cases_lt 0 p) [
      | inl k ↦ u.3 p (omega arith) (omega arith) b
      | inr k ↦ let z = m p 0 k in omega arith
    ]

module _ (d : Side) (f g : ℕ → ℕ) (mf : Mono d f) (mg : Mono d g) (ef : f (beyond d) ≡ 0) (eg : g (beyond d) ≡ 0)
    (l x y left : ℕ) (u : Best d (λ p. f p + g p) (Some l)) (sx : x ≡ counted f l left) (sy : y ≡ counted g l (left - x)) where
  pub turn-fits : (x ≤ left) × (y ≤ left - x)
  turn-fits = (omega (arith, counted-few f l left), omega (arith, counted-few g l (left - x)))

  pub turn-less : (f' g' : ℕ → ℕ) → ((p : ℕ) → f' p ≡ f p - x) → ((p : ℕ) → g' p ≡ g p - y) → (p : ℕ) → f' p + g' p ≡ (f p + g p) - (x + y)
  turn-less f' g' cf cg p =
      elim (better-or d p l) [
        | inl b ↦ let z : f p + g p ≡ 0 = cleared d (λ p. f p + g p) (λ a b k. let i = mf a b k in let j = mg a b k in omega arith) (omega arith) l u p b in
            omega (arith, cf p, cg p)
        | inr k ↦ omega (arith, cf p, cg p, mf l p k, mg l p k, counted-most f l left, counted-most g l (left - x))
      ]

  pub turn-most : (q : ℕ) → reaches d l q ≡ true → x + y ≤ f q + g q
  turn-most q e =
      let k = reached-good d l q e in
      omega (arith, mf l q k, mg l q k, counted-most f l left, counted-most g l (left - x))

  pub turn-some : 0 < left → 0 < x + y
  turn-some h =
      let i = priced-from l u.0 u.1 in
      let a : x ≡ min left (f l) = sx ∙ cond-true (priced l) (min left (f l)) 0 i in
      let b : y ≡ min (left - x) (g l) = sy ∙ cond-true (priced l) (min (left - x) (g l)) 0 i in
      omega (arith, u.2)

  -- the split goes on: what was shown at first is f₀ and g₀
  pub turn-split : (f₀ g₀ f' g' : ℕ → ℕ) (m : ℕ) → Mono d f₀ → Mono d g₀ → 0 < left → Split d f₀ g₀ f g m → ((p : ℕ) → f' p ≡ f p - x) → ((p : ℕ) → g' p ≡ g p - y) → Split d f₀ g₀ f' g' (m + x + y)
  turn-split f₀ g₀ f' g' m m₀ n₀ some s cf cg =
      let i = priced-from l u.0 u.1 in
      let a : x ≡ min left (f l) = sx ∙ cond-true (priced l) (min left (f l)) 0 i in
      let b : y ≡ min (left - x) (g l) = sy ∙ cond-true (priced l) (min (left - x) (g l)) 0 i in
      let none : (p : ℕ) → Better d p l → f p + g p ≡ 0 = cleared d (λ p. f p + g p) (λ p q k. let v = mf p q k in let w = mg p q k in omega arith) (omega arith) l u in
      record {
        x = s.x + x;
        y = s.y + y;
        all = omega (arith, s.all);
        first = λ p. omega (arith, cf p, s.first p);
        second = λ p. omega (arith, cg p, s.second p);
        best = λ p h. elim (cases_lt (f₀ (one_better d p)) s.x) [
          | inl k ↦ omega (arith, s.best p k)
          | inr k ↦ elim (better-or d (one_better d p) l) [
            | inl w ↦ omega (arith, none (one_better d p) w, s.second (one_better d p))
            | inr w ↦ absurd (omega (arith, m₀ l (one_better d p) w, s.first l))
          ]
        ];
        turn = λ p h. elim (cases_lt (g₀ (one_better d p)) s.y) [
          | inl k ↦ omega (arith, s.turn p k)
          | inr k ↦ elim (better-or d (one_better d p) l) [
            | inl w ↦ omega (arith, m₀ p l (better-step d p l w), s.first l, s.second l)
            | inr w ↦ absurd (omega (arith, n₀ l (one_better d p) w, s.second l))
          ]
        ];
      }

-- when the turns end: all was sent, or nothing more is shown there
pub sent-all : (h : ℕ → ℕ) (q n left : ℕ) → priced q ≡ true → left ≤ n → n - left ≤ h q → (left ≡ 0) ⊎ (h q - (n - left) ≡ 0) → n - left ≡ counted h q n
sent-all h q n left e k m (inl z) = sym (cond-true (priced q) (min n (h q)) 0 e ∙ omega arith)
sent-all h q n left e k m (inr z) = sym (cond-true (priced q) (min n (h q)) 0 e ∙ omega arith)

pub none-there : (d : Side) (h : ℕ → ℕ) (q : ℕ) → priced q ≡ true → Best d h None → h q ≡ 0
none-there d h q e u = let i = priced-tells q e in u q i.0 i.1

pub past-there : (d : Side) (h : ℕ → ℕ) (q l : ℕ) → priced q ≡ true → Best d h (Some l) → reaches d l q ≡ false → h q ≡ 0
past-there d h q l e u r = let i = priced-tells q e in u.3 q i.0 i.1 (past-better d l q r)

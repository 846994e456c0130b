-- Several sends on one side.
use Rattle.std.proofs.Common.{◌≡◌, ℕ, ◌+◌, ◌-◌, min, cond, List, [], ◌∷◌, sym, refl, ap, ◌∙◌, inl, inr, arith}
use Rattle.std.proofs.lemmas.Bool.{cond-true, cond-false, cases_Bool}
use Rattle.interest.specs.Bounds.{priced}
use Rattle.market.specs.declared.sending.Sending.{Sending}
use Rattle.market.specs.Counts.{counted}
use Rattle.market.specs.Sends.{sent_in_all, asked_in_all, AllAt}

counted-ext : (f g : ℕ → ℕ) → ((p : ℕ) → f p ≡ g p) → (p n : ℕ) → counted f p n ≡ counted g p n
counted-ext f g e p n = ap (λ (x : ℕ). cond (priced p) (min n x) 0) (e p)

-- equal counts give equal sums
pub all-ext : (ss : List Sending) (f g : ℕ → ℕ) → ((p : ℕ) → f p ≡ g p) → sent_in_all f ss ≡ sent_in_all g ss
all-ext [] f g e = refl
all-ext (s ∷ ss) f g e =
    let a : counted f s.price s.contracts ≡ counted g s.price s.contracts = counted-ext f g e s.price s.contracts in
    omega (arith, a, all-ext ss (λ p. f p - counted f s.price s.contracts) (λ p. g p - counted g s.price s.contracts) (λ p. omega (arith, e p, a)))

-- the first of the sends, and then the others
pub all_first : (f g : ℕ → ℕ) (s : Sending) (ss : List Sending) (m : ℕ) → m ≡ counted f s.price s.contracts → ((p : ℕ) → g p ≡ f p - m) → m + sent_in_all g ss ≡ sent_in_all f (s ∷ ss)
all_first f g s ss m e h =
    omega (arith, all-ext ss g (λ p. f p - counted f s.price s.contracts) (λ p. omega (arith, h p)))

counted-both : (f : ℕ → ℕ) (p a b : ℕ) → counted f p a + counted (λ q. f q - counted f p a) p b ≡ counted f p (a + b)
counted-both f p a b =
    elim (cases_Bool (priced p)) [
      | inl t ↦
          let u : counted f p a ≡ min a (f p) = cond-true (priced p) (min a (f p)) 0 t in
          let v : counted (λ q. f q - counted f p a) p b ≡ min b (f p - counted f p a) = cond-true (priced p) (min b (f p - counted f p a)) 0 t in
          let w : counted f p (a + b) ≡ min (a + b) (f p) = cond-true (priced p) (min (a + b) (f p)) 0 t in omega arith
      | inr t ↦
          let u : counted f p a ≡ 0 = cond-false (priced p) (min a (f p)) 0 t in
          let v : counted (λ q. f q - counted f p a) p b ≡ 0 = cond-false (priced p) (min b (f p - counted f p a)) 0 t in
          let w : counted f p (a + b) ≡ 0 = cond-false (priced p) (min (a + b) (f p)) 0 t in omega arith
    ]

-- sends at one price are one send
pub all-at-one : (ss : List Sending) (f : ℕ → ℕ) (p : ℕ) → AllAt p ss → sent_in_all f ss ≡ counted f p (asked_in_all ss)
all-at-one [] f p e =
    elim (cases_Bool (priced p)) [
      | inl t ↦ sym (cond-true (priced p) (min 0 (f p)) 0 t ∙ omega arith)
      | inr t ↦ sym (cond-false (priced p) (min 0 (f p)) 0 t)
    ]
all-at-one (s ∷ ss) f p e =
    let q = s.price in
    let m = counted f q s.contracts in
    let a = all-at-one ss (λ x. f x - m) p e.1 in
    let at : m ≡ counted f p s.contracts = ap (λ (x : ℕ). counted f x s.contracts) e.0 in
    let b = counted-ext (λ x. f x - m) (λ x. f x - counted f p s.contracts) (λ x. omega arith) p (asked_in_all ss) in
    omega (arith, counted-both f p s.contracts (asked_in_all ss))

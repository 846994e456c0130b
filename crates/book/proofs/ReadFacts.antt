-- Lemmas on what is read from a list of rows: the first row that passes a test, makers that quote, the best quote, sums.
use Rattle.std.proofs.Common.{◌≡◌, ℕ, zero, suc, ◌+◌, ◌≤◌, Bool, true, false, cond, not, ◌&&◌, ◌||◌, eqb, leb, ◌⊎◌, List, [], ◌∷◌, ◌++◌, is_some, Some, None, sum_by, count_by, filter, fold, Option, sym, refl, ap, ◌∙◌, subst, inl, inr, add-one, arith}
use Rattle.std.specs.List.{AllByRecursion, list_any, range_with_len, cons_option, filter_map, reduce}
use Rattle.std.proofs.lemmas.Bool.{and_parts, and_from, and_left, cond-true, cond-false, cond_both, leb-true, eq-eqb, le-ltb, both_ways, cases_Bool, true≢false, false≢true}
use Rattle.std.proofs.lemmas.Bool.Decides.{nat_tests}
use Rattle.std.proofs.ByRecursion.{All-weaker}
use Rattle.std.proofs.lemmas.List.Sums.{sum_by-cons}
use Rattle.std.proofs.lemmas.Option.{none-some, same_Some}
use Rattle.interest.specs.declared.Side.{Side}
use Rattle.interest.specs.declared.Side.TheVariants.{Buy, Sell}
use Rattle.interest.specs.declared.Class.{Class}
use Rattle.interest.specs.declared.Limit.{Limit}
use Rattle.interest.specs.declared.Limit.TheVariants.{Market, At}
use Rattle.interest.specs.Bounds.{sized, maker_numbered}
use Rattle.book.specs.declared.row.Owner.{Owner}
use Rattle.book.specs.declared.row.Owner.TheVariants.{Order, Quote}
use Rattle.book.specs.declared.row.Row.{Row}
use Rattle.book.specs.Rows.{held, bounded_limit, sound_owner, sound_row, sound_table, place, is_quote_of, order_owned, order_count}
use Rattle.book.specs.Ranks.{of_side, through_price}
use Rattle.book.specs.Reads.{first, stands, quoting, quoted_on, price_of, quote_price, better, best_quote, limited_at, BestQuote}
use Rattle.book.proofs.SoundFacts.{sound-owner, sound-opened, orders-first}

-- the first row that passes a test

pub first-none : (test : Row → Bool) (rows : List Row) → AllByRecursion (λ r. test r ≡ false) rows → first test rows ≡ None
first-none test [] h = refl
first-none test (r ∷ rs) h = cond-false (test r) (Some r) (first test rs) h.0 ∙ first-none test rs h.1

pub first-later : (test : Row → Bool) (xs ys : List Row) → AllByRecursion (λ r. test r ≡ false) xs → first test (xs ++ ys) ≡ first test ys
first-later test [] ys h = refl
first-later test (x ∷ xs) ys h = cond-false (test x) (Some x) (first test (xs ++ ys)) h.0 ∙ first-later test xs ys h.1

pub stands-none : (test : Row → Bool) (rows : List Row) → AllByRecursion (λ r. test r ≡ false) rows → stands test rows ≡ false
stands-none test rows h = ap (λ (o : Option Row). is_some o) (first-none test rows h)

pub none-stands : (test : Row → Bool) (rows : List Row) → stands test rows ≡ false → AllByRecursion (λ r. test r ≡ false) rows
none-stands test [] h = tt
none-stands test (r ∷ rs) h =
    let by : Bool → Bool = λ b. is_some (cond b (Some r) (first test rs)) in
    elim (cases_Bool (test r)) [
      | inl e ↦ absurd (both_ways (stands test (r ∷ rs)) h (ap by e))
      | inr e ↦ (e, none-stands test rs (sym (ap by e) ∙ h))
    ]

stands_here : (test : Row → Bool) (r : Row) (rs : List Row) → test r ≡ true → stands test (r ∷ rs) ≡ true
stands_here test r rs e = ap (λ (o : Option Row). is_some o) (cond-true (test r) (Some r) (first test rs) e)

pub any-stands : (test : Row → Bool) (rows : List Row) → list_any test rows ≡ stands test rows
any-stands test [] = refl
any-stands test (r ∷ rs) = elim (cases_Bool (test r)) [
  | inl e ↦ ap (λ (b : Bool). b || list_any test rs) e ∙ sym (stands_here test r rs e)
  | inr e ↦ ap (λ (b : Bool). b || list_any test rs) e ∙ any-stands test rs ∙ sym (ap (λ (o : Option Row). is_some o) (cond-false (test r) (Some r) (first test rs) e))
]

stands-later : (test : Row → Bool) (r : Row) (rs : List Row) → stands test rs ≡ true → stands test (r ∷ rs) ≡ true
stands-later test r rs h = cond_both (test r) (Some r) (first test rs) (λ (o : Option Row). is_some o ≡ true) (λ _. refl) (λ _. h)

-- a filter that keeps what is sought does not change what is found first
pub first-kept : (test keep : Row → Bool) → ((r : Row) → test r ≡ true → keep r ≡ true) → (rows : List Row) → first test (filter keep rows) ≡ first test rows
first-kept test keep sub [] = refl
first-kept test keep sub (r ∷ rs) =
    let rest = filter keep rs in
    let by : Bool → Option Row = λ b. first test (cond b (r ∷ rest) rest) in
    elim (cases_Bool (test r)) [
      | inl e ↦ ap by (sub r e) ∙ cond-true (test r) (Some r) (first test rest) e ∙ sym (cond-true (test r) (Some r) (first test rs) e)
      | inr e ↦
          cond_both (keep r) (r ∷ rest) rest (λ (xs : List Row). first test xs ≡ first test rest) (λ _. cond-false (test r) (Some r) (first test rest) e) (λ _. refl)
          ∙ first-kept test keep sub rs ∙ sym (cond-false (test r) (Some r) (first test rs) e)
    ]

-- sums

pub sum_same : (f g : Row → ℕ) (rows : List Row) → AllByRecursion (λ r. f r ≡ g r) rows → sum_by f rows ≡ sum_by g rows
sum_same f g [] h = refl
sum_same f g (r ∷ rs) h = omega (arith, sum_by-cons f r rs, sum_by-cons g r rs, h.0, sum_same f g rs h.1)

pub orders-counted : (rows : List Row) → sound_table rows ≡ true → count_by (λ (r : Row). leb (place r) 0) rows ≡ order_count rows
orders-counted rows h =
    sym (sum_same (λ (r : Row). cond (order_owned r.owner) 1 0) (λ (r : Row). cond (leb (place r) 0) 1 0) rows
    (All-weaker (λ (r : Row). order_owned r.owner ≡ leb (place r) 0) (λ (r : Row). cond (order_owned r.owner) 1 0 ≡ cond (leb (place r) 0) 1 0) (λ r e. ap (λ (b : Bool). cond {A = ℕ} b 1 0) e) rows (orders-first rows (sound-opened rows h).each)))

-- makers that quote

pub quoting-counted : (rows : List Row) (m n : ℕ) → count_by (λ (k : ℕ). stands (is_quote_of k) rows) (range_with_len m n) ≡ quoting m n rows
unfolding quoting
quoting-counted rows m zero = refl
quoting-counted rows m (suc n) =
    let one : ℕ → ℕ = λ k. cond (stands (is_quote_of k) rows) 1 0 in
    sum_by-cons one m (range_with_len (m + 1) n) ∙ ap (λ (k : ℕ). one m + k) (quoting-counted rows (m + 1) n) ∙ ap (λ (k : ℕ). one m + quoting k n rows) (add-one m)

-- the best of prices, which is as good as each of them and is one of them

abbrev AsGood : Side → ℕ → ℕ → Type 0
AsGood Buy p q = q ≤ p
AsGood Sell p q = p ≤ q

good-both : (side : Side) (n p q : ℕ) → AsGood side n (better side p q) → AsGood side n p × AsGood side n q
good-both Buy n p q h = (omega arith, omega arith)
good-both Sell n p q h = (omega arith, omega arith)

good-self : (side : Side) (p : ℕ) → AsGood side p p
good-self Buy p = omega arith
good-self Sell p = omega arith

better-either : (side : Side) (p q : ℕ) → (better side p q ≡ p) ⊎ (better side p q ≡ q)
better-either Buy p q = elim (cases_Bool (leb p q)) [ inl e ↦ inr (omega (arith, leb-true p q e)) | inr e ↦ inl (grind (arith, nat_tests)) ]
better-either Sell p q = elim (cases_Bool (leb p q)) [ inl e ↦ inl (omega (arith, leb-true p q e)) | inr e ↦ inr (grind (arith, nat_tests)) ]

best-good : (side : Side) (p : ℕ) (ps : List ℕ) → AllByRecursion (AsGood side (fold (better side) p ps)) (p ∷ ps)
best-good side p [] = (good-self side p, tt)
best-good side p (q ∷ qs) =
    let h = best-good side (better side p q) qs in
    let both = good-both side (fold (better side) p (q ∷ qs)) p q h.0 in
    (both.0, (both.1, h.1))

abbrev IsOneOf : List ℕ → ℕ → Type 0
IsOneOf [] n = ⊥
IsOneOf (p ∷ ps) n = (p ≡ n) ⊎ IsOneOf ps n

best-one : (side : Side) (p : ℕ) (ps : List ℕ) → IsOneOf (p ∷ ps) (fold (better side) p ps)
best-one side p [] = inl refl
best-one side p (q ∷ qs) = elim (best-one side (better side p q) qs) [
  | inl e ↦ elim (better-either side p q) [ inl k ↦ inl (sym k ∙ e) | inr k ↦ inr (inl (sym k ∙ e)) ]
  | inr h ↦ inr (inr h)
]

-- a quote's side in a sound row has a price
quotable-price : (o : Owner) (l : Limit) (c : Class) → bounded_limit l ≡ true → sound_owner o l c ≡ true → order_owned o ≡ false → (x : ℕ) × (l ≡ At x) × (1 ≤ x)
quotable-price (Order n) l c b h e = absurd (true≢false e)
quotable-price (Quote m) Market c b h e = absurd (false≢true (and_parts (maker_numbered m) false h).1)
quotable-price (Quote m) (At x) c b h e = (x, refl, leb-true 1 x (and_parts (leb 1 x) (leb x 100000) b).0)

not-not : (b : Bool) → not b ≡ true → b ≡ false
not-not true h = absurd (false≢true h)
not-not false h = refl

quoted-price : (side : Side) (r : Row) → sound_row r ≡ true → quoted_on side r ≡ true → (x : ℕ) × (r.limit ≡ At x) × (1 ≤ x)
quoted-price side r h q =
    let a = and_parts (sized r.size) _ h in
    let b = and_parts (eqb (held r) r.size) _ a.1 in
    quotable-price r.owner r.limit r.class (and_parts (bounded_limit r.limit) _ b.1).0 (sound-owner r h) (not-not (order_owned r.owner) (and_parts (not (order_owned r.owner)) (of_side side r) q).0)

-- a price of the rows is the limit of a quote's side

limit-at : (l : Limit) (p : ℕ) → price_of l ≡ Some p → l ≡ At p
limit-at Market p e = absurd (none-some p e)
limit-at (At x) p e = ap At (same_Some x p e)

price-limit : (side : Side) (r : Row) (p : ℕ) → quote_price side r ≡ Some p → (quoted_on side r ≡ true) × (r.limit ≡ At p)
price-limit side r p e = elim (cases_Bool (quoted_on side r)) [
  | inl t ↦ (t, limit-at r.limit p (sym (cond-true (quoted_on side r) (price_of r.limit) None t) ∙ e))
  | inr f ↦ absurd (none-some p (sym (cond-false (quoted_on side r) (price_of r.limit) None f) ∙ e))
]

one-row : (side : Side) (r : Row) (ps : List ℕ) (p : ℕ) (o : Option ℕ) → quote_price side r ≡ o → IsOneOf (cons_option o ps) p → IsOneOf ps p ⊎ ((quoted_on side r ≡ true) × (r.limit ≡ At p))
one-row side r ps p None e h = inl h
one-row side r ps p (Some y) e h = elim h [ inl k ↦ inr (price-limit side r p (e ∙ ap (λ (n : ℕ). Some n) k)) | inr k ↦ inl k ]

one-stands : (side : Side) (rows : List Row) (p : ℕ) → AllByRecursion (λ r. sound_row r ≡ true) rows → IsOneOf (filter_map (quote_price side) rows) p → (stands (λ r. quoted_on side r && limited_at p r.limit) rows ≡ true) × (1 ≤ p)
one-stands side [] p sound h = absurd h
one-stands side (r ∷ rs) p sound h =
    let test : Row → Bool = λ s. quoted_on side s && limited_at p s.limit in
    elim (one-row side r (filter_map (quote_price side) rs) p (quote_price side r) refl h) [
      | inl later ↦ let k = one-stands side rs p sound.1 later in (stands-later test r rs k.0, k.1)
      | inr here ↦
          let x = quoted-price side r sound.0 here.0 in
          (stands_here test r rs (and_from (quoted_on side r) (limited_at p r.limit) here.0 (ap (limited_at p) here.1 ∙ eq-eqb p p refl)), omega (arith, same_Some x.0 p (ap price_of (sym x.1 ∙ here.1)), x.2))
    ]

-- what holds of each price of the rows holds of each quote's side

priced-row : (side : Side) (P : ℕ → Type 0) (r : Row) (ps : List ℕ) (o : Option ℕ) → quote_price side r ≡ o → AllByRecursion P (cons_option o ps) → AllByRecursion P ps × ((x : ℕ) → quote_price side r ≡ Some x → P x)
priced-row side P r ps None e h = (h, λ x k. absurd (none-some x (sym e ∙ k)))
priced-row side P r ps (Some y) e h = (h.1, λ x k. subst P (same_Some y x (sym e ∙ k)) h.0)

each-quoted : (side : Side) (P : ℕ → Type 0) (Q : Row → Type 0) (rows : List Row) → AllByRecursion (λ r. sound_row r ≡ true) rows → AllByRecursion P (filter_map (quote_price side) rows) → ((r : Row) (x : ℕ) → r.limit ≡ At x → P x → Q r) → AllByRecursion (λ r. quoted_on side r ≡ true → Q r) rows
each-quoted side P Q [] sound h f = tt
each-quoted side P Q (r ∷ rs) sound h f =
    let k = priced-row side P r (filter_map (quote_price side) rs) (quote_price side r) refl h in (
      λ q. let x = quoted-price side r sound.0 q in f r x.0 x.1 (k.1 x.0 (cond-true (quoted_on side r) (price_of r.limit) None q ∙ ap price_of x.1)),
      each-quoted side P Q rs sound.1 k.0 f,
    )

good-through : (side : Side) (p x : ℕ) → AsGood side p x → through_price side p (At x) ≡ false
good-through Buy p x h = le-ltb p x h
good-through Sell p x h = le-ltb x p h

tells : (side : Side) (rows : List Row) → AllByRecursion (λ r. sound_row r ≡ true) rows → (ps : List ℕ) → filter_map (quote_price side) rows ≡ ps → BestQuote side rows (reduce (better side) ps)
tells side rows sound [] e =
    stands-none (quoted_on side) rows (All-weaker (λ r. quoted_on side r ≡ true → ⊥) (λ r. quoted_on side r ≡ false) (λ r no. elim (cases_Bool (quoted_on side r)) [ inl t ↦ absurd (no t) | inr f ↦ f ]) rows
    (each-quoted side (λ _. ⊥) (λ _. ⊥) rows sound (subst (AllByRecursion (λ _. ⊥)) (sym e) tt) (λ r x k no. no)))
tells side rows sound (p ∷ ps) e =
    let best = fold (better side) p ps in
    let one = one-stands side rows best sound (subst (λ xs. IsOneOf xs best) (sym e) (best-one side p ps)) in
    let each = each-quoted side (AsGood side best) (λ r. through_price side best r.limit ≡ false) rows sound (subst (AllByRecursion (AsGood side best)) (sym e) (best-good side p ps)) (λ r x k good. ap (through_price side best) k ∙ good-through side best x good) in
    record {
      bound = stands-none (λ r. quoted_on side r && through_price side best r.limit) rows (All-weaker (λ r. quoted_on side r ≡ true → through_price side best r.limit ≡ false) (λ r. (quoted_on side r && through_price side best r.limit) ≡ false) (λ r k. elim (cases_Bool (quoted_on side r)) [
        | inl t ↦ ap (λ (b : Bool). b && through_price side best r.limit) t ∙ k t
        | inr f ↦ and_left (quoted_on side r) (through_price side best r.limit) f
      ]) rows each);
      attained = one.0;
      priced = one.1;
    }

pub best-tells : (side : Side) (rows : List Row) → sound_table rows ≡ true → BestQuote side rows (best_quote side rows)
best-tells side rows h = tells side rows (sound-opened rows h).each (filter_map (quote_price side) rows) refl

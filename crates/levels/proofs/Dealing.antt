-- Dealing out level by level.
use Rattle.std.specs.List.{reduce}
use Rattle.std.specs.Option.{unwrap_or}
use Rattle.std.proofs.lemmas.List.Elements.{All-nil, All-cons, All-head, All-tail, All-same, All-weaker}
use Rattle.std.proofs.Common.{All, Some, None, Option, ◌≡◌, ℕ, zero, suc, ◌+◌, ◌<◌, ◌≤◌, Bool, true, false, cond, ◌&&◌, eqb, ltb, leb, min, fold, filter, map, List, [], ◌∷◌, ◌++◌, length, get_or, take, sym, refl, ap, ◌∙◌, subst, inl, inr, arith}
use Rattle.std.proofs.lemmas.Bool.Decides.{nat_tests}
use Rattle.std.proofs.lemmas.List.Sums.{sum_by-cons}
use Rattle.std.proofs.lemmas.List.{append_assoc, append-nil}
use Rattle.std.proofs.lemmas.Bool.{and_left, and_right, ne_eqb, cond-true, cond-false, cases_Bool, cases_lt}
use Rattle.std.proofs.Math.Nat.{min-eq_left, min-eq_right}
use Rattle.sharing.specs.declared.level.Holding.{Holding}
use Rattle.sharing.specs.Totals.{total, contracts as sizes}
use Rattle.book.specs.declared.row.Row.{Row}
use Rattle.book.specs.Ranks.{rank_of, below, at_rank}
use Rattle.levels.specs.Levels.{stands_at, stands_below, holding_of, level_at, next_rank, NoneBetween, NextRank}
use Rattle.levels.specs.Deals.{deal, share_of, dealt}

-- no row that takes part with contracts left has a rank from n part below k
abbrev pub Gap : (Row → Bool) → ℕ → ℕ → List Row → Type 0
Gap part n k [] = Unit {0}
Gap part n k (r ∷ rows) = (stands_below part k r ≡ true → rank_of r < n) × Gap part n k rows

pub gap-refl : (part : Row → Bool) (n : ℕ) (rows : List Row) → Gap part n n rows
gap-refl part n [] = tt
gap-refl part n (r ∷ rows) = ((λ t. grind (arith, nat_tests)), gap-refl part n rows)

gap_at : (part : Row → Bool) (n k : ℕ) (rows : List Row) → Gap part n k rows → NoneBetween part n k rows
gap_at part n k [] gap i d lt h = absurd (omega arith)
gap_at part n k (r ∷ rows) gap zero d lt h = gap.0 h
gap_at part n k (r ∷ rows) gap (suc i) d lt h = gap_at part n k rows gap.1 i d (omega arith) h

-- how a row stands to a level k, where levels below n are done and those between are empty
pub data Stands (part : Row → Bool) (n k : ℕ) (r : Row) : Type 0 where
  here : stands_at part k r ≡ true → rank_of r ≡ k → stands_below part n r ≡ false → stands_below part (k + 1) r ≡ true → Stands part n k r
  done : stands_below part n r ≡ true → stands_below part (k + 1) r ≡ true → rank_of r < k → Stands part n k r
  later : stands_below part n r ≡ false → stands_below part (k + 1) r ≡ false → stands_at part k r ≡ false → Stands part n k r

stands_by : (part : Row → Bool) (n k : ℕ) (r : Row) → n ≤ k → (stands_below part k r ≡ true → rank_of r < n) → (a b : Bool) → stands_at part k r ≡ a → stands_below part n r ≡ b → Stands part n k r
stands_by part n k r le gap true b ha hb = here ha (grind (arith, nat_tests)) (grind (arith, nat_tests)) (grind (arith, nat_tests))
stands_by part n k r le gap false true ha hb = done hb (grind (arith, nat_tests)) (grind (arith, nat_tests))
stands_by part n k r le gap false false ha hb = later hb (grind (arith, nat_tests)) ha

pub stands : (part : Row → Bool) (n k : ℕ) (r : Row) → n ≤ k → (stands_below part k r ≡ true → rank_of r < n) → Stands part n k r
stands part n k r le gap = stands_by part n k r le gap (stands_at part k r) (stands_below part n r) refl refl

-- the place that the next row of a level has, after one row more
pub place-more : (part : Row → Bool) (k : ℕ) (ahead : List Row) (r : Row) → length (level_at part k (ahead ++ r ∷ [])) ≡ cond (stands_at part k r) (length (level_at part k ahead) + 1) (length (level_at part k ahead))
place-more part k [] r = elim (stands_at part k r) as (λ b. length (cond b (holding_of r ∷ []) []) ≡ cond b (0 + 1) 0) [ true ↦ refl | false ↦ refl ]
place-more part k (x ∷ ahead) r =
    let ih = place-more part k ahead r in
    elim (stands_at part k x) as (λ a. length (cond a (holding_of x ∷ level_at part k (ahead ++ r ∷ [])) (level_at part k (ahead ++ r ∷ []))) ≡ cond (stands_at part k r) (length (cond a (holding_of x ∷ level_at part k ahead) (level_at part k ahead)) + 1) (length (cond a (holding_of x ∷ level_at part k ahead) (level_at part k ahead)))) [
      | true ↦ elim (stands_at part k r) as (λ b. length (level_at part k (ahead ++ r ∷ [])) ≡ cond b (length (level_at part k ahead) + 1) (length (level_at part k ahead)) → suc (length (level_at part k (ahead ++ r ∷ []))) ≡ cond b (suc (length (level_at part k ahead)) + 1) (suc (length (level_at part k ahead)))) [ true ↦ (λ e. omega arith) | false ↦ (λ e. omega arith) ] ih
      | false ↦ ih
    ]

module _ (part : Row → Bool) (change : ℕ → Row → Row) (keeps : (g : ℕ) (r : Row) → rank_of (change g r) ≡ rank_of r) where
  other-rank : (g k : ℕ) (r : Row) → rank_of r < k → stands_at part k (change g r) ≡ false
  other-rank g k r lt = let e = keeps g r in and_right (part (change g r)) _ (and_left (eqb (rank_of (change g r)) k) _ (ne_eqb _ _ (λ q. omega arith)))

  -- a level more
  pub dealt-more : (shares : ℕ → List ℕ) (n k : ℕ) → n ≤ k → (ahead rows : List Row) → Gap part n k rows
      → deal part change k (shares k) (length (level_at part k ahead)) (dealt part change shares n ahead rows) ≡ dealt part change shares (k + 1) ahead rows
  dealt-more shares n k le ahead [] gap = refl
  dealt-more shares n k le ahead (r ∷ rows) gap =
      let ih = dealt-more shares n k le (ahead ++ r ∷ []) rows gap.1 in
      let more = place-more part k ahead r in
      let s = share_of part shares ahead r in
      let p = length (level_at part k ahead) in
      let rest = dealt part change shares n (ahead ++ r ∷ []) rows in
      elim (stands part n k r le gap.0) [
        | here a e b t ↦
            let now : cond (stands_below part n r) (change s r) r ≡ r = cond-false (stands_below part n r) (change s r) r b in
            let then : cond (stands_below part (k + 1) r) (change s r) r ≡ change s r = cond-true (stands_below part (k + 1) r) (change s r) r t in
            let here-k : cond (stands_at part k r) (change (get_or (shares k) p 0) r ∷ deal part change k (shares k) (p + 1) rest) (r ∷ deal part change k (shares k) p rest) ≡ change (get_or (shares k) p 0) r ∷ deal part change k (shares k) (p + 1) rest = cond-true (stands_at part k r) _ _ a in
            let m : length (level_at part k (ahead ++ r ∷ [])) ≡ p + 1 = more ∙ cond-true (stands_at part k r) _ _ a in
            let f : List Row → Row → List Row = λ tail x. cond (stands_at part k x) (change (get_or (shares k) p 0) x ∷ deal part change k (shares k) (p + 1) tail) (x ∷ deal part change k (shares k) p tail) in
            let g : ℕ → List Row = λ q. deal part change k (shares k) q rest in
            let sk : ℕ → ℕ = λ x. get_or (shares x) (length (level_at part x ahead)) 0 in
            ap (f rest) now ∙ here-k ∙ cc (ap g m, ih, then, ap sk e)
        | done b t lt ↦
            let now : cond (stands_below part n r) (change s r) r ≡ change s r = cond-true (stands_below part n r) (change s r) r b in
            let then : cond (stands_below part (k + 1) r) (change s r) r ≡ change s r = cond-true (stands_below part (k + 1) r) (change s r) r t in
            let off = other-rank s k r lt in
            let offr : stands_at part k r ≡ false = grind (arith, nat_tests) in
            let m : length (level_at part k (ahead ++ r ∷ [])) ≡ p = more ∙ cond-false (stands_at part k r) _ _ offr in
            let f : List Row → Row → List Row = λ tail x. cond (stands_at part k x) (change (get_or (shares k) p 0) x ∷ deal part change k (shares k) (p + 1) tail) (x ∷ deal part change k (shares k) p tail) in
            let g : ℕ → List Row = λ q. deal part change k (shares k) q rest in
            ap (f rest) now ∙ cond-false (stands_at part k (change s r)) _ _ off ∙ cc (ap g m, ih, then)
        | later b t a ↦
            let now : cond (stands_below part n r) (change s r) r ≡ r = cond-false (stands_below part n r) (change s r) r b in
            let then : cond (stands_below part (k + 1) r) (change s r) r ≡ r = cond-false (stands_below part (k + 1) r) (change s r) r t in
            let m : length (level_at part k (ahead ++ r ∷ [])) ≡ p = more ∙ cond-false (stands_at part k r) _ _ a in
            let f : List Row → Row → List Row = λ tail x. cond (stands_at part k x) (change (get_or (shares k) p 0) x ∷ deal part change k (shares k) (p + 1) tail) (x ∷ deal part change k (shares k) p tail) in
            let g : ℕ → List Row = λ q. deal part change k (shares k) q rest in
            ap (f rest) now ∙ cond-false (stands_at part k r) _ _ a ∙ cc (ap g m, ih, then)
      ]

  -- no level
  pub dealt-none : (shares : ℕ → List ℕ) (ahead rows : List Row) → dealt part change shares 0 ahead rows ≡ rows
  dealt-none shares ahead [] = refl
  dealt-none shares ahead (r ∷ rows) =
      let off : stands_below part 0 r ≡ false = grind (arith, nat_tests) in
      let here-is = cond-false (stands_below part 0 r) (change (share_of part shares ahead r) r) r off in
      cc (here-is, dealt-none shares (ahead ++ r ∷ []) rows)

  -- empty levels
  pub dealt-skip : (shares : ℕ → List ℕ) (n k : ℕ) → n ≤ k → (ahead rows : List Row) → Gap part n k rows → dealt part change shares n ahead rows ≡ dealt part change shares k ahead rows
  dealt-skip shares n k le ahead [] gap = refl
  dealt-skip shares n k le ahead (r ∷ rows) gap =
      let same : stands_below part n r ≡ stands_below part k r = same_takes n k r le gap.0 in
      let h : Bool → Row = λ b. cond b (change (share_of part shares ahead r) r) r in
      cc (ap h same, dealt-skip shares n k le (ahead ++ r ∷ []) rows gap.1)
    where
      same_takes : (n k : ℕ) (r : Row) → n ≤ k → (stands_below part k r ≡ true → rank_of r < n) → stands_below part n r ≡ stands_below part k r
      same_takes n k r le gap = elim (cases_Bool (stands_below part k r)) [ inl e ↦ (let lt = gap e in grind (arith, nat_tests)) | inr e ↦ grind (arith, nat_tests) ]

  -- levels from n part stay as they are
  pub gap-kept : (shares : ℕ → List ℕ) (n k : ℕ) (ahead rows : List Row) → Gap part n k (dealt part change shares n ahead rows) → Gap part n k rows
  gap-kept shares n k ahead [] gap = tt
  gap-kept shares n k ahead (r ∷ rows) gap =
      let u = change (share_of part shares ahead r) r in
      let f : Bool → Type 0 = λ b. stands_below part n r ≡ b → (stands_below part k (cond b u r) ≡ true → rank_of (cond b u r) < n) → stands_below part k r ≡ true → rank_of r < n in (
        elim (stands_below part n r) as f [ true ↦ (λ e old t. grind (arith, nat_tests)) | false ↦ (λ e old t. old t) ] refl gap.0,
        gap-kept shares n k (ahead ++ r ∷ []) rows gap.1,
      )

  pub level-kept : (shares : ℕ → List ℕ) (n k : ℕ) → n ≤ k → (ahead rows : List Row) → level_at part k (dealt part change shares n ahead rows) ≡ level_at part k rows
  level-kept shares n k le ahead [] = refl
  level-kept shares n k le ahead (r ∷ rows) =
      let s = share_of part shares ahead r in
      let ih = level-kept shares n k le (ahead ++ r ∷ []) rows in
      let rest = dealt part change shares n (ahead ++ r ∷ []) rows in
      let f : Bool → Type 0 = λ b. stands_below part n r ≡ b → cond (stands_at part k (cond b (change s r) r)) (holding_of (cond b (change s r) r) ∷ level_at part k rest) (level_at part k rest) ≡ cond (stands_at part k r) (holding_of r ∷ level_at part k rows) (level_at part k rows) in
      elim (stands_below part n r) as f [
        | true ↦ (λ e.
            let lt : rank_of r < k = grind (arith, nat_tests) in
            let off = other-rank s k r lt in
            let offr : stands_at part k r ≡ false = grind (arith, nat_tests) in
            cond-false (stands_at part k (change s r)) _ _ off ∙ ih ∙ sym (cond-false (stands_at part k r) _ _ offr))
        | false ↦ (λ e. let h : List Holding → List Holding = λ xs. cond (stands_at part k r) (holding_of r ∷ xs) xs in ap h ih)
      ] refl

-- sums over empty levels, and over one level
pub below-skip : (part : Row → Bool) (n k : ℕ) → n ≤ k → (rows : List Row) → Gap part n k rows → below part k rows ≡ below part n rows
below-skip part n k le [] gap = refl
below-skip part n k le (r ∷ rows) gap =
    omega (arith, below-skip part n k le rows gap.1, one (part r) (rank_of r) r.left gap.0, sum_by-cons (λ (x : Row). cond (part x && ltb (rank_of x) k) x.left 0) r rows, sum_by-cons (λ (x : Row). cond (part x && ltb (rank_of x) n) x.left 0) r rows)
  where
    one : (b : Bool) (x left : ℕ) → ((b && (ltb x k && ltb 0 left)) ≡ true → x < n) → cond (b && ltb x k) left 0 ≡ cond (b && ltb x n) left 0
    one false x left h = refl
    one true x left h = elim (cases_Bool (ltb x k && ltb 0 left)) [ inl e ↦ (let lt = h e in grind (arith, nat_tests)) | inr e ↦ grind (arith, nat_tests) ]

pub level-total : (part : Row → Bool) (k : ℕ) (rows : List Row) → total (sizes (level_at part k rows)) ≡ at_rank part k rows
level-total part k [] = refl
level-total part k (r ∷ rows) =
    let cons = sum_by-cons (λ (x : Row). cond (part x && eqb (rank_of x) k) x.left 0) r rows in
    let G : Bool → Type 0 = λ b. stands_at part k r ≡ b → total (sizes (cond b (holding_of r ∷ level_at part k rows) (level_at part k rows))) ≡ at_rank part k (r ∷ rows) in
    elim (stands_at part k r) as G [
      | true ↦ (λ e. let h : cond (part r && eqb (rank_of r) k) r.left 0 ≡ r.left = grind (arith, nat_tests) in omega (arith, level-total part k rows, cons))
      | false ↦ (λ e. let h : cond (part r && eqb (rank_of r) k) r.left 0 ≡ 0 = grind (arith, nat_tests) in omega (arith, level-total part k rows, cons))
    ] refl

-- the least of a list
fold_le : (a : ℕ) (xs : List ℕ) → fold min a xs ≤ a
fold_le a [] = omega arith
fold_le a (x ∷ xs) = omega (arith, fold_le (min a x) xs)

least-keeps : (P : ℕ → Type 0) (a : ℕ) (xs : List ℕ) → P a → All P xs → P (fold min a xs)
least-keeps P a [] pa all = pa
least-keeps P a (x ∷ xs) pa all =
    let both : P (min a x) = elim (cases_lt a x) [
      | inl lt ↦ subst P (sym (min-eq_left (omega arith))) pa
      | inr le ↦ subst P (sym (min-eq_right le)) (All-head P x xs all)
    ] in
    least-keeps P (min a x) xs both (All-tail P x xs all)

reduce-keeps : (P : ℕ → Type 0) (xs : List ℕ) (k : ℕ) → All P xs → Some k ≡ reduce min xs → P k
reduce-keeps P [] k all e = absurd (cc)
reduce-keeps P (x ∷ xs) k all e = let same : fold min x xs ≡ k = cc in subst P same (least-keeps P x xs (All-head P x xs all) (All-tail P x xs all))

reduce-or : (top : ℕ) (xs : List ℕ) → All (λ x. x < top) xs → fold min top xs ≡ unwrap_or (reduce min xs) top
reduce-or top [] all = refl
reduce-or top (x ∷ xs) all =
    let lt : x < top = All-head (λ y. y < top) x xs all in
    ap (λ (a : ℕ). fold min a xs) (min-eq_right (omega arith))

-- the next level
module _ (part : Row → Bool) (n top : ℕ) where
  -- the ranks from n on, better than top, at which the rows stand
  abbrev ranks : List Row → List ℕ
  ranks rows = filter (λ k. leb n k && ltb k top) (map rank_of (filter (λ (r : Row). part r && ltb 0 r.left) rows))

  -- a row that stands at one, and a row that does not
  data Head (r : Row) (rows : List Row) : Type 0 where
    on : stands_at part (rank_of r) r ≡ true → n ≤ rank_of r → rank_of r < top → ranks (r ∷ rows) ≡ rank_of r ∷ ranks rows → Head r rows
    off : (stands_below part top r ≡ true → rank_of r < n) → ranks (r ∷ rows) ≡ ranks rows → Head r rows

  head : (r : Row) (rows : List Row) → Head r rows
  head r rows =
      let with_left = filter (λ (x : Row). part x && ltb 0 x.left) rows in
      let G : List Row → List ℕ = λ xs. filter (λ k. leb n k && ltb k top) (map rank_of xs) in
      elim (cases_Bool (part r && ltb 0 r.left)) [
        | inl t ↦
            let e : ranks (r ∷ rows) ≡ G (r ∷ with_left) = ap G (cond-true (part r && ltb 0 r.left) (r ∷ with_left) with_left t) in
            elim (cases_Bool (leb n (rank_of r) && ltb (rank_of r) top)) [
              | inl h ↦ on (grind (arith, nat_tests)) (grind (arith, nat_tests)) (grind (arith, nat_tests)) (e ∙ cond-true (leb n (rank_of r) && ltb (rank_of r) top) (rank_of r ∷ ranks rows) (ranks rows) h)
              | inr h ↦ off (λ s. grind (arith, nat_tests)) (e ∙ cond-false (leb n (rank_of r) && ltb (rank_of r) top) (rank_of r ∷ ranks rows) (ranks rows) h)
            ]
        | inr t ↦ off (λ s. grind (arith, nat_tests)) (ap G (cond-false (part r && ltb 0 r.left) (r ∷ with_left) with_left t))
      ]

  gap-least : (a : ℕ) (rows : List Row) → a ≤ top → Gap part n (fold min a (ranks rows)) rows
  gap-least a [] le = tt
  gap-least a (r ∷ rows) le = elim (head r rows) [
    | on s ge lt e ↦
        let least = fold_le (min a (rank_of r)) (ranks rows) in
        subst (λ (xs : List ℕ). Gap part n (fold min a xs) (r ∷ rows)) (sym e) ((λ t. grind (arith, nat_tests)), gap-least (min a (rank_of r)) rows (omega arith))
    | off out e ↦
        let least = fold_le a (ranks rows) in
        subst (λ (xs : List ℕ). Gap part n (fold min a xs) (r ∷ rows)) (sym e) ((λ t. out (grind (arith, nat_tests))), gap-least a rows le)
  ]

  abbrev Found : List Row → ℕ → Type 0
  Found rows k = (n ≤ k) × (k < top) × ((i : ℕ) × (i < length rows) × ((d : Row) → stands_at part k (get_or rows i d) ≡ true))

  each-found : (rows : List Row) → All (Found rows) (ranks rows)
  each-found [] = All-nil (Found [])
  each-found (r ∷ rows) =
      let more = All-weaker (Found rows) (Found (r ∷ rows)) (λ k f. (f.0, f.1, (suc f.2.0, omega (arith, f.2.1), λ d. f.2.2 d))) (ranks rows) (each-found rows) in
      elim (head r rows) [
        | on s ge lt e ↦ All-same (Found (r ∷ rows)) _ _ e (All-cons (Found (r ∷ rows)) (rank_of r) (ranks rows) (ge, lt, (0, omega arith, λ d. s)) more)
        | off out e ↦ All-same (Found (r ∷ rows)) _ _ e more
      ]

  pub next-gap : (rows : List Row) (o : Option ℕ) → o ≡ next_rank part n top rows → Gap part n (unwrap_or o top) rows
  next-gap rows o e =
      let all = All-weaker (Found rows) (λ x. x < top) (λ k f. f.1) (ranks rows) (each-found rows) in
      subst (λ (k : ℕ). Gap part n k rows) (reduce-or top (ranks rows) all ∙ ap (λ p. unwrap_or p top) (sym e)) (gap-least top rows (omega arith))

  pub next-tells : (rows : List Row) (o : Option ℕ) → o ≡ next_rank part n top rows → NextRank part n top rows o
  next-tells rows None e = gap_at part n top rows (next-gap rows None e)
  next-tells rows (Some k) e =
      let found = reduce-keeps (Found rows) (ranks rows) k (each-found rows) e in
      record { least = found.0; within = found.1; between = gap_at part n k rows (next-gap rows (Some k) e); stands = found.2 }

-- row by row
pub dealt-at : (part : Row → Bool) (change : ℕ → Row → Row) (shares : ℕ → List ℕ) (n : ℕ) (ahead rows : List Row) (i : ℕ) (d : Row) → i < length rows
    → get_or (dealt part change shares n ahead rows) i d ≡ cond (stands_below part n (get_or rows i d)) (change (share_of part shares (ahead ++ take i rows) (get_or rows i d)) (get_or rows i d)) (get_or rows i d)
dealt-at part change shares n ahead [] i d lt = absurd (omega arith)
dealt-at part change shares n ahead (r ∷ rows) zero d lt = ap (λ (xs : List Row). cond (stands_below part n r) (change (share_of part shares xs r) r) r) (sym (append-nil ahead))
dealt-at part change shares n ahead (r ∷ rows) (suc i) d lt =
    let x = get_or rows i d in
    dealt-at part change shares n (ahead ++ r ∷ []) rows i d (omega arith)
    ∙ ap (λ (xs : List Row). cond (stands_below part n x) (change (share_of part shares xs x) x) x) (append_assoc ahead (r ∷ []) (take i rows))

pub dealt-length : (part : Row → Bool) (change : ℕ → Row → Row) (shares : ℕ → List ℕ) (n : ℕ) (ahead rows : List Row) → length (dealt part change shares n ahead rows) ≡ length rows
dealt-length part change shares n ahead [] = refl
dealt-length part change shares n ahead (r ∷ rows) = ap suc (dealt-length part change shares n (ahead ++ r ∷ []) rows)

-- What dealing out shares does to sums over the rows.
use Rattle.std.proofs.Common.{◌≡◌, ℕ, zero, suc, ◌+◌, ◌<◌, ◌≤◌, Bool, true, false, cond, ltb, List, [], ◌∷◌, ◌++◌, map, length, get_or, drop, sym, refl, ap, ◌∙◌, subst, inl, inr, arith}
use Rattle.std.proofs.lemmas.Bool.Decides.{nat_tests}
use Rattle.std.proofs.lemmas.List.{drop_all, drop_more}
use Rattle.std.proofs.lemmas.List.Sums.{sum_by-cons, get_or-le-sum_by}
use Rattle.std.proofs.lemmas.Bool.{and_parts, cond-true, cond-false, cases_Bool}
use Rattle.sharing.specs.declared.level.Holding.{Holding}
use Rattle.sharing.specs.Totals.{total, contracts as sizes, EachAtMost}
use Rattle.book.specs.declared.row.Row.{Row}
use Rattle.book.specs.Ranks.{rank_of, total_of}
use Rattle.levels.specs.Levels.{stands_at, stands_below, holding_of, level_at}
use Rattle.levels.specs.Deals.{deal, share_of, dealt}
use Rattle.levels.proofs.Dealing.{gap-refl, dealt-more, dealt-none, level-kept}

pub total-cons : (f : Row → ℕ) (of : Row → Bool) (r : Row) (rows : List Row) → total_of f of (r ∷ rows) ≡ cond (of r) (f r) 0 + total_of f of rows
total-cons f of r rows = sum_by-cons (λ x. cond (of x) (f x) 0) r rows

-- a sum of nothing has nothing in any row
pub none-at : (f : Row → ℕ) (of : Row → Bool) (rows : List Row) (i : ℕ) (d : Row) → total_of f of rows ≡ 0 → i < length rows → of (get_or rows i d) ≡ true → f (get_or rows i d) ≡ 0
none-at f of rows i d none lt here =
    let c = cond-true (of (get_or rows i d)) (f (get_or rows i d)) 0 here in
    omega (arith, c, get_or-le-sum_by (λ x. cond (of x) (f x) 0) rows i d lt)

-- a sum that no row's change touches
pub total-same : (f : Row → ℕ) (of part : Row → Bool) (change : ℕ → Row → Row) → ((g : ℕ) (r : Row) → part r ≡ true → cond (of (change g r)) (f (change g r)) 0 ≡ cond (of r) (f r) 0)
    → (shares : ℕ → List ℕ) (n : ℕ) (ahead rows : List Row) → total_of f of (dealt part change shares n ahead rows) ≡ total_of f of rows
total-same f of part change same shares n ahead [] = refl
total-same f of part change same shares n ahead (r ∷ rows) =
    let s = share_of part shares ahead r in
    let rest = dealt part change shares n (ahead ++ r ∷ []) rows in
    let ih = total-same f of part change same shares n (ahead ++ r ∷ []) rows in
    let G : Bool → Type 0 = λ b. stands_below part n r ≡ b → total_of f of (cond b (change s r) r ∷ rest) ≡ total_of f of (r ∷ rows) in
    elim (stands_below part n r) as G [
      | true ↦ (λ e. omega (arith, ih, same s r (and_parts (part r) _ e).0, total-cons f of (change s r) rest, total-cons f of r rows))
      | false ↦ (λ e. omega (arith, ih, total-cons f of r rest, total-cons f of r rows))
    ] refl

pub total-map : (f : Row → ℕ) (of : Row → Bool) (h : Row → Row) → ((r : Row) → cond (of (h r)) (f (h r)) 0 ≡ cond (of r) (f r) 0) → (rows : List Row) → total_of f of (map h rows) ≡ total_of f of rows
total-map f of h same [] = refl
total-map f of h same (r ∷ rows) = omega (arith, same r, total-map f of h same rows, total-cons f of (h r) (map h rows), total-cons f of r rows)

-- ranks worse than k do not touch a sum over those better
pub total-later : (f : Row → ℕ) (of part : Row → Bool) (change : ℕ → Row → Row) → ((g : ℕ) (r : Row) → of (change g r) ≡ of r) → (shares : ℕ → List ℕ) (k n : ℕ) → k ≤ n → ((r : Row) → of r ≡ true → ltb (rank_of r) k ≡ true) → (ahead rows : List Row)
    → total_of f of (dealt part change shares n ahead rows) ≡ total_of f of (dealt part change shares k ahead rows)
total-later f of part change still shares k n le early ahead [] = refl
total-later f of part change still shares k n le early ahead (r ∷ rows) =
    let s = share_of part shares ahead r in
    let u = change s r in
    let V : Row → ℕ = λ x. cond (of x) (f x) 0 in
    let one : V (cond (stands_below part n r) u r) ≡ V (cond (stands_below part k r) u r) = elim (cases_Bool (of r)) [
      | inl h1 ↦ (let e = early r h1 in let same : stands_below part n r ≡ stands_below part k r = grind (arith, nat_tests) in ap (λ (b : Bool). V (cond b u r)) same)
      | inr h0 ↦ (let z : (b : Bool) → V (cond b u r) ≡ 0 = λ b. elim b as (λ b. V (cond b u r) ≡ 0) [ true ↦ cond-false (of u) _ _ (still s r ∙ h0) | false ↦ cond-false (of r) _ _ h0 ] in z (stands_below part n r) ∙ sym (z (stands_below part k r)))
    ] in
    omega (
      arith,
      one,
      total-later f of part change still shares k n le early (ahead ++ r ∷ []) rows,
      total-cons f of (cond (stands_below part n r) u r) (dealt part change shares n (ahead ++ r ∷ []) rows),
      total-cons f of (cond (stands_below part k r) u r) (dealt part change shares k (ahead ++ r ∷ []) rows),
    )

-- A sum over rows in which all that take part are counted: a share adds `up` of it and takes `down` of it away.
module _ (part : Row → Bool) (change : ℕ → Row → Row) (keeps : (g : ℕ) (r : Row) → rank_of (change g r) ≡ rank_of r)
    (f : Row → ℕ) (of : Row → Bool) (up down : ℕ → ℕ) (up_none : up 0 ≡ 0) (down-none : down 0 ≡ 0) (up_more : (a b : ℕ) → up (a + b) ≡ up a + up b) (down-more : (a b : ℕ) → down (a + b) ≡ down a + down b)
    (moves : (g : ℕ) (r : Row) → g ≤ r.left → f (change g r) + down g ≡ f r + up g) (still : (g : ℕ) (r : Row) → of (change g r) ≡ of r)
    (top : ℕ) (inside : (r : Row) → stands_below part top r ≡ true → of r ≡ true) where
  total-deal : (k : ℕ) → k < top → (shares : List ℕ) (j : ℕ) (rows : List Row) → j + length (level_at part k rows) ≡ length shares → EachAtMost (drop j shares) (sizes (level_at part k rows))
      → total_of f of (deal part change k shares j rows) + down (total (drop j shares)) ≡ total_of f of rows + up (total (drop j shares))
  total-deal k lt shares j [] e each =
      let none : total (drop j shares) ≡ 0 = ap total (drop_all j shares (omega arith)) in
      omega (arith, ap up none, ap down none, up_none, down-none)
  total-deal k lt shares j (r ∷ rows) e each =
      let v = get_or shares j 0 in
      let G : Bool → Type 0 = λ b. stands_at part k r ≡ b → j + length (cond b (holding_of r ∷ level_at part k rows) (level_at part k rows)) ≡ length shares → EachAtMost (drop j shares) (sizes (cond b (holding_of r ∷ level_at part k rows) (level_at part k rows)))
      → total_of f of (cond b (change v r ∷ deal part change k shares (j + 1) rows) (r ∷ deal part change k shares j rows)) + down (total (drop j shares)) ≡ total_of f of (r ∷ rows) + up (total (drop j shares)) in
      elim (stands_at part k r) as G [
        | true ↦ (λ a e each.
            let in_all : stands_below part top r ≡ true = grind (arith, nat_tests) in
            let ofr : of r ≡ true = inside r in_all in
            let ofu : of (change v r) ≡ true = still v r ∙ ofr in
            let c1 : cond (of (change v r)) (f (change v r)) 0 ≡ f (change v r) = cond-true (of (change v r)) (f (change v r)) 0 ofu in
            let c2 : cond (of r) (f r) 0 ≡ f r = cond-true (of r) (f r) 0 ofr in
            let cut = drop_more shares j 0 (omega arith) in
            let P : List ℕ → Type 0 = λ xs. EachAtMost xs (sizes (holding_of r ∷ level_at part k rows)) in
            let both : EachAtMost (v ∷ drop (j + 1) shares) (sizes (holding_of r ∷ level_at part k rows)) = subst P cut each in
            let rest = total (drop (j + 1) shares) in
            let d : total (drop j shares) ≡ v + rest = ap total cut in
            omega (
              arith,
              c1,
              c2,
              ap up d,
              ap down d,
              up_more v rest,
              down-more v rest,
              moves v r both.0,
              total-deal k lt shares (j + 1) rows (omega arith) both.1,
              total-cons f of (change v r) (deal part change k shares (j + 1) rows),
              total-cons f of r rows,
            ))
        | false ↦ (λ a e each. omega (arith, total-deal k lt shares j rows e each, total-cons f of r (deal part change k shares j rows), total-cons f of r rows))
      ] refl e each

  -- all levels better than n: each its shares
  pub total-dealt : (shares : ℕ → List ℕ) (rows : List Row) → ((k : ℕ) → length (shares k) ≡ length (level_at part k rows)) → ((k : ℕ) → EachAtMost (shares k) (sizes (level_at part k rows)))
      → (sum : ℕ → ℕ) → sum 0 ≡ 0 → ((k : ℕ) → sum (k + 1) ≡ sum k + total (shares k))
      → (n : ℕ) → n ≤ top → total_of f of (dealt part change shares n [] rows) + down (sum n) ≡ total_of f of rows + up (sum n)
  total-dealt shares rows long each sum none more zero le = omega (arith, ap (total_of f of) (dealt-none part change keeps shares [] rows), ap up none, ap down none, up_none, down-none)
  total-dealt shares rows long each sum none more (suc n) le =
      let e : suc n ≡ n + 1 = omega arith in
      let now = dealt part change shares n [] rows in
      let step : deal part change n (shares n) 0 now ≡ dealt part change shares (n + 1) [] rows = dealt-more part change keeps shares n n (omega arith) [] rows (gap-refl part n rows) in
      let kept = level-kept part change keeps shares n n (omega arith) [] rows in
      let P : List Holding → Type 0 = λ xs. EachAtMost (shares n) (sizes xs) in
      let add : total_of f of (deal part change n (shares n) 0 now) + down (total (shares n)) ≡ total_of f of now + up (total (shares n)) =
      total-deal n (omega arith) (shares n) 0 now (omega (arith, long n, ap length kept)) (subst P (sym kept) (each n)) in
      let goal : total_of f of (dealt part change shares (n + 1) [] rows) + down (sum (n + 1)) ≡ total_of f of rows + up (sum (n + 1)) =
      omega (arith, ap (total_of f of) step, add, total-dealt shares rows long each sum none more n (omega arith), ap up (more n), ap down (more n), up_more (sum n) (total (shares n)), down-more (sum n) (total (shares n))) in
      rw e goal

-- what is gained, and what is left
module _ (part : Row → Bool) (change : ℕ → Row → Row) (keeps : (g : ℕ) (r : Row) → rank_of (change g r) ≡ rank_of r) (of : Row → Bool) (still : (g : ℕ) (r : Row) → of (change g r) ≡ of r)
    (top : ℕ) (inside : (r : Row) → stands_below part top r ≡ true → of r ≡ true)
    (shares : ℕ → List ℕ) (rows : List Row) (long : (k : ℕ) → length (shares k) ≡ length (level_at part k rows)) (each : (k : ℕ) → EachAtMost (shares k) (sizes (level_at part k rows)))
    (sum : ℕ → ℕ) (none : sum 0 ≡ 0) (more : (k : ℕ) → sum (k + 1) ≡ sum k + total (shares k)) where
  pub gained : (f : Row → ℕ) → ((g : ℕ) (r : Row) → g ≤ r.left → f (change g r) ≡ f r + g) → total_of f of (dealt part change shares top [] rows) ≡ total_of f of rows + sum top
  gained f adds = omega (arith, total-dealt part change keeps f of (λ x. x) (λ _. 0) refl refl (λ a b. refl) (λ a b. refl) (λ g r le. omega (arith, adds g r le)) still top inside shares rows long each sum none more top (omega arith))

  pub left_over : ((g : ℕ) (r : Row) → g ≤ r.left → (change g r).left + g ≡ r.left) → total_of (λ (r : Row). r.left) of (dealt part change shares top [] rows) + sum top ≡ total_of (λ (r : Row). r.left) of rows
  left_over falls = omega (arith, total-dealt part change keeps (λ (r : Row). r.left) of (λ _. 0) (λ x. x) refl refl (λ a b. refl) (λ a b. refl) (λ g r le. omega (arith, falls g r le)) still top inside shares rows long each sum none more top (omega arith))

-- The turns of loops over the rows of a level, and from level to level.
use Rattle.std.proofs.Common.{◌≡◌, ℕ, Some, None, ◌+◌, ◌<◌, ◌≤◌, Bool, true, false, cond, List, [], ◌∷◌, ◌++◌, length, get_or, take, drop, sym, refl, ap, ◌∙◌, subst, arith}
use Rattle.std.proofs.lemmas.Bool.{cond-true, cond-false}
use Rattle.std.proofs.lemmas.List.{take_more, at_drop_more, append-nil}
use Rattle.sharing.specs.declared.level.Holding.{Holding}
use Rattle.book.specs.declared.row.Row.{Row}
use Rattle.book.specs.Ranks.{rank_of, below}
use Rattle.book.specs.Rewrites.{changed_at}
use Rattle.book.proofs.RewriteFacts.{changed-step, passed-step}
use Rattle.levels.specs.Levels.{stands_at, holding_of, level_at, next_rank, BestFrom}
use Rattle.levels.specs.Deals.{deal, dealt}
use Rattle.levels.proofs.Dealing.{Gap, gap-refl, dealt-more, dealt-none, dealt-skip, gap-kept, below-skip, next-gap, next-tells}

-- a row read through a copy of the rows
pub stands_read : (part : Row → Bool) (k i : ℕ) (d : Row) (seen rows : List Row) (b : Bool) → seen ≡ rows → stands_at part k (get_or seen i d) ≡ b → stands_at part k (get_or rows i d) ≡ b
stands_read part k i d seen rows b e h = ap (λ (xs : List Row). stands_at part k (get_or xs i d)) (sym e) ∙ h

-- gathering a level
level-push : (part : Row → Bool) (k : ℕ) (xs : List Row) (r : Row) → level_at part k (xs ++ r ∷ []) ≡ level_at part k xs ++ level_at part k (r ∷ [])
level-push part k [] r = refl
level-push part k (x ∷ xs) r =
    elim (stands_at part k x) as (λ b. cond b (holding_of x ∷ level_at part k (xs ++ r ∷ [])) (level_at part k (xs ++ r ∷ [])) ≡ cond b (holding_of x ∷ level_at part k xs) (level_at part k xs) ++ level_at part k (r ∷ [])) [
      | true ↦ ap (λ (ys : List Holding). holding_of x ∷ ys) (level-push part k xs r)
      | false ↦ level-push part k xs r
    ]

module _ (part : Row → Bool) (k : ℕ) (rows : List Row) (i : ℕ) (d : Row) (lt : i < length rows) where
  pub level-yes : stands_at part k (get_or rows i d) ≡ true → level_at part k (take (i + 1) rows) ≡ level_at part k (take i rows) ++ holding_of (get_or rows i d) ∷ []
  level-yes h =
      ap (level_at part k) (take_more rows i d lt) ∙ level-push part k (take i rows) (get_or rows i d)
      ∙ ap (λ (ys : List Holding). level_at part k (take i rows) ++ ys) (cond-true (stands_at part k (get_or rows i d)) (holding_of (get_or rows i d) ∷ []) [] h)

  pub level-no : stands_at part k (get_or rows i d) ≡ false → level_at part k (take (i + 1) rows) ≡ level_at part k (take i rows)
  level-no h =
      ap (level_at part k) (take_more rows i d lt) ∙ level-push part k (take i rows) (get_or rows i d)
      ∙ ap (λ (ys : List Holding). level_at part k (take i rows) ++ ys) (cond-false (stands_at part k (get_or rows i d)) (holding_of (get_or rows i d) ∷ []) [] h)
      ∙ append-nil (level_at part k (take i rows))

  -- handing out a level
  level-here : level_at part k (drop i rows) ≡ cond (stands_at part k (get_or rows i d)) (holding_of (get_or rows i d) ∷ level_at part k (drop (i + 1) rows)) (level_at part k (drop (i + 1) rows))
  level-here = at_drop_more (level_at part k) rows i d lt

  pub here-yes : stands_at part k (get_or rows i d) ≡ true → level_at part k (drop i rows) ≡ holding_of (get_or rows i d) ∷ level_at part k (drop (i + 1) rows)
  here-yes h = level-here ∙ cond-true (stands_at part k (get_or rows i d)) _ _ h

  pub here-no : stands_at part k (get_or rows i d) ≡ false → level_at part k (drop i rows) ≡ level_at part k (drop (i + 1) rows)
  here-no h = level-here ∙ cond-false (stands_at part k (get_or rows i d)) _ _ h

  module _ (change : ℕ → Row → Row) (shares : List ℕ) (j : ℕ) where
    deal-here : deal part change k shares j (drop i rows) ≡ cond (stands_at part k (get_or rows i d)) (change (get_or shares j 0) (get_or rows i d) ∷ deal part change k shares (j + 1) (drop (i + 1) rows)) (get_or rows i d ∷ deal part change k shares j (drop (i + 1) rows))
    deal-here = at_drop_more (deal part change k shares j) rows i d lt

    pub deal-yes : stands_at part k (get_or rows i d) ≡ true
        → take (i + 1) (changed_at i (change (get_or shares j 0)) rows) ++ deal part change k shares (j + 1) (drop (i + 1) (changed_at i (change (get_or shares j 0)) rows)) ≡ take i rows ++ deal part change k shares j (drop i rows)
    deal-yes h =
        changed-step (deal part change k shares (j + 1)) i (change (get_or shares j 0)) rows d lt
        ∙ ap (λ (xs : List Row). take i rows ++ xs) (sym (deal-here ∙ cond-true (stands_at part k (get_or rows i d)) _ _ h))

    pub deal-no : stands_at part k (get_or rows i d) ≡ false
        → take (i + 1) rows ++ deal part change k shares j (drop (i + 1) rows) ≡ take i rows ++ deal part change k shares j (drop i rows)
    deal-no h =
        passed-step (deal part change k shares j) i rows d lt
        ∙ ap (λ (xs : List Row). take i rows ++ xs) (sym (deal-here ∙ cond-false (stands_at part k (get_or rows i d)) _ _ h))

-- from level to level
module _ (part : Row → Bool) (change : ℕ → Row → Row) (keeps : (g : ℕ) (r : Row) → rank_of (change g r) ≡ rank_of r) (shares : ℕ → List ℕ) (start : List Row) where
  -- levels better than n are dealt out, and those from there to k are empty
  pub record Skipped (n : ℕ) (rows : List Row) (k : ℕ) : Type 0 where
    pub rows_are : rows ≡ dealt part change shares k [] start
    pub sums : below part k start ≡ below part n start

  skip : (n k : ℕ) (rows : List Row) → n ≤ k → rows ≡ dealt part change shares n [] start → Gap part n k rows → Skipped n rows k
  skip n k rows le er gap =
      let kept : Gap part n k start = gap-kept part change keeps shares n k [] start (subst (λ (xs : List Row). Gap part n k xs) er gap) in
      record { rows_are = er ∙ dealt-skip part change keeps shares n k le [] start kept; sums = below-skip part n k le start kept }

  pub begun : start ≡ dealt part change shares 0 [] start
  begun = sym (dealt-none part change keeps shares [] start)

  pub record Reached (n top : ℕ) (rows : List Row) (k : ℕ) : Type 0 where
    pub least : n ≤ k
    pub within : k < top
    pub skipped : Skipped n rows k

  pub reach : (n top k : ℕ) (rows : List Row) → rows ≡ dealt part change shares n [] start → Some k ≡ next_rank part n top rows → Reached n top rows k
  reach n top k rows er ek =
      let best : BestFrom part n top rows k = next-tells part n top rows (Some k) ek in
      record { least = best.least; within = best.within; skipped = skip n k rows best.least er (next-gap part n top rows (Some k) ek) }

  pub advance : (k : ℕ) (rows after : List Row) → rows ≡ dealt part change shares k [] start → after ≡ deal part change k (shares k) 0 rows → after ≡ dealt part change shares (k + 1) [] start
  advance k rows after er ea = ea ∙ ap (deal part change k (shares k) 0) er ∙ dealt-more part change keeps shares k k (omega arith) [] start (gap-refl part k start)

  pub ended : (n top : ℕ) (rows : List Row) → n ≤ top → rows ≡ dealt part change shares n [] start → None ≡ next_rank part n top rows → Skipped n rows top
  ended n top rows le er en = skip n top rows le er (next-gap part n top rows None en)

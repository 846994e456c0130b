-- Filling, level by level.
use Rattle.std.proofs.Common.{◌≡◌, ℕ, Some, None, zero, suc, ◌+◌, ◌-◌, ◌<◌, ◌≤◌, min, Bool, true, false, cond, List, [], ◌∷◌, ◌++◌, length, get_or, take, drop, sym, refl, ap, ◌∙◌, subst, inl, inr, arith}
use Rattle.std.proofs.lemmas.Bool.Decides.{nat_tests}
use Rattle.std.proofs.lemmas.Bool.{and_parts, cond-true, cond-false, cases_Bool}
use Rattle.std.proofs.lemmas.List.{drop_more, drop_all}
use Rattle.interest.specs.declared.Side.{Side}
use Rattle.sharing.specs.declared.level.Holding.{Holding}
use Rattle.sharing.specs.Totals.{total, contracts as sizes, EachAtMost}
use Rattle.book.specs.declared.row.Row.{Row}
use Rattle.book.specs.Ranks.{rank_of, of_side, total_of, below, at_rank}
use Rattle.book.specs.Rewrites.{trade_row}
use Rattle.book.proofs.RankFacts.{below_more, below_none, below_up, level-takes}
use Rattle.levels.specs.Levels.{stands_at, stands_below, holding_of, level_at, next_rank}
use Rattle.levels.specs.Deals.{deal, share_of, dealt}
use Rattle.levels.proofs.Dealing.{level-kept, level-total, place-more, dealt-at}
use Rattle.levels.proofs.Walking.{begun, reach, advance, ended}
use Rattle.levels.proofs.Totals.{gained}
use Rattle.filling.specs.Fills.{level_shares, filled_rows, got_traded, InPriority}

module _ (shares : ℕ → List Holding → List ℕ) (side : Side) (upto volume : ℕ) (start : List Row) where
  pub record Filling (rows : List Row) (k rest : ℕ) : Type 0 where
    pub most : k ≤ upto
    pub rows_are : rows ≡ filled_rows shares side k volume start
    pub rest_is : rest ≡ volume - below (of_side side) k start

  pub fill-begun : Filling start 0 volume
  fill-begun = record { most = omega arith; rows_are = begun (of_side side) trade_row (λ g r. refl) (level_shares shares side volume start) start; rest_is = omega (arith, below_none (of_side side) start) }

  same-level : (k : ℕ) (rows : List Row) → rows ≡ filled_rows shares side k volume start → level_at (of_side side) k rows ≡ level_at (of_side side) k start
  same-level k rows er = ap (level_at (of_side side) k) er ∙ level-kept (of_side side) trade_row (λ g r. refl) (level_shares shares side volume start) k k (omega arith) [] start

  pub fill-turn : (n k rest : ℕ) (rows after : List Row) (rest' here : ℕ) → Filling rows n rest → Some k ≡ next_rank (of_side side) n upto rows
      → after ≡ deal (of_side side) trade_row k (shares rest (level_at (of_side side) k rows)) 0 rows → here ≡ at_rank (of_side side) k rows → rest' ≡ rest - here
      → Filling after (k + 1) rest'
  fill-turn n k rest rows after rest' here now ek ea el en =
      let part = of_side side in
      let S = level_shares shares side volume start in
      let w = reach part trade_row (λ g r. refl) S start n upto k rows now.rows_are ek in
      let sa = same-level k rows w.skipped.rows_are in
      let es : rest ≡ volume - below part k start = omega (arith, now.rest_is, w.skipped.sums) in
      let sh : shares rest (level_at part k rows) ≡ S k = cc (es, sa) in
      let D : List ℕ → List Row = λ s. deal part trade_row k s 0 rows in
      let same : at_rank part k rows ≡ at_rank part k start = sym (level-total part k rows) ∙ ap (λ (xs : List Holding). total (sizes xs)) sa ∙ level-total part k start in
      record {
        most = omega (arith, w.within);
        rows_are = advance part trade_row (λ g r. refl) S start k rows after w.skipped.rows_are (ea ∙ ap D sh);
        rest_is = omega (arith, es, el, en, same, below_more part k start);
      }

  pub fill-ended : (n rest : ℕ) (rows : List Row) → Filling rows n rest → None ≡ next_rank (of_side side) n upto rows → rows ≡ filled_rows shares side upto volume start
  fill-ended n rest rows now en = (ended (of_side side) trade_row (λ g r. refl) (level_shares shares side volume start) start n upto rows now.most now.rows_are en).rows_are

-- lists of shares
le_total : (xs ms : List ℕ) → length xs ≡ length ms → EachAtMost xs ms → total xs ≤ total ms
le_total [] ms e each = omega arith
le_total (x ∷ xs) [] e each = absurd (omega arith)
le_total (x ∷ xs) (m ∷ ms) e each = omega (arith, each.0, le_total xs ms (omega arith) each.1)

-- shares that come to the whole are the sizes
in-full : (xs ms : List ℕ) → length xs ≡ length ms → EachAtMost xs ms → total ms ≤ total xs → xs ≡ ms
in-full [] [] e each le = refl
in-full [] (m ∷ ms) e each le = absurd (omega arith)
in-full (x ∷ xs) [] e each le = absurd (omega arith)
in-full (x ∷ xs) (m ∷ ms) e each le =
    let le2 = le_total xs ms (omega arith) each.1 in
    let h : x ≡ m = omega (arith, each.0) in
    cc (h, in-full xs ms (omega arith) each.1 (omega (arith, each.0)))

share-le : (xs : List ℕ) (j : ℕ) → get_or xs j 0 ≤ total xs
share-le [] j = omega arith
share-le (x ∷ xs) zero = omega arith
share-le (x ∷ xs) (suc j) = omega (arith, share-le xs j)

-- a row's size stands at its place in its level
size-at : (part : Row → Bool) (k : ℕ) (rows : List Row) (i : ℕ) (d : Row) → i < length rows → stands_at part k (get_or rows i d) ≡ true → get_or (sizes (level_at part k rows)) (length (level_at part k (take i rows))) 0 ≡ (get_or rows i d).left
size-at part k [] i d lt h = absurd (omega arith)
size-at part k (x ∷ xs) zero d lt h = ap (λ (ys : List Holding). get_or (sizes ys) 0 0) (cond-true (stands_at part k x) (holding_of x ∷ level_at part k xs) (level_at part k xs) h)
size-at part k (x ∷ xs) (suc i) d lt h =
    let G : Bool → Type 0 = λ b. get_or (sizes (cond b (holding_of x ∷ level_at part k xs) (level_at part k xs))) (length (cond b (holding_of x ∷ level_at part k (take i xs)) (level_at part k (take i xs)))) 0 ≡ (get_or xs i d).left in
    elim (stands_at part k x) as G [ true ↦ size-at part k xs i d (omega arith) h | false ↦ size-at part k xs i d (omega arith) h ]

-- level by level: what the rows of a level traded, in row order, is its list of shares
module _ (shares : ℕ → List ℕ) (side : Side) (n : ℕ) where
  got-from : (k : ℕ) → k < n → (ahead rows : List Row) → length (level_at (of_side side) k ahead) + length (level_at (of_side side) k rows) ≡ length (shares k)
      → EachAtMost (drop (length (level_at (of_side side) k ahead)) (shares k)) (sizes (level_at (of_side side) k rows))
      → got_traded side k rows (dealt (of_side side) trade_row shares n ahead rows) ≡ drop (length (level_at (of_side side) k ahead)) (shares k)
  got-from k lt ahead [] e each = sym (drop_all (length (level_at (of_side side) k ahead)) (shares k) (omega arith))
  got-from k lt ahead (r ∷ rows) e each =
      let part = of_side side in
      let p = length (level_at part k ahead) in
      let s = share_of part shares ahead r in
      let rest = dealt part trade_row shares n (ahead ++ r ∷ []) rows in
      let more = place-more part k ahead r in
      let G : Bool → Type 0 = λ b. stands_at part k r ≡ b → p + length (cond b (holding_of r ∷ level_at part k rows) (level_at part k rows)) ≡ length (shares k) → EachAtMost (drop p (shares k)) (sizes (cond b (holding_of r ∷ level_at part k rows) (level_at part k rows)))
      → length (level_at part k (ahead ++ r ∷ [])) ≡ cond b (p + 1) p
      → cond b (((cond (stands_below part n r) (trade_row s r) r).traded - r.traded) ∷ got_traded side k rows rest) (got_traded side k rows rest) ≡ drop p (shares k) in
      elim (stands_at part k r) as G [
        | true ↦ (λ h e each m.
            let t : stands_below part n r ≡ true = grind (arith, nat_tests) in
            let at-k : rank_of r ≡ k = grind (arith, nat_tests) in
            let v = get_or (shares k) p 0 in
            let cut = drop_more (shares k) p 0 (omega arith) in
            let P : List ℕ → Type 0 = λ xs. EachAtMost xs (sizes (holding_of r ∷ level_at part k rows)) in
            let both : EachAtMost (v ∷ drop (p + 1) (shares k)) (sizes (holding_of r ∷ level_at part k rows)) = subst P cut each in
            let here : (cond (stands_below part n r) (trade_row s r) r).traded ≡ r.traded + min s r.left = ap (λ (x : Row). x.traded) (cond-true (stands_below part n r) (trade_row s r) r t) in
            let sk : s ≡ v = ap (λ (x : ℕ). get_or (shares x) (length (level_at part x ahead)) 0) at-k in
            let num : (cond (stands_below part n r) (trade_row s r) r).traded - r.traded ≡ v = omega (arith, here, sk, both.0) in
            let Q : ℕ → Type 0 = λ x. EachAtMost (drop x (shares k)) (sizes (level_at part k rows)) in
            let ih = got-from k lt (ahead ++ r ∷ []) rows (omega arith) (subst Q (sym m) both.1) in
            cc (num, ih, cut, ap (λ (x : ℕ). drop x (shares k)) m))
        | false ↦ (λ h e each m.
            let Q : ℕ → Type 0 = λ x. EachAtMost (drop x (shares k)) (sizes (level_at part k rows)) in
            got-from k lt (ahead ++ r ∷ []) rows (omega arith) (subst Q (sym m) each) ∙ ap (λ (x : ℕ). drop x (shares k)) m)
      ] refl e each more

module _ (shares : ℕ → List Holding → List ℕ) (long : (q : ℕ) (xs : List Holding) → length (shares q xs) ≡ length xs) (within : (q : ℕ) (xs : List Holding) → EachAtMost (shares q xs) (sizes xs)) (whole : (q : ℕ) (xs : List Holding) → total (shares q xs) ≡ min q (total (sizes xs)))
    (side : Side) (n volume : ℕ) (rows after : List Row) (is : after ≡ filled_rows shares side n volume rows) where
  pub fill-levels : (k : ℕ) → k < n → got_traded side k rows after ≡ shares (volume - below (of_side side) k rows) (level_at (of_side side) k rows)
  fill-levels k lt =
      let q = volume - below (of_side side) k rows in
      let xs = level_at (of_side side) k rows in
      ap (got_traded side k rows) is ∙ got-from (level_shares shares side volume rows) side n k lt [] rows (omega (arith, long q xs)) (within q xs)

  -- in all, the smaller of the volume and the contracts there
  pub fill-traded : total_of (λ (r : Row). r.traded) (of_side side) after ≡ total_of (λ (r : Row). r.traded) (of_side side) rows + min volume (below (of_side side) n rows)
  fill-traded =
      let part = of_side side in
      ap (total_of (λ (r : Row). r.traded) part) is
      ∙ gained part trade_row (λ g r. refl) part (λ g r. refl) n (λ r h. (and_parts (part r) _ h).0) (level_shares shares side volume rows) rows (λ k. long _ _) (λ k. within _ _)
      (λ k. min volume (below part k rows)) (omega (arith, below_none part rows))
      (λ k. omega (arith, level-takes part volume k rows, whole (volume - below part k rows) (level_at part k rows), level-total part k rows))
      (λ (r : Row). r.traded) (λ g r le. omega arith)

  -- a row that trades leaves nothing in a better level
  pub fill-priority : InPriority side rows after
  fill-priority i j d lti ltj oi oj better trades =
      let part = of_side side in
      let S = level_shares shares side volume rows in
      let ri = get_or rows i d in
      let rj = get_or rows j d in
      let ki = rank_of ri in
      let kj = rank_of rj in
      let ai : get_or after i d ≡ cond (stands_below part n ri) (trade_row (share_of part S (take i rows) ri) ri) ri = ap (λ (xs : List Row). get_or xs i d) is ∙ dealt-at part trade_row S n [] rows i d lti in
      let aj : get_or after j d ≡ cond (stands_below part n rj) (trade_row (share_of part S (take j rows) rj) rj) rj = ap (λ (xs : List Row). get_or xs j d) is ∙ dealt-at part trade_row S n [] rows j d ltj in
      let qi = volume - below part ki rows in
      let qj = volume - below part kj rows in
      let si = share-le (shares qi (level_at part ki rows)) (length (level_at part ki (take i rows))) in
      elim (cases_Bool (stands_below part n ri)) [
        | inr off ↦ absurd (let same : (get_or after i d).traded ≡ ri.traded = ap (λ (r : Row). r.traded) (ai ∙ cond-false (stands_below part n ri) _ _ off) in omega arith)
        | inl on ↦
            let grew : (get_or after i d).traded ≡ ri.traded + min (share_of part S (take i rows) ri) ri.left = ap (λ (r : Row). r.traded) (ai ∙ cond-true (stands_below part n ri) _ _ on) in
            let ltn : ki < n = grind (arith, nat_tests) in
            let some : below part ki rows < volume = omega (arith, si, grew, trades, whole qi (level_at part ki rows)) in
            let e : (kj + 1) + (ki - (kj + 1)) ≡ ki = omega arith in
            let up : below part (kj + 1) rows ≤ below part ki rows = subst (λ (x : ℕ). below part (kj + 1) rows ≤ below part x rows) e (below_up part (kj + 1) (ki - (kj + 1)) rows) in
            let enough : total (sizes (level_at part kj rows)) ≤ qj = omega (arith, up, below_more part kj rows, level-total part kj rows, some) in
            elim (cases_Bool (stands_below part n rj)) [
              | inr off ↦
                  let empty : rj.left ≡ 0 = grind (arith, nat_tests) in
                  ap (λ (r : Row). r.left) (aj ∙ cond-false (stands_below part n rj) _ _ off) ∙ empty
              | inl on2 ↦
                  let here : stands_at part kj rj ≡ true = grind (arith, nat_tests) in
                  let full : shares qj (level_at part kj rows) ≡ sizes (level_at part kj rows) = in-full (shares qj (level_at part kj rows)) (sizes (level_at part kj rows)) (long qj (level_at part kj rows) ∙ sym (length-map-sizes (level_at part kj rows))) (within qj (level_at part kj rows)) (omega (arith, whole qj (level_at part kj rows), enough)) in
                  let sh : share_of part S (take j rows) rj ≡ rj.left = ap (λ (xs : List ℕ). get_or xs (length (level_at part kj (take j rows))) 0) full ∙ size-at part kj rows j d ltj here in
                  let left : (get_or after j d).left ≡ rj.left - share_of part S (take j rows) rj = ap (λ (r : Row). r.left) (aj ∙ cond-true (stands_below part n rj) _ _ on2) in
                  omega (arith, left, sh)
            ]
      ]
    where
      length-map-sizes : (xs : List Holding) → length (sizes xs) ≡ length xs
      length-map-sizes [] = refl
      length-map-sizes (x ∷ xs) = ap suc (length-map-sizes xs)

-- A level gathered row by row, and its shares handed out.
use Rattle.std.proofs.Common.{◌≡◌, ℕ, suc, ◌+◌, ◌<◌, ◌≤◌, Bool, true, false, cond, ◌&&◌, eqb, ltb, leb, List, [], ◌∷◌, ◌++◌, length, get_or, take, drop, is_ok, Ok, Result, Option, Some, None, Bor, sym, refl, ap, ◌∙◌, arith}
use Rattle.std.specs.Option.{option_copied, unwrap_or}
use Rattle.std.specs.declared.slice.Iter.{Iter}
use Rattle.std.specs.Slice.Iter.{iter_rest, iter_steps}
use Rattle.std.proofs.lemmas.Grind.{get_or_after_one}
use Rattle.std.proofs.lemmas.Bool.Decides.{nat_tests}
use Rattle.std.proofs.lemmas.List.{length-take-le}
use Rattle.std.proofs.lemmas.List.Sums.{sum_by_more, sum_by-take-le}
use Rattle.std.proofs.lemmas.Bool.{cond-true, lt-ltb, le-leb, and_from}
use Rattle.interest.specs.Bounds.{sized}
use Rattle.sharing.specs.declared.level.Holding.{Holding}
use Rattle.sharing.specs.declared.level.PushError.{PushError}
use Rattle.sharing.specs.Holdings.{push_answer}
use Rattle.book.specs.declared.row.Row.{Row}
use Rattle.book.specs.Rows.{sound_table}
use Rattle.book.specs.Ranks.{rank_of, at_rank}
use Rattle.book.proofs.RewriteFacts.{row-sound, sound-at, table-rows}
use Rattle.book.proofs.RankFacts.{total-le}
use Rattle.levels.specs.Levels.{stands_at, holding_of, level_at}
use Rattle.levels.specs.Deals.{deal}
use Rattle.levels.proofs.Walking.{level-yes}

level-short : (part : Row → Bool) (k : ℕ) (rows : List Row) → length (level_at part k rows) ≤ length rows
level-short part k [] = omega arith
level-short part k (r ∷ rows) =
    elim (stands_at part k r) as (λ b. length (cond b (holding_of r ∷ level_at part k rows) (level_at part k rows)) ≤ suc (length rows)) [ true ↦ omega (arith, level-short part k rows) | false ↦ omega (arith, level-short part k rows) ]

module _ (part : Row → Bool) (k : ℕ) (rows : List Row) (i : ℕ) (d : Row) (lt : i < length rows) where
  -- a level has room for each row
  pub push-takes : (few : length rows ≤ 128) (sound : sound_table rows ≡ true) (old new : List Holding) (held-now : Holding) (answer : Result (Unit {0}) PushError) → held-now ≡ holding_of (get_or rows i d) → stands_at part k (get_or rows i d) ≡ true → old ≡ level_at part k (take i rows)
      → answer ≡ push_answer old held-now → new ≡ cond (is_ok answer) (old ++ held-now ∷ []) old → new ≡ level_at part k (take (i + 1) rows)
  push-takes few sound old new held-now answer eh h eo ea en =
      let r = get_or rows i d in
      let s = row-sound r (sound-at rows i d sound lt) in
      let some : 1 ≤ r.left = grind (arith, nat_tests) in
      let fits : sized r.left ≡ true = and_from (leb 1 r.left) _ (le-leb 1 r.left some) (le-leb r.left 1000000 (omega (arith, s.0, s.2))) in
      let short : length old < 128 = omega (arith, ap length eo, level-short part k (take i rows), length-take-le i rows (omega arith)) in
      let ok : push_answer old (holding_of r) ≡ Ok tt = cond-true (sized r.left) _ _ fits ∙ cond-true (ltb (length old) 128) _ _ (lt-ltb (length old) 128 short) in
      let yes : is_ok answer ≡ true = ap (λ (x : Result (Unit {0}) PushError). is_ok x) (ea ∙ ap (push_answer old) eh ∙ ok) in
      en ∙ cond-true (is_ok answer) _ _ yes ∙ ap (λ (x : Holding). old ++ x ∷ []) eh ∙ ap (λ (xs : List Holding). xs ++ holding_of r ∷ []) eo ∙ sym (level-yes part k rows i d lt h)

  count-more : at_rank part k (take (i + 1) rows) ≡ at_rank part k (take i rows) + cond (part (get_or rows i d) && eqb (rank_of (get_or rows i d)) k) (get_or rows i d).left 0
  count-more = sum_by_more (λ (r : Row). cond (part r && eqb (rank_of r) k) r.left 0) rows i d lt

  pub count_yes : stands_at part k (get_or rows i d) ≡ true → at_rank part k (take (i + 1) rows) ≡ at_rank part k (take i rows) + (get_or rows i d).left
  count_yes h = let e : cond (part (get_or rows i d) && eqb (rank_of (get_or rows i d)) k) (get_or rows i d).left 0 ≡ (get_or rows i d).left = grind (arith, nat_tests) in omega (arith, count-more)

  pub count_no : stands_at part k (get_or rows i d) ≡ false → at_rank part k (take (i + 1) rows) ≡ at_rank part k (take i rows)
  count_no h = let e : cond (part (get_or rows i d) && eqb (rank_of (get_or rows i d)) k) (get_or rows i d).left 0 ≡ 0 = grind (arith, nat_tests) in omega (arith, count-more)

pub count_fits : (part : Row → Bool) (k i : ℕ) (rows : List Row) → length rows ≤ 128 → sound_table rows ≡ true → at_rank part k (take i rows) ≤ 128000000
count_fits part k i rows few sound =
    omega (arith, sum_by-take-le (λ (r : Row). cond (part r && eqb (rank_of r) k) r.left 0) rows i, total-le (λ (r : Row). r.left) (λ r. omega arith) (λ r. part r && eqb (rank_of r) k) rows (table-rows rows sound))

-- after the first share is taken, the rest is dealt out
pub deal-rest : (part : Row → Bool) (change : ℕ → Row → Row) (k : ℕ) (xs : List ℕ) (j : ℕ) (rows : List Row) → deal part change k xs (j + 1) rows ≡ deal part change k (drop 1 xs) j rows
deal-rest part change k xs j [] = refl
deal-rest part change k xs j (r ∷ rows) =
    let after : j + 1 ≡ 1 + j = omega arith in
    let e : get_or xs (j + 1) 0 ≡ get_or (drop 1 xs) j 0 = ap (λ (n : ℕ). get_or xs n 0) after ∙ sym (get_or_after_one xs j 0) in
    let yes = deal-rest part change k xs (j + 1) rows in
    let no = deal-rest part change k xs j rows in
    elim (stands_at part k r) as (λ b. cond b (change (get_or xs (j + 1) 0) r ∷ deal part change k xs (j + 1 + 1) rows) (r ∷ deal part change k xs (j + 1) rows) ≡ cond b (change (get_or (drop 1 xs) j 0) r ∷ deal part change k (drop 1 xs) (j + 1) rows) (r ∷ deal part change k (drop 1 xs) j rows)) [
      | true ↦ cc (e, yes)
      | false ↦ cc (no)
    ]

ended : (xs : List ℕ) → length xs ≡ 0 → (xs ≡ drop 1 xs) × (0 ≡ get_or xs 0 0)
ended [] e = (refl, refl)
ended (x ∷ xs) e = absurd (omega arith)

-- the first of what an iterator has left, or 0, and what it has left then
pub next-share : (s t : Iter ℕ) (r : Option (Bor ℕ)) → iter_steps s r t → (iter_rest t ≡ drop 1 (iter_rest s)) × (unwrap_or (option_copied r) 0 ≡ get_or (iter_rest s) 0 0)
next-share s t None step = let none = ended (iter_rest s) step.0 in (ap iter_rest step.1 ∙ none.0, none.1)
next-share s t (Some x) step = (sym (ap (drop 1) step), sym (ap (λ (xs : List ℕ). get_or xs 0 0) step))

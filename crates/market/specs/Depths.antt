-- What the levels of a table show: the laws, and one level more.
use Rattle.std.specs.Prelude.{◌≡◌, ℕ, ◌+◌, ◌<◌, ◌≤◌, min, List, [], ◌∷◌, ◌++◌, length, take, drop, slice_index_or, refl}
use Rattle.std.proofs.Common.{sym, ap, ◌∙◌, inl, inr, arith}
use Rattle.std.proofs.lemmas.Bool.Decides.{nat_tests}
use Rattle.std.proofs.lemmas.Bool.{cond-true, cond-false, cond_both, cases_Bool, cases_lt}
use Rattle.std.proofs.lemmas.List.{take_all, take_at, drop_at, drop_all, append-nil}
use Rattle.std.proofs.lemmas.List.Sums.{sum_by-cons, sum_by_more}
use Rattle.interest.specs.Sides.{same_side}
use Rattle.interest.specs.declared.Side.{Side}
use Rattle.interest.specs.declared.Side.TheVariants.{Buy, Sell}
use Rattle.market.specs.declared.depth.DepthLevel.{DepthLevel}
use Rattle.market.specs.Counts.{AsGood, beyond}
use Rattle.market.specs.Entries.{shows}
use Rattle.market.specs.Levels.{level_shows, levels_show, blank}

-- one level more
pub show-more : (d : Side) (ls : List DepthLevel) (i : ℕ) → i < length ls → (p : ℕ) → levels_show d (take (i + 1) ls) p ≡ levels_show d (take i ls) p + level_shows d (slice_index_or ls i blank) p
show-more d ls i h p = sum_by_more (λ l. level_shows d l p) ls i blank h

-- a worse price shows as much or more
shows-mono : (d : Side) (price size p q : ℕ) → AsGood d p q → shows d price size p ≤ shows d price size q
shows-mono Buy price size p q h = grind (arith, nat_tests)
shows-mono Sell price size p q h = grind (arith, nat_tests)

pub level-mono : (d : Side) (l : DepthLevel) (p q : ℕ) → AsGood d p q → level_shows d l p ≤ level_shows d l q
level-mono d l p q h =
    elim (cases_Bool (same_side d l.side)) [
      | inl e ↦ omega (arith, cond-true (same_side d l.side) (shows d l.price l.size p) 0 e, cond-true (same_side d l.side) (shows d l.price l.size q) 0 e, shows-mono d l.price l.size p q h)
      | inr e ↦ omega (arith, cond-false (same_side d l.side) (shows d l.price l.size p) 0 e)
    ]

-- the laws of levels
pub levels-mono : (d : Side) (ls : List DepthLevel) (p q : ℕ) → AsGood d p q → levels_show d ls p ≤ levels_show d ls q
levels-mono d [] p q h = omega arith
levels-mono d (l ∷ ls) p q h =
    omega (arith, sum_by-cons (λ x. level_shows d x p) l ls, sum_by-cons (λ x. level_shows d x q) l ls, level-mono d l p q h, levels-mono d ls p q h)

shows-edge : (d : Side) (price size : ℕ) → shows d price size (beyond d) ≡ 0
shows-edge Buy price size = grind (arith, nat_tests)
shows-edge Sell price size = grind (arith, nat_tests)

level-edge : (d : Side) (l : DepthLevel) → level_shows d l (beyond d) ≡ 0
level-edge d l =
    cond_both (same_side d l.side) (shows d l.price l.size (beyond d)) 0 (λ (x : ℕ). x ≡ 0) (λ e. shows-edge d l.price l.size) (λ e. refl)

pub levels-edge : (d : Side) (ls : List DepthLevel) → levels_show d ls (beyond d) ≡ 0
levels-edge d [] = refl
levels-edge d (l ∷ ls) = omega (arith, sum_by-cons (λ x. level_shows d x (beyond d)) l ls, level-edge d l, levels-edge d ls)

-- the first levels, as the code cuts them off
pub cut : (ls : List DepthLevel) (n top : ℕ) → top ≡ min (length ls) n → take top ls ≡ take n ls
cut ls n top e =
    elim (cases_lt n (length ls)) [
      | inl h ↦ ap (λ (k : ℕ). take k ls) (let w : top ≡ n = omega arith in w)
      | inr h ↦ take_all top ls (omega arith) ∙ sym (take_all n ls h)
    ]

-- and as they stand in the whole after a write
pub put_back : (ls ys : List DepthLevel) (n k : ℕ) → k ≡ min (length ls) n → length ys ≡ k → take n (ys ++ drop k ls) ≡ ys
put_back ls ys n k e h =
    elim (cases_lt n (length ls)) [
      | inl i ↦ take_at ys (drop k ls) n (omega arith)
      | inr i ↦ let w : drop k ls ≡ [] = drop_all k ls (omega arith) in
          ap (λ (zs : List DepthLevel). take n (ys ++ zs)) w ∙ ap (λ (zs : List DepthLevel). take n zs) (append-nil ys) ∙ take_all n ys (omega arith)
    ]

pub rest_back : (ls ys : List DepthLevel) (n k : ℕ) → k ≡ min (length ls) n → length ys ≡ k → drop n (ys ++ drop k ls) ≡ drop n ls
rest_back ls ys n k e h =
    elim (cases_lt n (length ls)) [
      | inl i ↦ drop_at ys (drop k ls) n (omega arith) ∙ ap (λ (x : ℕ). drop x ls) (let w : k ≡ n = omega arith in w)
      | inr i ↦ let w : drop k ls ≡ [] = drop_all k ls (omega arith) in
          ap (λ (zs : List DepthLevel). drop n (ys ++ zs)) w ∙ ap (λ (zs : List DepthLevel). drop n zs) (append-nil ys) ∙ drop_all n ys (omega arith) ∙ sym (drop_all n ls i)
    ]

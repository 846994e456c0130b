-- The level of a side that is taken first: at the best price, the earliest.
use Rattle.std.proofs.Common.{◌≡◌, ℕ, ◌+◌, ◌<◌, Bool, true, false, not, cond, ◌&&◌, List, get_or, Some, None, Option, sym, ap, subst, inl, inr, arith}
use Rattle.std.proofs.lemmas.Bool.{cases_lt, both_ways, cond_both, and_parts, and_cases, not-true, not-false, true≢false, leb-true, leb-false}
use Rattle.interest.specs.declared.Side.{Side}
use Rattle.interest.specs.declared.Side.TheVariants.{Buy, Sell}
use Rattle.market.specs.declared.depth.DepthLevel.{DepthLevel}
use Rattle.market.specs.Counts.{reaches}
use Rattle.market.specs.Levels.{level_stands, blank, Before, Foremost}

-- one level more that does not stand
pub passed_over : (d : Side) (ls : List DepthLevel) (i : ℕ) (o : Option ℕ) → level_stands d (get_or ls i blank) ≡ false → Foremost d ls i o → Foremost d ls (i + 1) o
passed_over d ls i None e u = λ j h. elim (cases_lt j i) [ inl l ↦ u j l | inr l ↦ let s : i ≡ j = omega arith in subst (λ (x : ℕ). level_stands d (get_or ls x blank) ≡ false) s e ]
passed_over d ls i (Some k) e u = (
  omega (arith, u.0),
  u.1,
  λ j h t. elim (cases_lt j i) [
    | inl l ↦ u.2 j l t
    | inr l ↦ let s : i ≡ j = omega arith in absurd (both_ways (level_stands d (get_or ls j blank)) (subst (λ (x : ℕ). level_stands d (get_or ls x blank) ≡ false) s e) t)
  ],
)

same_place : (d : Side) (ls : List DepthLevel) (i j : ℕ) → i ≡ j → Before d ls i j
same_place Buy ls i j s = (λ a. absurd (omega arith), λ a. let p : (get_or ls i blank).price ≡ (get_or ls j blank).price = ap (λ (x : ℕ). (get_or ls x blank).price) s in omega arith)
same_place Sell ls i j s = (λ a. absurd (omega arith), λ a. let p : (get_or ls i blank).price ≡ (get_or ls j blank).price = ap (λ (x : ℕ). (get_or ls x blank).price) s in omega arith)

-- one that stands where none did
pub first_found : (d : Side) (ls : List DepthLevel) (i : ℕ) → level_stands d (get_or ls i blank) ≡ true → Foremost d ls i None → Foremost d ls (i + 1) (Some i)
first_found d ls i e u = (
  omega arith,
  e,
  λ j h t. elim (cases_lt j i) [
    | inl l ↦ absurd (both_ways (level_stands d (get_or ls j blank)) (u j l) t)
    | inr l ↦ same_place d ls i j (omega arith)
  ],
)

-- one that the foremost so far is as good as
good-later : (d : Side) (ls : List DepthLevel) (k i j : ℕ) → k < i → i ≡ j → reaches d (get_or ls k blank).price (get_or ls i blank).price ≡ true → Before d ls k j
good-later Buy ls k i j h s e = (λ a. absurd (omega arith), λ a. let p : (get_or ls i blank).price ≡ (get_or ls j blank).price = ap (λ (x : ℕ). (get_or ls x blank).price) s in let l = leb-true (get_or ls i blank).price (get_or ls k blank).price e in omega arith)
good-later Sell ls k i j h s e = (λ a. absurd (omega arith), λ a. let p : (get_or ls i blank).price ≡ (get_or ls j blank).price = ap (λ (x : ℕ). (get_or ls x blank).price) s in let l = leb-true (get_or ls k blank).price (get_or ls i blank).price e in omega arith)

pub still-first : (d : Side) (ls : List DepthLevel) (i k : ℕ) → reaches d (get_or ls k blank).price (get_or ls i blank).price ≡ true → Foremost d ls i (Some k) → Foremost d ls (i + 1) (Some k)
still-first d ls i k r u = (
  omega (arith, u.0),
  u.1,
  λ j h t. elim (cases_lt j i) [
    | inl l ↦ u.2 j l t
    | inr l ↦ good-later d ls k i j u.0 (omega arith) r
  ],
)

-- one that is better
past_all : (d : Side) (ls : List DepthLevel) (k i j : ℕ) → j < i → reaches d (get_or ls k blank).price (get_or ls i blank).price ≡ false → Before d ls k j → Before d ls i j
past_all Buy ls k i j h e u =
    let l = leb-false (get_or ls i blank).price (get_or ls k blank).price e in
    (λ a. elim (cases_lt j k) [ inl b ↦ omega (arith, u.0 b) | inr b ↦ omega (arith, u.1 b) ], λ a. absurd (omega arith))
past_all Sell ls k i j h e u =
    let l = leb-false (get_or ls k blank).price (get_or ls i blank).price e in
    (λ a. elim (cases_lt j k) [ inl b ↦ omega (arith, u.0 b) | inr b ↦ omega (arith, u.1 b) ], λ a. absurd (omega arith))

pub now-first : (d : Side) (ls : List DepthLevel) (i k : ℕ) → level_stands d (get_or ls i blank) ≡ true → reaches d (get_or ls k blank).price (get_or ls i blank).price ≡ false → Foremost d ls i (Some k) → Foremost d ls (i + 1) (Some i)
now-first d ls i k e r u = (
  omega arith,
  e,
  λ j h t. elim (cases_lt j i) [
    | inl l ↦ past_all d ls k i j l r (u.2 j l t)
    | inr l ↦ same_place d ls i j (omega arith)
  ],
)

-- whether the level at place i is better than the foremost so far, if there is one
abbrev pub overtakes : Side → List DepthLevel → ℕ → Option ℕ → Bool
overtakes d ls i None = true
overtakes d ls i (Some k) = not (reaches d (get_or ls k blank).price (get_or ls i blank).price)

pub taken_over : (d : Side) (ls : List DepthLevel) (i : ℕ) (o : Option ℕ) → overtakes d ls i o ≡ true → level_stands d (get_or ls i blank) ≡ true → Foremost d ls i o → Foremost d ls (i + 1) (Some i)
taken_over d ls i None b e u = first_found d ls i e u
taken_over d ls i (Some k) b e u = now-first d ls i k e (not-true (reaches d (get_or ls k blank).price (get_or ls i blank).price) b) u

pub kept : (d : Side) (ls : List DepthLevel) (i : ℕ) (o : Option ℕ) → overtakes d ls i o ≡ false → Foremost d ls i o → Foremost d ls (i + 1) o
kept d ls i None b u = absurd (true≢false b)
kept d ls i (Some k) b u = still-first d ls i k (not-false (reaches d (get_or ls k blank).price (get_or ls i blank).price) b) u

-- one level more
pub next-first : (d : Side) (ls : List DepthLevel) (i : ℕ) (o next : Option ℕ) → next ≡ cond (overtakes d ls i o && level_stands d (get_or ls i blank)) (Some i) o → Foremost d ls i o → Foremost d ls (i + 1) next
next-first d ls i o next e u =
    subst (λ (x : Option ℕ). Foremost d ls (i + 1) x) (sym e)
    (cond_both (overtakes d ls i o && level_stands d (get_or ls i blank)) (Some i) o (λ (x : Option ℕ). Foremost d ls (i + 1) x)
    (λ t. let h = and_parts (overtakes d ls i o) (level_stands d (get_or ls i blank)) t in taken_over d ls i o h.0 h.1 u)
    (λ f. elim (and_cases (overtakes d ls i o) (level_stands d (get_or ls i blank)) f) [
      | inl b ↦ kept d ls i o b u
      | inr e ↦ passed_over d ls i o e u
    ]))

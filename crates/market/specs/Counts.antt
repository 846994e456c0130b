-- Which of two prices is the better on a side, and what the counts of a side say.
use Rattle.std.specs.Prelude.{◌≡◌, ℕ, ◌+◌, ◌-◌, ◌<◌, ◌≤◌, min, Bool, cond, Some, None, Option, nat_le, nat_lt}
use Rattle.interest.specs.Bounds.{priced}
use Rattle.interest.specs.declared.Side.{Side}
use Rattle.interest.specs.declared.Side.TheVariants.{Buy, Sell}
use Rattle.ladder.specs.Rungs.{least_at_or_above, greatest_at_or_below}

-- p is as good as q or better: bids are better the higher, offers the lower
abbrev pub AsGood : Side → ℕ → ℕ → Type 0
AsGood Buy p q = q ≤ p
AsGood Sell p q = p ≤ q

abbrev pub Better : Side → ℕ → ℕ → Type 0
Better Buy p q = q < p
Better Sell p q = p < q

-- whether a contract shown at q can be had at p
abbrev pub reaches : Side → ℕ → ℕ → Bool
reaches Buy q p = nat_le p q
reaches Sell q p = nat_le q p

-- one step better than a price
abbrev pub one_better : Side → ℕ → ℕ
one_better Buy p = p + 1
one_better Sell p = p - 1

-- one step beyond the best price that there can be
abbrev pub beyond : Side → ℕ
beyond Buy = 100001
beyond Sell = 0

-- the smaller of n and the count at a price; 0 at a price out of bounds
abbrev pub counted : (ℕ → ℕ) → ℕ → ℕ → ℕ
counted count p n = cond (priced p) (min n (count p)) 0

-- at each price the counts after are m less than those before
abbrev pub TakenFrom : (ℕ → ℕ) → ℕ → (ℕ → ℕ) → Type 0
TakenFrom before m after = (p : ℕ) → after p ≡ before p - m

abbrev pub SameCounts : (ℕ → ℕ) → (ℕ → ℕ) → Type 0
SameCounts before after = (p : ℕ) → after p ≡ before p

-- the best price at which the count is 1 or more
unfoldable pub best_of : Side → (ℕ → ℕ) → Option ℕ
best_of Buy count = greatest_at_or_below (λ p. nat_lt 0 (count p)) 100000
best_of Sell count = least_at_or_above (λ p. nat_lt 0 (count p)) 1

-- an answer is a price with a count, and no better price has one; or no price has one
abbrev pub Best : Side → (ℕ → ℕ) → Option ℕ → Type 0
Best d count None = (p : ℕ) → 1 ≤ p → p ≤ 100000 → count p ≡ 0
Best d count (Some q) =
    (1 ≤ q) × (q ≤ 100000) × (0 < count q) × ((p : ℕ) → 1 ≤ p → p ≤ 100000 → Better d p q → count p ≡ 0)

-- the better of two prices, where there are any
abbrev pub better_of : Side → Option ℕ → Option ℕ → Option ℕ
better_of d None o = o
better_of d (Some x) None = Some x
better_of d (Some x) (Some y) = cond (reaches d x y) (Some x) (Some y)

-- What sending to the away market, level by level, makes of the rows.
use Rattle.std.specs.Prelude.{◌≡◌, ℕ, zero, suc, ◌+◌, ◌-◌, ◌<◌, ◌≤◌, min, max, Bool, true, cond, List, [], ◌∷◌, length, slice_index_or}
use Rattle.interest.specs.Bounds.{priced}
use Rattle.interest.specs.declared.Side.{Side}
use Rattle.interest.specs.declared.Side.TheVariants.{Buy, Sell}
use Rattle.interest.specs.Sides.{opposite}
use Rattle.sharing.specs.InOrder.{time_shares}
use Rattle.book.specs.declared.row.Row.{Row}
use Rattle.book.specs.Ranks.{can_route, rank_of, below, at_rank}
use Rattle.book.specs.Rewrites.{route_row}
use Rattle.levels.specs.Levels.{stands_at, level_at}
use Rattle.levels.specs.Deals.{dealt}

-- the contracts shown at a price or better; 0 at a price out of bounds
abbrev pub count_at : (ℕ → ℕ) → ℕ → ℕ
count_at count p = cond (priced p) (count p) 0

-- the limit of a rank; market rows go at the price that reaches everything
abbrev pub own_limit : Side → ℕ → ℕ
own_limit Buy k = min 100000 (100001 - k)
own_limit Sell k = max 1 k

-- what is answered of each rank better than upto is its price
abbrev pub Gives : (ℕ → ℕ → Type 0) → ℕ → (ℕ → ℕ) → Type 0
Gives answers upto price = (k p : ℕ) → k < upto → answers k p → p ≡ price k

-- what is shown to a row of rank k, where each rank is sent at a price of its own
abbrev pub seen_at : (ℕ → ℕ) → (ℕ → ℕ) → ℕ → ℕ
seen_at count price k = count_at count (price k)

-- n contracts taken for the rows of a side: every count that they face falls by n, and their own side stays
pub record SentFor (side : Side) (n : ℕ) (before after : Side → ℕ → ℕ) : Type 0 where
  pub taken : (p : ℕ) → after (opposite side) p ≡ before (opposite side) p - n
  pub stays : (p : ℕ) → after side p ≡ before side p

-- a level served in row order, each row all it has left while there is enough
abbrev pub served : (Row → Bool) → (ℕ → Row → Row) → ℕ → ℕ → List Row → List Row
served part change k q [] = []
served part change k q (r ∷ rows) = cond (stands_at part k r) (change (min r.left q) r ∷ served part change k (q - r.left) rows) (r ∷ served part change k q rows)

-- the contracts that levels better than n send, where the level of rank k is shown `seen k` less what was sent before it
unfoldable pub sent_below : (ℕ → ℕ) → (Row → Bool) → List Row → ℕ → ℕ
sent_below seen part rows zero = 0
sent_below seen part rows (suc n) = sent_below seen part rows n + min (seen n - sent_below seen part rows n) (at_rank part n rows)

abbrev pub route_shares : (ℕ → ℕ) → (Row → Bool) → List Row → ℕ → List ℕ
route_shares seen part rows k = time_shares (seen k - sent_below seen part rows k) (level_at part k rows)

-- the routable rows of a side sent, those of a rank better than `upto`
abbrev pub routed_rows : (ℕ → ℕ) → Side → ℕ → List Row → List Row
routed_rows seen side upto rows = dealt (can_route side) route_row (route_shares seen (can_route side) rows) upto [] rows

-- what a row sends at one price: contracts ahead of it, of better ranks and of earlier rows at its own, come first
abbrev pub route_share : ℕ → Side → List Row → List Row → Row → ℕ
route_share count side rows ahead r = min r.left (count - (below (can_route side) (rank_of r) rows + at_rank (can_route side) (rank_of r) ahead))

-- the same where each rank is shown its own count: less what better ranks sent, and the contracts ahead in the level
abbrev pub own_share : (ℕ → ℕ) → Side → List Row → List Row → Row → ℕ
own_share seen side rows ahead r = min r.left (seen (rank_of r) - (sent_below seen (can_route side) rows (rank_of r) + at_rank (can_route side) (rank_of r) ahead))

-- a routable row keeps contracts only if at least as many as were shown to its rank were sent in all
abbrev pub Exhausted : (ℕ → ℕ) → Side → ℕ → List Row → List Row → Type 0
Exhausted seen side sent before after = (i : ℕ) (d : Row) → i < length before → can_route side (slice_index_or before i d) ≡ true → rank_of (slice_index_or before i d) ≤ 100000 → 0 < (slice_index_or after i d).left → seen (rank_of (slice_index_or before i d)) ≤ sent

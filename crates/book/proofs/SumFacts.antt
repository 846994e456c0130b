-- Sums over the rows: a bound, a row more, and how they move with the price.
use Rattle.std.proofs.Common.{◌≡◌, ℕ, ◌+◌, ◌<◌, ◌≤◌, Bool, true, false, cond, ◌&&◌, eqb, leb, List, [], ◌∷◌, length, get_or, take, sym, refl, ap, ◌∙◌, arith}
use Rattle.std.proofs.lemmas.List.Sums.{sum_by_more, sum_by-take-le, sum_by-cons}
use Rattle.std.proofs.ByRecursion.{sum_by_le, All-weaker}
use Rattle.std.proofs.lemmas.Bool.{leb-true, eqb-true, le-leb, lt-ltb, and_parts, and_from}
use Rattle.std.proofs.lemmas.Bool.Decides.{nat_tests}
use Rattle.interest.specs.declared.Side.{Side}
use Rattle.interest.specs.declared.Side.TheVariants.{Buy, Sell}
use Rattle.interest.specs.declared.Limit.{Limit}
use Rattle.interest.specs.declared.Limit.TheVariants.{Market, At}
use Rattle.interest.specs.Bounds.{sized}
use Rattle.book.specs.declared.row.Row.{Row}
use Rattle.book.specs.declared.book.Book.{Book}
use Rattle.book.specs.Rows.{every, sound_row, held}
use Rattle.book.specs.Ranks.{contracts, of_side, can_route, routable_class, takes_price, through_price, interest_at, routable_at, interest_through, routable_through}
use Rattle.book.specs.Books.{rows_of}
use Rattle.book.specs.Sums.{limited_at}
use Rattle.book.proofs.SoundFacts.{every-all, sound-few}

-- a row has at most a million contracts left
pub left-small : (r : Row) → sound_row r ≡ true → r.left ≤ 1000000
left-small r e =
    let size = and_parts (sized r.size) _ e in
    let sum = and_parts (eqb (held r) r.size) _ size.1 in
    omega (arith, leb-true r.size 1000000 (and_parts (leb 1 r.size) _ size.0).1, eqb-true (held r) r.size sum.0)

pub size-le : (b : Bool) (n m : ℕ) → n ≤ m → cond b n 0 ≤ m
size-le true n m h = h
size-le false n m h = omega arith

module _ (test : Row → Bool) (rows : List Row) (sound : every sound_row rows ≡ true) (fits : length rows ≤ 128) where
  -- what the rows hold fits
  pub contracts-bound : contracts test rows ≤ 128000000
  contracts-bound =
      let each = All-weaker (λ (r : Row). sound_row r ≡ true) (λ (r : Row). cond (test r) r.left 0 ≤ 1000000) (λ r h. size-le (test r) r.left 1000000 (left-small r h)) rows (every-all sound_row rows sound) in
      omega (arith, sum_by_le (λ (r : Row). cond (test r) r.left 0) 1000000 rows each)

  contracts-front : (i : ℕ) → contracts test (take i rows) ≤ 128000000
  contracts-front i = omega (arith, sum_by-take-le (λ (r : Row). cond (test r) r.left 0) rows i, contracts-bound)

-- a turn of a loop that adds them up: the new sum, and that it fits
pub turn : (test : Row → Bool) (rows : List Row) (i s x : ℕ) (b : Bool) (d : Row) → i < length rows → s ≡ contracts test (take i rows) → b ≡ test (get_or rows i d) → x ≡ cond b (get_or rows i d).left 0 → s + x ≡ contracts test (take (i + 1) rows)
turn test rows i s x b d h es eb ex = rw (es, ex, eb) (sym (sum_by_more (λ (r : Row). cond (test r) r.left 0) rows i d h))

pub turn-fits : (test : Row → Bool) (rows : List Row) (i s x : ℕ) (b : Bool) (d : Row) → every sound_row rows ≡ true → length rows ≤ 128 → i < length rows → s ≡ contracts test (take i rows) → b ≡ test (get_or rows i d) → x ≡ cond b (get_or rows i d).left 0 → s + x ≤ 128000000
turn-fits test rows i s x b d sound fits h es eb ex = omega (arith, turn test rows i s x b d h es eb ex, contracts-front test rows sound fits (i + 1))

-- a test that passes more rows holds no fewer contracts
cond-mono : (a b : Bool) (n : ℕ) → (a ≡ true → b ≡ true) → cond a n 0 ≤ cond b n 0
cond-mono false b n h = omega arith
cond-mono true b n h = let e : b ≡ true = h refl in rw e (omega arith)

pub contracts-mono : (f g : Row → Bool) → ((r : Row) → f r ≡ true → g r ≡ true) → (rows : List Row) → contracts f rows ≤ contracts g rows
contracts-mono f g h [] = omega arith
contracts-mono f g h (r ∷ rows) =
    omega (arith, sum_by-cons (λ (x : Row). cond (f x) x.left 0) r rows, sum_by-cons (λ (x : Row). cond (g x) x.left 0) r rows, contracts-mono f g h rows, cond-mono (f r) (g r) r.left (h r))

-- two tests that no row passes together
pub contracts-split : (f g h : Row → Bool) → ((r : Row) → cond (f r) r.left 0 ≡ cond (g r) r.left 0 + cond (h r) r.left 0) → (rows : List Row) → contracts f rows ≡ contracts g rows + contracts h rows
contracts-split f g h e [] = omega arith
contracts-split f g h e (r ∷ rows) =
    omega (arith, sum_by-cons (λ (x : Row). cond (f x) x.left 0) r rows, sum_by-cons (λ (x : Row). cond (g x) x.left 0) r rows, sum_by-cons (λ (x : Row). cond (h x) x.left 0) r rows, contracts-split f g h e rows, e r)

-- rows that pass a test too and a test of their limit
abbrev limited : (Row → Bool) → (Limit → Bool) → Row → Bool
limited test of r = test r && of r.limit

module _ (test : Row → Bool) (rows : List Row) where
  -- a test of limits that passes more
  pub limited-mono : (f g : Limit → Bool) → ((l : Limit) → f l ≡ true → g l ≡ true) → contracts (limited test f) rows ≤ contracts (limited test g) rows
  limited-mono f g h = contracts-mono (limited test f) (limited test g) (λ r e. let x = and_parts (test r) (f r.limit) e in and_from _ _ x.0 (h r.limit x.1)) rows

-- as the price rises buys do not grow, and sells do not fall
buy-falls : (p q : ℕ) → p ≤ q → (l : Limit) → takes_price Buy q l ≡ true → takes_price Buy p l ≡ true
buy-falls p q h Market e = refl
buy-falls p q h (At x) e = le-leb p x (omega (arith, leb-true q x e))

sell-rises : (p q : ℕ) → p ≤ q → (l : Limit) → takes_price Sell p l ≡ true → takes_price Sell q l ≡ true
sell-rises p q h Market e = refl
sell-rises p q h (At x) e = le-leb x q (omega (arith, leb-true x p e))

module _ (rows : List Row) (p q : ℕ) (h : p ≤ q) where
  pub buys-fall : interest_at Buy q rows ≤ interest_at Buy p rows
  buys-fall = limited-mono (of_side Buy) rows (takes_price Buy q) (takes_price Buy p) (buy-falls p q h)

  pub sells-rise : interest_at Sell p rows ≤ interest_at Sell q rows
  sells-rise = limited-mono (of_side Sell) rows (takes_price Sell p) (takes_price Sell q) (sell-rises p q h)

  pub routable-buys-fall : routable_at Buy q rows ≤ routable_at Buy p rows
  routable-buys-fall = limited-mono (can_route Buy) rows (takes_price Buy q) (takes_price Buy p) (buy-falls p q h)

  pub routable-sells-rise : routable_at Sell p rows ≤ routable_at Sell q rows
  routable-sells-rise = limited-mono (can_route Sell) rows (takes_price Sell p) (takes_price Sell q) (sell-rises p q h)

-- the routable part is a part
routable-part : (side : Side) (of : Limit → Bool) (rows : List Row) → contracts (limited (can_route side) of) rows ≤ contracts (limited (of_side side) of) rows
routable-part side of rows =
    contracts-mono (limited (can_route side) of) (limited (of_side side) of)
    (λ r e. let x = and_parts (can_route side r) (of r.limit) e in and_from _ _ (and_parts (of_side side r) (routable_class r.class) x.0).0 x.1) rows

pub routable-at-part : (side : Side) (p : ℕ) (rows : List Row) → routable_at side p rows ≤ interest_at side p rows
routable-at-part side p rows = routable-part side (takes_price side p) rows

pub routable-through-part : (side : Side) (p : ℕ) (rows : List Row) → routable_through side p rows ≤ interest_through side p rows
routable-through-part side p rows = routable-part side (through_price side p) rows

pub routable-limited-part : (side : Side) (p : ℕ) (rows : List Row) → contracts (λ r. can_route side r && limited_at p r.limit) rows ≤ contracts (λ r. of_side side r && limited_at p r.limit) rows
routable-limited-part side p rows = routable-part side (limited_at p) rows

-- a limit that takes p is through it, or is p
at_split : (side : Side) (p : ℕ) (l : Limit) (n : ℕ) → cond (takes_price side p l) n 0 ≡ cond (through_price side p l) n 0 + cond (limited_at p l) n 0
at_split side p Market n = omega arith
at_split Buy p (At x) n = grind (arith, nat_tests)
at_split Sell p (At x) n = grind (arith, nat_tests)

both-split : (a b c d : Bool) (n : ℕ) → cond b n 0 ≡ cond c n 0 + cond d n 0 → cond (a && b) n 0 ≡ cond (a && c) n 0 + cond (a && d) n 0
both-split true b c d n e = e
both-split false b c d n e = omega arith

pub limited-split : (side : Side) (test : Row → Bool) (p : ℕ) (rows : List Row) → contracts (limited test (takes_price side p)) rows ≡ contracts (limited test (through_price side p)) rows + contracts (limited test (limited_at p)) rows
limited-split side test p rows =
    contracts-split (limited test (takes_price side p)) (limited test (through_price side p)) (limited test (limited_at p))
    (λ r. both-split (test r) (takes_price side p r.limit) (through_price side p r.limit) (limited_at p r.limit) r.left (at_split side p r.limit r.left)) rows

pub interest-split : (side : Side) (p : ℕ) (rows : List Row) → interest_at side p rows ≡ interest_through side p rows + contracts (λ r. of_side side r && limited_at p r.limit) rows
interest-split side p rows = limited-split side (of_side side) p rows

pub routable-split : (side : Side) (p : ℕ) (rows : List Row) → routable_at side p rows ≡ routable_through side p rows + contracts (λ r. can_route side r && limited_at p r.limit) rows
routable-split side p rows = limited-split side (can_route side) p rows

-- every buy at a higher price is through p, and every sell at a lower one
buy-through : (p q : ℕ) → p < q → (l : Limit) → takes_price Buy q l ≡ true → through_price Buy p l ≡ true
buy-through p q h Market e = refl
buy-through p q h (At x) e = lt-ltb p x (omega (arith, leb-true q x e))

sell-through : (p q : ℕ) → q < p → (l : Limit) → takes_price Sell q l ≡ true → through_price Sell p l ≡ true
sell-through p q h Market e = refl
sell-through p q h (At x) e = lt-ltb x p (omega (arith, leb-true x q e))

pub buys-through : (rows : List Row) (p q : ℕ) → p < q → interest_at Buy q rows ≤ interest_through Buy p rows
buys-through rows p q h = limited-mono (of_side Buy) rows (takes_price Buy q) (through_price Buy p) (buy-through p q h)

pub sells-through : (rows : List Row) (p q : ℕ) → q < p → interest_at Sell q rows ≤ interest_through Sell p rows
sells-through rows p q h = limited-mono (of_side Sell) rows (takes_price Sell q) (through_price Sell p) (sell-through p q h)

-- what the invariant of a book says of its rows
pub book-sound : (b : Book) → every sound_row (rows_of b) ≡ true
book-sound b = (and_parts (every sound_row (rows_of b)) _ b.sound).0

pub book-fits : (b : Book) → length (rows_of b) ≤ 128
book-fits b = sound-few (rows_of b) b.sound

-- the same of the rows that it lists
module _ (b : Book) (rows : List Row) (listed : rows ≡ rows_of b) where
  pub listed-sound : every sound_row rows ≡ true
  listed-sound = ap (every sound_row) listed ∙ book-sound b

  pub listed-fits : length rows ≤ 128
  listed-fits = omega (arith, ap (λ (xs : List Row). length xs) listed, book-fits b)

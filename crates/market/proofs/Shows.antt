-- What an entry shows.
use Rattle.std.proofs.Common.{◌≡◌, ℕ, ◌-◌, ◌<◌, ◌≤◌, true, false, cond, Some, None, Option, sym, refl, ap, ◌∙◌, subst, arith}
use Rattle.std.proofs.lemmas.Bool.Decides.{nat_tests}
use Rattle.std.proofs.lemmas.Bool.{cond-true, cond-false, cond_both}
use Rattle.interest.specs.declared.Side.{Side}
use Rattle.interest.specs.declared.Side.TheVariants.{Buy, Sell}
use Rattle.market.specs.declared.single.Entry.{Entry}
use Rattle.market.specs.Counts.{Better, reaches, counted, best_of, Best}
use Rattle.interest.specs.Sides.{opposite}
use Rattle.market.specs.declared.single.SingleMarket.{SingleMarket}
use Rattle.market.specs.Entries.{in_bounds, shows, entry_shows, entry_of, with_entry, lessened, single_shown}
use Rattle.market.proofs.Bests.{best-is}

pub bounds : (price size : ℕ) → in_bounds price size ≡ true → (1 ≤ price) × (price ≤ 100000) × (0 < size) × (size ≤ 1000000)
bounds price size e = grind (arith, nat_tests)

-- an entry that stands shows its size where it is reached
pub shows-there : (d : Side) (price size p : ℕ) → in_bounds price size ≡ true → shows d price size p ≡ cond (reaches d price p) size 0
shows-there d price size p e = cond-true (in_bounds price size) (cond (reaches d price p) size 0) 0 e

pub reaches-itself : (d : Side) (p : ℕ) → reaches d p p ≡ true
reaches-itself Buy p = grind (arith, nat_tests)
reaches-itself Sell p = grind (arith, nat_tests)

pub reaches-no-better : (d : Side) (q p : ℕ) → Better d p q → reaches d q p ≡ false
reaches-no-better Buy q p b = grind (arith, nat_tests)
reaches-no-better Sell q p b = grind (arith, nat_tests)

pub stands-best : (d : Side) (price size : ℕ) → in_bounds price size ≡ true → Best d (shows d price size) (Some price)
stands-best d price size e =
    let h = bounds price size e in (
      h.0,
      h.1,
      let k : shows d price size price ≡ size = shows-there d price size price e ∙ cond-true (reaches d price price) size 0 (reaches-itself d price) in omega arith,
      λ p l m b. shows-there d price size p e ∙ cond-false (reaches d price p) size 0 (reaches-no-better d price p b),
    )

pub fallen-best : (d : Side) (price size : ℕ) → in_bounds price size ≡ false → Best d (shows d price size) None
fallen-best d price size e = λ p l m. cond-false (in_bounds price size) (cond (reaches d price p) size 0) 0 e

-- the price of an entry that stands is the best; one that does not, or none, shows no price
abbrev pub standing_price : Option Entry → Option ℕ
standing_price None = None
standing_price (Some e) = cond (in_bounds e.price e.size) (Some e.price) None

pub entry-best : (d : Side) (o : Option Entry) → standing_price o ≡ best_of d (entry_shows d o)
entry-best d None = best-is d (λ _. 0) None (λ p l h. refl)
entry-best d (Some e) =
    cond_both (in_bounds e.price e.size) (Some e.price) None (λ (x : Option ℕ). x ≡ best_of d (shows d e.price e.size))
    (λ t. best-is d (shows d e.price e.size) (Some e.price) (stands-best d e.price e.size t))
    (λ f. best-is d (shows d e.price e.size) None (fallen-best d e.price e.size f))

-- what a send leaves
pub shows-less : (d : Side) (price size m q n : ℕ) → m ≡ counted (shows d price size) q n → (p : ℕ) → shows d price (size - m) p ≡ shows d price size p - m
shows-less Buy price size m q n e p = grind (arith, nat_tests)
shows-less Sell price size m q n e p = grind (arith, nat_tests)

pub take-answer : (d : Side) (o : Option Entry) (e : Entry) → o ≡ Some e → (m q n : ℕ) → m ≡ counted (shows d e.price e.size) q n → m ≡ counted (entry_shows d o) q n
take-answer d o e s m q n h = subst (λ (x : Option Entry). m ≡ counted (entry_shows d x) q n) (sym s) h

-- what an entry, and a market of one entry to a side, shows after a send
entry-less : (d : Side) (o : Option Entry) (m q n : ℕ) → m ≡ counted (entry_shows d o) q n → (p : ℕ) → entry_shows d (lessened o m) p ≡ entry_shows d o p - m
entry-less d None m q n e p = omega arith
entry-less d (Some x) m q n e p = shows-less d x.price x.size m q n e p

entry-put : (s : SingleMarket) (d : Side) (o : Option Entry) → entry_of (with_entry s d o) d ≡ o
entry-put s Buy o = refl
entry-put s Sell o = refl

entry_kept : (s : SingleMarket) (d : Side) (o : Option Entry) → entry_of (with_entry s d o) (opposite d) ≡ entry_of s (opposite d)
entry_kept s Buy o = refl
entry_kept s Sell o = refl

pub single-taken : (s t : SingleMarket) (d : Side) (m q n : ℕ) → t ≡ with_entry s d (lessened (entry_of s d) m) → m ≡ counted (single_shown s d) q n → (p : ℕ) → single_shown t d p ≡ single_shown s d p - m
single-taken s t d m q n l e p =
    ap (λ (x : SingleMarket). single_shown x d p) l ∙ ap (λ (o : Option Entry). entry_shows d o p) (entry-put s d (lessened (entry_of s d) m)) ∙ entry-less d (entry_of s d) m q n e p

pub single-stays : (s t : SingleMarket) (d : Side) (m : ℕ) → t ≡ with_entry s d (lessened (entry_of s d) m) → (p : ℕ) → single_shown t (opposite d) p ≡ single_shown s (opposite d) p
single-stays s t d m l p =
    ap (λ (x : SingleMarket). single_shown x (opposite d) p) l ∙ ap (λ (o : Option Entry). entry_shows (opposite d) o p) (entry_kept s d (lessened (entry_of s d) m))

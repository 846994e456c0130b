-- What an opening range always is: from a price to one that is not below it, with the whole spread inside.
use Rattle.std.proofs.Common.{◌≡◌, ℕ, ◌≤◌, true, Some, None, Option, refl, arith}
use Rattle.std.proofs.lemmas.Bool.Decides.{nat_tests}
use Rattle.interest.specs.Bounds.{priced}
use Rattle.ranges.specs.declared.Quotes.{Quotes}
use Rattle.ranges.specs.declared.Away.{Away}
use Rattle.ranges.specs.declared.Range.{Range}
use Rattle.ranges.specs.Ranges.{spread_of, opening_range, Standing, Proper, Inside}

abbrev shown : Option ℕ → Option ℕ → Away
shown b o = record { bid = b; offer = o }

proper-at : (q : Quotes) (b o : Option ℕ) → Standing q (shown b o) → Proper (opening_range q (shown b o))
proper-at q (Some b) (Some o) s =
    let h : priced b ≡ true = s.away_bid b refl in
    let k : priced o ≡ true = s.away_offer o refl in
    let le : b ≤ o = s.uncrossed b o refl refl in
    record { bottom = grind (arith, nat_tests); order = grind (arith, nat_tests); top = grind (arith, nat_tests) }
proper-at q (Some b) None s =
    let h : priced b ≡ true = s.away_bid b refl in
    record { bottom = grind (arith, nat_tests); order = grind (arith, nat_tests); top = grind (arith, nat_tests) }
proper-at q None (Some o) s =
    let k : priced o ≡ true = s.away_offer o refl in
    record { bottom = grind (arith, nat_tests); order = grind (arith, nat_tests); top = grind (arith, nat_tests) }
proper-at q None None s =
    record { bottom = grind (arith, nat_tests); order = grind (arith, nat_tests); top = grind (arith, nat_tests) }

pub opening-proper : (q : Quotes) (a : Away) {r : Range} → r ≡ opening_range q a → Standing q a → Proper r
opening-proper q a e s = rw e (proper-at q a.bid a.offer s)

inside-at : (q : Quotes) (b o : Option ℕ) (p : ℕ) → priced p ≡ true → Inside p (spread_of q (shown b o)) → Inside p (opening_range q (shown b o))
inside-at q (Some b) (Some o) p h k = record { from_low = grind (arith, nat_tests); to_high = grind (arith, nat_tests) }
inside-at q (Some b) None p h k = record { from_low = grind (arith, nat_tests); to_high = grind (arith, nat_tests) }
inside-at q None (Some o) p h k = record { from_low = grind (arith, nat_tests); to_high = grind (arith, nat_tests) }
inside-at q None None p h k = record { from_low = grind (arith, nat_tests); to_high = grind (arith, nat_tests) }

pub opening-whole : (q : Quotes) (a : Away) {r : Range} → r ≡ opening_range q a → (p : ℕ) → priced p ≡ true → Inside p (spread_of q a) → Inside p r
opening-whole q a e p h k = rw e (inside-at q a.bid a.offer p h k)

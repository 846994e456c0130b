-- The look-up in the table of bands: what it finds, and that a higher bid never finds smaller widths.
use Rattle.std.proofs.Common.{◌≡◌, ℕ, ◌<◌, ◌≤◌, Bool, true, cond, leb, ◌⊎◌, List, [], ◌∷◌, ◌++◌, reverse, Some, None, Option, sym, refl, ap, ◌∙◌, subst, inl, inr, arith, rules}
use Rattle.std.proofs.lemmas.Bool.{cond-true, cond-false, cond_both, cases_Bool}
use Rattle.std.proofs.lemmas.Bool.Decides.{leb_tells, nat_tests}
use Rattle.std.proofs.lemmas.List.{reverse-append}
use Rattle.std.specs.List.{AllByRecursion, find}
use Rattle.std.specs.Option.{unwrap_or}
use Rattle.ranges.specs.declared.Band.{Band}
use Rattle.ranges.specs.Bands.{lowest_band, higher_bands, band_table, last_reached, band_of, LastReached, NoNarrower}

-- a walk from b over xs ends at b, with all of xs out of reach, or at the last of xs that is reached
abbrev Ends : ℕ → List Band → Band → Band → Type 0
Ends bid xs b r = ((r ≡ b) × AllByRecursion (λ x. bid < x.from) xs) ⊎ LastReached xs bid r

one-before : (bid : ℕ) (x : Band) (xs : List Band) (r : Band) → LastReached xs bid r → LastReached (x ∷ xs) bid r
one-before bid x xs r l =
    record { before = x ∷ l.before; after = l.after; table = ap (λ (ys : List Band). x ∷ ys) l.table; starts = l.starts; beyond = l.beyond }

starts-there : (bid : ℕ) (x : Band) (xs : List Band) (r : Band) → x.from ≤ bid → Ends bid xs x r → LastReached (x ∷ xs) bid r
starts-there bid x xs r h (inl (e, out)) =
    record { before = []; after = xs; table = ap (λ (y : Band). y ∷ xs) (sym e); starts = subst (λ (y : Band). y.from ≤ bid) (sym e) h; beyond = out }
starts-there bid x xs r h (inr l) = one-before bid x xs r l

goes-past : (bid : ℕ) (x : Band) (xs : List Band) (b r : Band) → bid < x.from → Ends bid xs b r → Ends bid (x ∷ xs) b r
goes-past bid x xs b r h (inl (e, out)) = inl (e, (h, out))
goes-past bid x xs b r h (inr l) = inr (one-before bid x xs r l)

walk_ends : (bid : ℕ) (xs : List Band) (b : Band) → Ends bid xs b (last_reached bid xs b)
walk_ends bid [] b = inl (refl, tt)
walk_ends bid (x ∷ xs) b =
    elim (leb_tells x.from bid) [
      | inl (e, h) ↦ rw e (inr (starts-there bid x xs (last_reached bid xs x) h (walk_ends bid xs x)))
      | inr (e, h) ↦ rw e (goes-past bid x xs b (last_reached bid xs b) h (walk_ends bid xs b))
    ]

pub band-is-last : (bid : ℕ) → LastReached band_table bid (band_of bid)
unfolding band_of
band-is-last bid = starts-there bid lowest_band higher_bands (band_of bid) (omega arith) (walk_ends bid higher_bands lowest_band)

-- the walk ends at the first band that is reached from the end, or at b
find-end : (p : Band → Bool) (ys : List Band) (x b : Band) → unwrap_or (find p (ys ++ (x ∷ []))) b ≡ unwrap_or (find p ys) (cond (p x) x b)
find-end p [] x b = cond_both (p x) (Some x) None (λ (o : Option Band). unwrap_or o b ≡ cond (p x) x b) (λ e. sym (cond-true (p x) x b e)) (λ e. sym (cond-false (p x) x b e))
find-end p (y ∷ ys) x b =
    elim (cases_Bool (p y)) [
      | inl e ↦ rw e refl
      | inr e ↦ rw e (find-end p ys x b)
    ]

from-end : (bid : ℕ) (xs : List Band) (b : Band) → unwrap_or (find (λ x. leb x.from bid) (reverse xs)) b ≡ last_reached bid xs b
from-end bid [] b = refl
from-end bid (x ∷ xs) b =
    ap (λ (ys : List Band). unwrap_or (find (λ y. leb y.from bid) ys) b) (reverse-append (x ∷ []) xs)
    ∙ find-end (λ y. leb y.from bid) (reverse xs) x b
    ∙ from-end bid xs (cond (leb x.from bid) x b)

-- so it is the rule's, in any list that is the table
pub band-found : (bid : ℕ) → unwrap_or (find (λ x. leb x.from bid) (reverse band_table)) lowest_band ≡ band_of bid
unfolding band_of
band-found bid =
    let e : leb 0 bid ≡ true = grind (arith, nat_tests) in
    let walk : last_reached bid band_table lowest_band ≡ band_of bid = rw e in from-end bid band_table lowest_band ∙ walk

-- each band is no narrower than the one before it
abbrev Rising : Band → List Band → Type 0
Rising b [] = Unit {0}
Rising b (x ∷ xs) = NoNarrower b x × Rising x xs

rising-past : (b x : Band) (xs : List Band) → NoNarrower b x → Rising x xs → Rising b xs
rising-past b x [] h s = tt
rising-past b x (y ∷ ys) h s =
    (record { valid_width = omega (arith, s.0); quality_width = omega (arith, s.0); amounts = omega (arith, s.0) }, s.1)

same_width : (b : Band) → NoNarrower b b
same_width b = record { valid_width = omega arith; quality_width = omega arith; amounts = omega arith }

walk-rises : (bid higher : ℕ) (xs : List Band) (b x : Band) → bid ≤ higher → NoNarrower b x → Rising b xs → NoNarrower (last_reached bid xs b) (last_reached higher xs x)
walk-rises bid higher [] b x le h s = h
walk-rises bid higher (y ∷ ys) b x le h s =
    elim (leb_tells y.from bid) [
      | inl (e, u) ↦ elim (leb_tells y.from higher) [
        | inl (f, v) ↦ rw (e, f) (walk-rises bid higher ys y y le (same_width y) s.1)
        | inr (f, v) ↦ absurd (omega arith)
      ]
      | inr (e, u) ↦ elim (leb_tells y.from higher) [
        | inl (f, v) ↦ rw (e, f) (walk-rises bid higher ys b y le s.0 (rising-past b y ys s.0 s.1))
        | inr (f, v) ↦ rw (e, f) (walk-rises bid higher ys b x le h (rising-past b y ys s.0 s.1))
      ]
    ]

table-rises : Rising lowest_band higher_bands
table-rises = search rules

pub bands-rise : (bid higher : ℕ) → bid ≤ higher → NoNarrower (band_of bid) (band_of higher)
unfolding band_of
bands-rise bid higher le = walk-rises bid higher higher_bands lowest_band lowest_band le (same_width lowest_band) table-rises

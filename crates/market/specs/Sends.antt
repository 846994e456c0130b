-- Several sends on one side, one after another.
use Rattle.std.specs.Prelude.{◌≡◌, ℕ, ◌+◌, ◌-◌, List, [], ◌∷◌}
use Rattle.market.specs.declared.sending.Sending.{Sending}
use Rattle.market.specs.Counts.{counted}

-- what the sends take in all of the counts of a side
abbrev pub sent_in_all : (ℕ → ℕ) → List Sending → ℕ
sent_in_all count [] = 0
sent_in_all count (s ∷ ss) =
    counted count s.price s.contracts + sent_in_all (λ p. count p - counted count s.price s.contracts) ss

-- the contracts asked for in all
abbrev pub asked_in_all : List Sending → ℕ
asked_in_all [] = 0
asked_in_all (s ∷ ss) = s.contracts + asked_in_all ss

-- every send is at price p
abbrev pub AllAt : ℕ → List Sending → Type 0
AllAt p [] = Unit {0}
AllAt p (s ∷ ss) = (s.price ≡ p) × AllAt p ss

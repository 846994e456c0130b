-- What an auction stands for, and the histories that lead to it.
use Rattle.std.specs.Prelude.{◌≡◌, ℕ, Bool, true, false, List, Ok, Err, Result}
use Rattle.interest.specs.declared.Refusal.{Refusal}
use Rattle.interest.specs.declared.Refusal.TheVariants.{SettingOutOfBounds}
use Rattle.sharing.specs.declared.level.Holding.{Holding}
use Rattle.book.specs.Books.{rows_of}
use Rattle.stages.specs.declared.settings.Settings.{Settings}
use Rattle.stages.specs.Settings.{in_bounds}
use Rattle.runs.specs.States.{Terms, State, start}
use Rattle.runs.specs.Histories.{Event}
use Rattle.runs.specs.Laws.{Run}
use Rattle.auction.specs.declared.auction.Auction.{Auction}

abbrev pub view : {L R : Type 0} → Auction L R → State
view a = record { rows = rows_of a.book; stage = a.stage; last = a.last }

-- what it goes by, the meaning of ladders and sharing rules being given
abbrev pub terms_of : {L R : Type 0} → (L → ℕ → Bool) → (R → ℕ → List Holding → List ℕ) → Auction L R → Terms
terms_of permitted shares a = record { permitted = permitted a.ladder; shares = shares a.rule; settings = a.settings }

-- no call changes what an auction goes by
pub record Kept {L R : Type 0} (a b : Auction L R) : Type 0 where
  pub ladder : b.ladder ≡ a.ladder
  pub rule : b.rule ≡ a.rule
  pub settings : b.settings ≡ a.settings

-- a call that edits the table changes neither the stage nor the clock
pub record Stays {L R : Type 0} (a b : Auction L R) : Type 0 where
  pub stage : b.stage ≡ a.stage
  pub last : b.last ≡ a.last
  pub kept : Kept a b

-- a history leads from a new auction to this one
abbrev pub Reached : {L R : Type 0} → (L → ℕ → Bool) → (R → ℕ → List Holding → List ℕ) → List Event → Auction L R → Type 0
Reached permitted shares h a = Run (terms_of permitted shares a) h (view a)

-- settings in bounds make a new auction with them, others are refused
abbrev pub Made : {L R : Type 0} → L → R → Settings → Result (Auction L R) Refusal → Type 0
Made ladder rule settings (Ok a) = (in_bounds settings ≡ true) × (view a ≡ start) × (a.ladder ≡ ladder) × (a.rule ≡ rule) × (a.settings ≡ settings)
Made ladder rule settings (Err refusal) = (in_bounds settings ≡ false) × (refusal ≡ SettingOutOfBounds)

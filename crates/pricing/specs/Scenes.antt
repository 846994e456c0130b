-- What a price is looked for in, and the choice there.
use Rattle.std.specs.Prelude.{◌≡◌, ℕ, Bool, true, List, IfSome, Option}
use Rattle.std.specs.Option.{option_map}
use Rattle.interest.specs.declared.Side.{Side}
use Rattle.interest.specs.Bounds.{priced}
use Rattle.book.specs.declared.row.Row.{Row}
use Rattle.book.specs.Books.{rows_of}
use Rattle.ranges.specs.declared.Range.{Range}
use Rattle.pricing.specs.declared.scene.Scene as code
use Rattle.pricing.specs.declared.figures.Mode.{Mode}
use Rattle.pricing.specs.declared.figures.Mode.TheVariants.{Exchange}
use Rattle.pricing.specs.declared.search.Choice.{Choice}
use Rattle.pricing.specs.Prices.{Opening, opening}
use Rattle.pricing.specs.Choosing.{choice_at, choice_in}
use Rattle.pricing.specs.Best.{Chosen, CrossesMost}

-- the permitted prices, the prior close, the rows, and the contracts that the away market shows on a side at a price or better
pub record Scene : Type 0 where
  pub permitted : ℕ → Bool
  pub close : Option ℕ
  pub rows : List Row
  pub shown : Side → ℕ → ℕ

abbrev pub scene : (ℕ → Bool) → Option ℕ → List Row → (Side → ℕ → ℕ) → Scene
scene permitted close rows shown = record { permitted = permitted; close = close; rows = rows; shown = shown }

-- that of the code, the meaning of ladders and markets being given
abbrev pub scene_of : {L M : Type 0} → (L → ℕ → Bool) → (M → Side → ℕ → ℕ) → code.Scene L M → Scene
scene_of permitted shown x = scene (permitted x.ladder.now) x.close (rows_of x.book.now) (shown x.market.now)

-- what an opening in a mode goes by
abbrev pub opening_in : Scene → Mode → Opening
opening_in x m = opening x.rows x.shown m

-- the choice in a range
abbrev pub chosen_in : Scene → Mode → Range → Option Choice
chosen_in x m range = choice_in x.permitted (opening_in x m) range.low range.high x.close

-- what it means
abbrev pub ChosenIn : Scene → Mode → Range → Option Choice → Type 0
ChosenIn x m range c = Chosen x.permitted (opening_in x m) range.low range.high c

-- a price is that of the choice, and there is none if there is no choice
pub record Told (x : Scene) (m : Mode) (range : Range) (price : Option ℕ) : Type 0 where
  pub in_bounds : IfSome price (λ p. priced p ≡ true)
  pub is : option_map (choice_at (opening_in x m)) price ≡ chosen_in x m range
  pub best : ChosenIn x m range (option_map (choice_at (opening_in x m)) price)
  pub crosses : m ≡ Exchange → CrossesMost x.rows (option_map (choice_at (opening_in x m)) price)

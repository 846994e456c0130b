-- What `==` of two sides answers.
use Rattle.std.specs.Prelude.{◌≡◌, refl}
use Rattle.interest.specs.declared.Side.{Side}
use Rattle.interest.specs.declared.Side.TheVariants.{Buy, Sell}
use Rattle.interest.specs.Sides.{same_side}
use Rattle.interest.specs.contracts.SidePartialEq.TheImpl.{ghosts}

pub eq-same : (a b : Side) → ghosts.eq a b ≡ same_side a b
eq-same Buy Buy = refl
eq-same Buy Sell = refl
eq-same Sell Buy = refl
eq-same Sell Sell = refl

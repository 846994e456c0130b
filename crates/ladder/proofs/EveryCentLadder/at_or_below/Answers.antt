-- Every price is its own neighbour.
use Rattle.std.proofs.Common.{◌∙◌}
use Rattle.interest.specs.Bounds.{priced}
use Rattle.ladder.proofs.Found.{greatest-at}
use Rattle.ladder.proofs.Steps.{itself-greatest}
use Rattle.ladder.proofs.EveryCentLadder.at_or_below.Goals as goal

pub returns : goal.returns
returns c =
    let p = c.args.price in
    let a = c.itself.ensures ∙ itself-greatest p in record { answer = a; greatest = greatest-at priced p _ a }

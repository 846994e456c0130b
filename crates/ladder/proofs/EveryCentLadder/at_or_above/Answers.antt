-- Every price is its own neighbour.
use Rattle.std.proofs.Common.{◌∙◌}
use Rattle.interest.specs.Bounds.{priced}
use Rattle.ladder.proofs.Found.{least_at}
use Rattle.ladder.proofs.Steps.{itself-least}
use Rattle.ladder.proofs.EveryCentLadder.at_or_above.Goals as goal

pub returns : goal.returns
returns c =
    let p = c.args.price in
    let a = c.itself.ensures ∙ itself-least p in record { answer = a; least = least_at priced p _ a }

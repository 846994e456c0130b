-- Below 300 the price itself, from there the next multiple of 5.
use Rattle.std.proofs.Common.{rules}
use Rattle.ladder.specs.Rungs.{stepped}
use Rattle.ladder.proofs.Found.{least_at}
use Rattle.ladder.proofs.Steps.{stepped-least}
use Rattle.ladder.proofs.SteppedLadder.at_or_above.Goals as goal

pub returns : goal.returns
returns c =
    let p = c.args.price in
    let a = stepped-least p c.map.result (search rules) in record { answer = a; least = least_at stepped p _ a }

-- Below 300 the price itself, from there the multiple of 5 before it.
use Rattle.std.proofs.Common.{rules}
use Rattle.ladder.specs.Rungs.{stepped}
use Rattle.ladder.proofs.Found.{greatest-at}
use Rattle.ladder.proofs.Steps.{stepped-greatest}
use Rattle.ladder.proofs.SteppedLadder.at_or_below.Goals as goal

pub returns : goal.returns
returns c =
    let p = c.args.price in
    let a = stepped-greatest p c.map.result (search rules) in record { answer = a; greatest = greatest-at stepped p _ a }

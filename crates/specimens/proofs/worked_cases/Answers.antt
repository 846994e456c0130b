-- Each case is computed.
use Rattle.std.proofs.Common.{rules}
use Rattle.ladder.specs.Rungs.{least_at_or_above, least_of, greatest_at_or_below, greatest_of}
use Rattle.ranges.specs.Bands.{band_of}
use Rattle.specimens.proofs.worked_cases.Goals as goal

pub returns : goal.returns
unfolding least_at_or_above least_of greatest_at_or_below greatest_of band_of
returns c = search rules

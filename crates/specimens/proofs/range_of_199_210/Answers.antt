-- The range is computed.
use Rattle.ranges.specs.Bands.{band_of}
use Rattle.specimens.proofs.range_of_199_210.Goals as goal

pub returns : goal.returns
unfolding band_of
returns c = c.opening_range.ensures.rule

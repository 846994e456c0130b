-- The band that is found is the rule's, of which the other promises hold.
use Rattle.std.proofs.Common.{◌≡◌, ap, ◌∙◌}
use Rattle.std.specs.Option.{unwrap_or}
use Rattle.ranges.specs.Bands.{lowest_band, band_of}
use Rattle.ranges.proofs.Lookup.{band-found, band-is-last, bands-rise}
use Rattle.ranges.proofs.band_of.Goals as goal

pub returns : goal.returns
returns c =
    let e : c.unwrap_or.result ≡ band_of c.args.bid = c.unwrap_or.ensures ∙ ap (λ o. unwrap_or o lowest_band) c.last_reached.ensures ∙ band-found c.args.bid in
    record { rule = e; last = rw e (band-is-last c.args.bid); wider = λ higher h. rw e (bands-rise c.args.bid higher h) }

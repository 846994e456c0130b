-- The counts stop above the contracts of the book, so they decide as the counts themselves; and how the sides move from there.
use Rattle.std.proofs.Common.{◌≡◌, ◌&&◌, rules, refl}
use Rattle.book.specs.Books.{rows_of}
use Rattle.pricing.specs.Prices.{opening}
use Rattle.pricing.proofs.Slopes.{figures-are, figures-slope}
use Rattle.pricing.proofs.figures.figures_of.Goals as goal

pub returns : goal.returns
returns g c =
    let o = opening (rows_of c.args.book.now) (g.M.ShownMarket.shown c.args.market.now) c.args.mode in
    let laws = g.met.M.ShownMarket in
    let depth = c.depth_at-depth.ensures in
    let both : c.if-offers_taken.result ≡ (c.allows-offers_taken.result && c.allows-bids_taken.result) = search rules in
    let is = figures-are o c.args.price c.requires (laws.edge c.args.market.now) c.depth_at-depth.result _ _ _ _ _ _ _ _ _
    depth.is depth.few_buys depth.few_sells depth.routable_buys depth.routable_sells
    c.better_for-better_offers.ensures c.better_for-better_bids.ensures c.allows-offers_taken.ensures c.allows-bids_taken.ensures both
    c.saturating_sub-buys.ensures c.saturating_sub-sells.ensures c.min.ensures c.between.ensures in
    record { is = is; slope = figures-slope c.args.book.now o c.args.price _ refl (laws.worsens c.args.market.now) is }

-- Where nothing unmatched is through the choice, no permitted price trades more.
use Rattle.std.proofs.Common.{◌≡◌, Some, sym, refl, ap, ◌∙◌}
use Rattle.ranges.specs.declared.Quotes.{Quotes}
use Rattle.ranges.specs.Ranges.{quick_range}
use Rattle.pricing.specs.Scenes.{scene_of}
use Rattle.stages.specs.Looks.{quotes_of, away_of, quick_at, quick_in}
use Rattle.stages.proofs.Crossings.{quick-clean}
use Rattle.stages.proofs.openings.quick_opening.Goals as goal

pub returns : goal.returns
returns g c =
    let x = scene_of g.L.Ladder.permitted g.M.ShownMarket.shown c.args.scene.now in
    let found = c.choose-choice.ensures in
    let range = c.in_ok-range.range in
    let clean = quick-clean x range c.choose-choice.result (g.met.L.Ladder.within c.args.scene.now.ladder.now) found.best (found.crosses refl) in
    let is : quick_range (quotes_of x.rows) (away_of x.shown) ≡ Some range = ap (λ (q : Quotes). quick_range q (away_of x.shown)) (sym c.best_prices.ensures.quotes) ∙ ap (quick_range c.best_prices.result.quotes) (sym c.best_prices.ensures.away) ∙ sym c.quick_range.ensures ∙ c.in_ok-range.was in
    c.opening_cleanly.ensures ∙ clean ∙ ap (quick_at x range) found.is ∙ ap (quick_in x) (sym is)

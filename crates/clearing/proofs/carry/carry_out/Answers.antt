-- The proof of `carry_out`.
use Rattle.std.proofs.Common.{◌≡◌, rules, ℕ, Option, sym, ap, ◌∙◌, subst}
use Rattle.book.specs.Books.{rows_of}
use Rattle.clearing.specs.Openings.{priced_only, told_price, executed, edges_of, counts_left}
use Rattle.interest.specs.declared.Side.TheVariants.{Buy, Sell}
use Rattle.clearing.specs.declared.opening.Report.{Report}
use Rattle.clearing.specs.Reports.{report_of, ShowsBest}
use Rattle.clearing.proofs.Shown.{best-told}
use Rattle.clearing.proofs.Composed.{settled_is, after-is-rows}
use Rattle.clearing.proofs.Theorems.{rows-kept, trades-volume, trades-within, best-first, nothing_better, spent-at, spent-own, stays-quiet, rests-short, left-all}
use Rattle.clearing.proofs.carry.carry_out.Goals as goal

pub returns : goal.returns
returns g c =
    let permitted = g.L.Ladder.permitted c.args.ladder.now in
    let rule = c.args.rule.now in
    let shares = g.R.SharingRule.shares rule in
    let long = g.met.R.SharingRule.each rule in
    let within = g.met.R.SharingRule.within rule in
    let whole = g.met.R.SharingRule.whole rule in
    let counts = g.M.ShownMarket.shown c.args.market.now in
    let worsens = g.met.M.ShownMarket.worsens c.args.market.now in
    let edge = g.met.M.ShownMarket.edge c.args.market.now in
    let o = c.args.opening in
    let rows = rows_of c.args.book.now in
    let sound = c.args.book.now.sound in
    let edges = c.edges_of.result in
    let done = rows_of c.execute.new.book in
    let after = rows_of c.rest.new.book in
    let left = g.M.ShownMarket.shown c.execute.new.market in
    let told : told_price c.priced_only-in_bounds.result ≡ priced_only o.price = c.priced_only-in_bounds.ensures in
    let price : c.map-price.result ≡ priced_only o.price = search rules ∙ told in
    let done-is = c.execute.ensures.rows ∙ ap (λ (x : Option ℕ). executed shares counts o.kind x o.volume rows) told in
    let edges_are = c.edges_of.ensures ∙ ap (λ (x : Option ℕ). edges_of o.kind x o.range) price in
    let left_is = c.execute.ensures.counts in
    let after_is = settled_is permitted (counts_left counts rows done) left edges done (rows_of c.cancel.new.book) after left_is c.cancel.ensures c.rest.ensures in
    let report-is = c.report.ensures ∙ ap (λ (x : Option ℕ). report_of o x after) price in
    record {
      rows = after-is-rows permitted shares counts o rows done after edges done-is edges_are after_is;
      counts = left-all permitted shares long within whole counts worsens edge o rows sound edges done after left done-is after_is left_is;
      report = report-is;
      shows = subst (λ (r : Report). ShowsBest r after) (sym report-is) (best-told Buy after, best-told Sell after);
      kept = rows-kept permitted shares long within whole counts worsens edge o rows sound edges done after left done-is after_is left_is;
      volume = trades-volume permitted shares long within whole counts worsens edge o rows sound edges done after left done-is after_is left_is;
      limits = trades-within permitted shares long within whole counts worsens edge o rows sound edges done after left done-is after_is left_is;
      priority = best-first permitted shares long within whole counts worsens edge o rows sound edges done after left done-is after_is left_is;
      better = nothing_better permitted shares long within whole counts worsens edge o rows sound edges done after left done-is after_is left_is;
      spent = spent-at permitted shares long within whole counts worsens edge o rows sound edges done after left done-is after_is left_is;
      spent_own = spent-own permitted shares long within whole counts worsens edge o rows sound edges done after left done-is after_is left_is;
      quiet = stays-quiet permitted shares long within whole counts worsens edge o rows sound edges done after left done-is after_is left_is;
      short = rests-short permitted shares long within whole counts worsens edge o rows sound edges done after left done-is after_is left_is;
    }

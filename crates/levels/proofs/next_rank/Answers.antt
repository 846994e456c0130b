-- The proof of `next_rank`.
use borrow.Author.Tests.{tests}
use Rattle.std.proofs.Common.{◌≡◌, rules, leb, ltb, ◌&&◌, sym, ◌∙◌}
use Rattle.std.proofs.lemmas.Iterator.Adapters.{option_map_id}
use Rattle.std.proofs.lemmas.Iterator.{YieldsList-from_slice, YieldsList-from_map}
use Rattle.std.proofs.lemmas.Iterator.Consumers.{YieldsList-at, YieldsList-from_filter, min_from_yields_List}
use Rattle.book.specs.Ranks.{rank_of}
use Rattle.book.specs.declared.row.Row.{Row}
use Rattle.levels.specs.Levels.{part_of, next_rank}
use Rattle.levels.proofs.Dealing.{next-tells}
use Rattle.levels.proofs.next_rank.Goals as goal

pub returns-clause-next : goal.returns-clause-next
returns-clause-next c =
    let is : c.min.result ≡ next_rank (part_of c.args.part) c.args.from c.args.top c.args.rows.now = sym (option_map_id _) ∙ min_from_yields_List c.filter-2.result _ c.min.ensures.ran (YieldsList-from_filter _ (λ k. leb c.args.from k && ltb k c.args.top) (YieldsList-at c.filter-2.ensures.source (YieldsList-from_map _ rank_of (YieldsList-at c.map.ensures.source (YieldsList-from_filter _ (λ (r : Row). part_of c.args.part r && ltb 0 r.left) (YieldsList-from_slice c.args.rows.now cc) c.filter.ensures.closure (λ x r q k. search (rules, tests)))) c.map.ensures.closure (λ x r q k. search rules))) c.filter-2.ensures.closure (λ x r q k. search (rules, tests))) in
    next-tells (part_of c.args.part) c.args.from c.args.top c.args.rows.now c.min.result is

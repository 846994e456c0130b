-- The parts that `split` gives, of which `filter` keeps those that are not empty.
use Rattle.std.proofs.Common.{rules, not, length, eqb}
use Rattle.std.proofs.lemmas.Iterator.Consumers.{map_from_collect, YieldsList-from_filter}
use Rattle.std.proofs.lemmas.Iterator.Splits.{YieldsList-from_slice_split}
use Rattle.script.specs.Texts.{blank}
use Rattle.script.proofs.text.words.Goals as goal

pub returns : goal.returns
returns c = map_from_collect _ c.collect.ensures.ran (YieldsList-from_filter _ (λ w. not (eqb (length w) 0)) (YieldsList-from_slice_split _ blank c.args.line.now (cc) (cc) (cc) (λ x b q k. search rules)) c.filter.ensures.closure (λ x b q k. search rules))

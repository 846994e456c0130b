-- The sizes so far have claims.
use Rattle.std.proofs.Common.{◌≡◌, map, length, take}
use Rattle.sharing.specs.ProRata.{part}
use Rattle.sharing.specs.Ranked.{sizes_in, parts_in}
use Rattle.sharing.proofs.ranks.claims_of.Given as goal

abbrev pub invariant-loop-size : goal.invariant-loop-size
invariant-loop-size l = record {
  count : length l.each.items ≡ l.size-index;
  sizes : sizes_in l.each.items ≡ take l.size-index l.sizes.each.items;
  parts : parts_in l.each.items ≡ map (part l.ratio.given l.ratio.whole) (take l.size-index l.sizes.each.items);
}

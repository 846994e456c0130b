-- The claims so far have their shares, the rest are to be ranked.
use Rattle.std.proofs.Common.{◌≡◌, [], ◌++◌, length, take, drop}
use Rattle.sharing.specs.Ranked.{ranked}
use Rattle.sharing.proofs.ranks.Claims.by_rank.Given as goal

abbrev pub invariant-loop-i : goal.invariant-loop-i
invariant-loop-i l = record {
  count : length l.shares.items ≡ l.i;
  shares : l.shares.items ++ ranked l.self.given (take l.i l.claims) (drop l.i l.claims) ≡ ranked l.self.given [] l.claims;
}

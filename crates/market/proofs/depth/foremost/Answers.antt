-- A level takes the place of the foremost if it stands and is strictly better.
use Rattle.std.proofs.Common.{rules, ◌≡◌, ◌+◌, ℕ, Option, sym, subst}
use Rattle.market.specs.Levels.{Foremost}
use Rattle.market.proofs.Foremosts.{overtakes, taken_over, kept, passed_over}
use Rattle.market.proofs.depth.foremost.Goals as goal
use Rattle.market.proofs.depth.foremost.Goals.{then-stands_on+then-is_none_or, else-stands_on, else-stands_on-via-then-stands_on+else-is_none_or, else-stands_on-via-else-stands_on}

pub loop-at-preserved : goal.loop-at-preserved
loop-at-preserved c =
    let d = c.args.side in
    let ls = c.args.levels.now in
    let i = c.loop-at.at in
    let o = c.loop-at.first in
    elim c.if-stands_on.branch [
      | then-stands_on+then-is_none_or w ↦
          let b : w.is_none_or.result ≡ overtakes d ls i o = search rules in
          subst (λ (x : Option ℕ). Foremost d ls (i + 1) x) (sym w.first-is) (taken_over d ls i o (search rules) (search rules) c.loop-at.invariant)
      | else-stands_on w ↦ subst (λ (x : Option ℕ). Foremost d ls (i + 1) x) (sym w.first-is) (elim w.else-stands_on.branch [
        | else-stands_on-via-then-stands_on+else-is_none_or w' ↦
            let b : w'.is_none_or.result ≡ overtakes d ls i o = search rules in
            kept d ls i o (search rules) c.loop-at.invariant
        | else-stands_on-via-else-stands_on w' ↦ passed_over d ls i o (search rules) c.loop-at.invariant
      ])
    ]

-- A level with a row more is sound, as the row is sized.
use Rattle.std.proofs.Common.{sym}
use Rattle.sharing.proofs.Pushes.{sound-push}
use Rattle.sharing.proofs.level.Level.push.Goals as goal

pub invariant_of-self : goal.invariant_of-self
invariant_of-self c =
    let l = c.args.self.now in
    record { sound = sound-push l.rows c.args.holding c.try_push.result c.try_push.new.self l.sound (sym c.if-not-is_size.ensures) c.try_push.ensures.ok c.try_push.ensures.err }

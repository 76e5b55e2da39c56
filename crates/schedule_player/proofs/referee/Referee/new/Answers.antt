use Rattle.std.proofs.Common.{None, refl}
use Rattle.schedule_player.specs.Calls.{call_in}
use Rattle.schedule_player.proofs.Calls.{map-one}
use Rattle.schedule_player.proofs.referee.Referee.new.Goals as goal

pub loop-preserved : goal.loop-preserved
loop-preserved c = map-one call_in _ _ None c.loop.counter None c.in_ok-push.ensures.items refl c.loop.invariant

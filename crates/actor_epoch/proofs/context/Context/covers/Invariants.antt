use Rattle.std.proofs.Common.{◌≡◌}
use Rattle.actor_epoch.specs.Dots.{covers}
use Rattle.actor_epoch.proofs.context.Context.covers.Given as goal

abbrev pub invariant-loop-actor : goal.invariant-loop-actor
invariant-loop-actor l = covers l.self l.dot ≡ covers l.actor-iterator l.dot

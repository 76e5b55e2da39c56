use Rattle.std.proofs.Common.{◌≡◌}
use Rattle.std.specs.Prelude.{max}
use Rattle.actor_epoch.specs.Dots.{counter_in}
use Rattle.actor_epoch.proofs.context.Context.counter_of.Given as goal

abbrev pub invariant-loop-other : goal.invariant-loop-other
invariant-loop-other l = counter_in l.self l.actor ≡ max l.greatest (counter_in l.other-iterator l.actor)

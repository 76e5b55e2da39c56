use Rattle.std.proofs.Common.{◌≡◌, None}
use Rattle.actor_epoch.proofs.Rising.{all_go_on}
use Rattle.actor_epoch.proofs.context.are_rising.Given as goal

abbrev pub invariant-loop-actor : goal.invariant-loop-actor
invariant-loop-actor l = all_go_on None l.initial.actor-iterator ≡ all_go_on l.last l.actor-iterator

use Rattle.std.proofs.Common.{◌≡◌}
use Rattle.schedule_text.specs.ShownIndex.{digest_of}
use Rattle.schedule_text.proofs.shown_contexts.digest_of.Given as goal

abbrev pub invariant-loop-actor : goal.invariant-loop-actor
invariant-loop-actor l = digest_of l.initial.digest l.initial.actor-iterator ≡ digest_of l.digest l.actor-iterator

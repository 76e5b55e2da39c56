use Rattle.std.proofs.Common.{◌≡◌}
use Rattle.std.specs.List.{list_any}
use Rattle.vnode_core.specs.Checks.{is_ahead}
use Rattle.vnode_core.proofs.context.names_unissued_dot.Given as goal

abbrev pub invariant-loop-actor : goal.invariant-loop-actor
invariant-loop-actor l = list_any (is_ahead l.vnode l.last_epoch l.last) l.initial.actor-iterator ≡ list_any (is_ahead l.vnode l.last_epoch l.last) l.actor-iterator

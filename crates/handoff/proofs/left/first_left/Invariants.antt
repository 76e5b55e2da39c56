use Rattle.std.proofs.Common.{length}
use Rattle.vnode_core.specs.Left.{keys_behind}
use Rattle.handoff.specs.Left.{GoesOnInRest}
use Rattle.handoff.proofs.left.first_left.Given as goal

abbrev pub invariant-loop-at : goal.invariant-loop-at
invariant-loop-at l = GoesOnInRest l.primary.state l.fallback.state.keys (keys_behind l.at l.fallback.state)

abbrev pub decreases-loop-at : goal.decreases-loop-at
decreases-loop-at l = length (keys_behind l.at l.fallback.state)

use Rattle.std.proofs.Common.{◌≡◌, length}
use Rattle.vnode_core.specs.Left.{keys_behind}
use Rattle.key_counts.specs.Walk.{reached}
use Rattle.key_counts.proofs.Walks.{SoFar}
use Rattle.key_counts.proofs.counts.count_stretch.Given as goal

abbrev pub invariant-loop-next : goal.invariant-loop-next
invariant-loop-next l = SoFar l.vnode.state l.initial.at (reached l.initial.at l.found) l.counts × (l.at ≡ l.initial.at)

abbrev pub decreases-loop-next : goal.decreases-loop-next
decreases-loop-next l = length (keys_behind (reached l.initial.at l.found) l.vnode.state)

use Rattle.std.proofs.Common.{◌≡◌, ◌+◌, ◌-◌, ◌≤◌, ◌^◌, min, length}
use Rattle.vnode_core.specs.Left.{count_left, keys_behind}
use Rattle.vnode_core.proofs.left.count_left.Given as goal

abbrev pub invariant-loop-parts : goal.invariant-loop-parts
invariant-loop-parts l =
    (l.count ≤ 2 ^ 64 - 1)
    × (min (l.count + count_left l.primary.state (keys_behind l.at l.fallback.state)) (2 ^ 64 - 1)
    ≡ min (count_left l.primary.state l.fallback.state.keys) (2 ^ 64 - 1))

abbrev pub decreases-loop-parts : goal.decreases-loop-parts
decreases-loop-parts l = length (keys_behind l.at l.fallback.state)

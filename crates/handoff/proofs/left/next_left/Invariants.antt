use Rattle.std.proofs.Common.{◌≤◌, length}
use Rattle.std.specs.Option.{option_map}
use Rattle.vnode_core.specs.Left.{keys_behind}
use Rattle.handoff.specs.Left.{GoesOnInRest}
use Rattle.handoff.proofs.left.next_left.Given as goal

abbrev pub invariant-loop-parts : goal.invariant-loop-parts
invariant-loop-parts l =
    GoesOnInRest l.primary.state (keys_behind (option_map (λ k. k.now) l.after) l.fallback.state) (keys_behind l.at l.fallback.state)
    × (length (keys_behind l.at l.fallback.state) ≤ length (keys_behind (option_map (λ k. k.now) l.after) l.fallback.state))

abbrev pub decreases-loop-parts : goal.decreases-loop-parts
decreases-loop-parts l = length (keys_behind l.at l.fallback.state)

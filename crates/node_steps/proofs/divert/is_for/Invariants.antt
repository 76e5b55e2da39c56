use Rattle.std.proofs.Common.{◌≡◌, ◌-◌, ◌≤◌, drop, length}
use Rattle.node_steps.specs.Running.{phase_of}
use Rattle.node_steps.proofs.Fallbacks.{for_from}
use Rattle.node_steps.proofs.divert.is_for.Given as goal

abbrev pub invariant-loop-at : goal.invariant-loop-at
invariant-loop-at l =
    (l.at ≤ length l.sites) × (for_from l.index (phase_of l.phase) 0 l.sites ≡ for_from l.index (phase_of l.phase) l.at (drop l.at l.sites))

abbrev pub decreases-loop-at : goal.decreases-loop-at
decreases-loop-at l = length l.sites - l.at

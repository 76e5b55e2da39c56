use Rattle.std.proofs.Common.{◌≡◌, drop, map}
use Rattle.node_steps.specs.Running.{vnode_of}
use Rattle.node_steps.proofs.Fallbacks.{are_free}
use Rattle.node_steps.proofs.divert.is_free.Given as goal

abbrev pub invariant-loop-phase : goal.invariant-loop-phase
invariant-loop-phase l =
    are_free (map vnode_of l.fn.sites) l.fn.index l.fn.workers ≡ are_free (map vnode_of l.fn.sites) l.fn.index (drop l.phase-index l.fn.workers)

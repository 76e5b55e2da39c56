use Rattle.std.proofs.Common.{◌-◌}
use Rattle.vnode_core.specs.Reaping.{key_given}
use Rattle.vnode_core.proofs.Sweeping.{IsSweeping}
use Rattle.vnode_core.proofs.sweeps.sweep.Given as goal

abbrev pub decreases-loop-reaped : goal.decreases-loop-reaped
decreases-loop-reaped l = l.budget - l.reaped

abbrev pub invariant-loop-reaped : goal.invariant-loop-reaped
invariant-loop-reaped l = IsSweeping l.initial.vnode (key_given l.from) l.budget l.vnode l.reaped

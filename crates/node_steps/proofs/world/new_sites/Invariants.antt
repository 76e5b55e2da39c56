use Rattle.std.proofs.Common.{◌≡◌, map}
use Rattle.node_steps.specs.World.{opening_vnodes}
use Rattle.node_steps.specs.Erased.{erase_vnode}
use Rattle.node_steps.specs.Running.{vnode_of}
use Rattle.node_steps.proofs.world.new_sites.Given as goal

abbrev pub invariant-loop-index : goal.invariant-loop-index
invariant-loop-index l = map vnode_of l.sites.items ≡ map erase_vnode (opening_vnodes l.run 0 l.index)

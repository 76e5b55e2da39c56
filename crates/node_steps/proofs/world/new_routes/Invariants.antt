use Rattle.std.proofs.Common.{◌≡◌}
use Rattle.node_steps.specs.World.{own_sites}
use Rattle.node_steps.proofs.world.new_routes.Given as goal

abbrev pub invariant-loop-index : goal.invariant-loop-index
invariant-loop-index l = l.routes.items ≡ own_sites 0 l.index

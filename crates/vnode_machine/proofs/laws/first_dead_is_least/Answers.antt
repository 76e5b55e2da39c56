use Rattle.vnode_machine.proofs.LeastDead.{first_dead_is_dead, first_dead_is_least}
use Rattle.vnode_machine.proofs.laws.first_dead_is_least.Goals as goal

pub returns : goal.returns
returns c = record { dead = first_dead_is_dead; least = first_dead_is_least }

use Rattle.vnode_machine.proofs.Showing.{shown_name_positions, leaves_only_to_seers}
use Rattle.vnode_machine.proofs.laws.shown_contexts_name_positions.Goals as goal

pub returns : goal.returns
returns c = record { position = shown_name_positions; leaving = leaves_only_to_seers }

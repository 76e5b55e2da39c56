use Rattle.vnode_machine.proofs.RunLaw.{run_is_played, first_run_is_played}
use Rattle.vnode_machine.proofs.laws.runs_are_histories.Goals as goal

pub returns : goal.returns
returns c = record { run = run_is_played; first = first_run_is_played }

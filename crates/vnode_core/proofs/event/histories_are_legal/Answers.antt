use Rattle.vnode_core.proofs.Events.{run-is-legal, gate-history-is-legal}
use Rattle.vnode_core.proofs.event.histories_are_legal.Goals as goal

pub returns : goal.returns
returns c = record { run = run-is-legal; gate = gate-history-is-legal }

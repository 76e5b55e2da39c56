use Rattle.handoff.proofs.Running.{running-hand-offs-join}
use Rattle.handoff.proofs.laws.running_hand_offs_join.Goals as goal

pub returns : goal.returns
returns c = running-hand-offs-join

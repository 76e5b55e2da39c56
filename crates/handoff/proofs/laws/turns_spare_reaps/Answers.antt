use Rattle.handoff.proofs.Joined.{turns-spare}
use Rattle.handoff.proofs.laws.turns_spare_reaps.Goals as goal

pub returns : goal.returns
returns c = turns-spare

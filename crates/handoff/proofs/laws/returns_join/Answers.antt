use Rattle.handoff.proofs.Joined.{returns-join}
use Rattle.handoff.proofs.laws.returns_join.Goals as goal

pub returns : goal.returns
returns c = returns-join

use Rattle.handoff.proofs.CallsMade.{copies-are-of-calls}
use Rattle.handoff.proofs.laws.copies_are_of_calls.Goals as goal

pub returns : goal.returns
returns c = copies-are-of-calls

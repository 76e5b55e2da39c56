use Rattle.handoff.proofs.Meeting.{copies-are-true}
use Rattle.handoff.proofs.laws.copies_are_true.Goals as goal

pub returns : goal.returns
returns c = copies-are-true

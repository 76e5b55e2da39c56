use Rattle.std.proofs.Common.{inl, inr}
use Rattle.handoff.proofs.returning.close.Goals as goal

pub returns-in-Moved-clause-stop : goal.returns-in-Moved-clause-stop
returns-in-Moved-clause-stop c = inl c.in-Moved.ensures.under

pub returns-clause-stop : goal.returns-clause-stop
returns-clause-stop c = inr c.in-Full.ensures.outcome.full

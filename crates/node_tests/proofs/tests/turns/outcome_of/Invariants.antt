use Rattle.node_session.specs.Stages.{Fits}
use Rattle.node_tests.proofs.tests.turns.outcome_of.Given as goal

abbrev pub invariant-loop : goal.invariant-loop
invariant-loop l = Fits l.session.stage l.session

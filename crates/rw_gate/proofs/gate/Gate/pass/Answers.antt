use Rattle.rw_gate.proofs.Logs.{new_run}
use Rattle.rw_gate.proofs.gate.Gate.pass.Goals as goal

pub new-requires-clause-run : goal.new-requires-clause-run
new-requires-clause-run g c = new_run g.S.Kept.content g.S.Kept.accepts c.self.inside.start.log c.self.invariant.2

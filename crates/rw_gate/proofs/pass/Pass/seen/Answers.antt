use Rattle.rw_gate.proofs.SlotValues.{run_from}
use Rattle.rw_gate.proofs.pass.Pass.seen.Goals as goal

pub returns-clause-legal : goal.returns-clause-legal
returns-clause-legal g c =
    let run = c.self.invariant.1 in
    rw (← c.self.view_is) (run.0, run_from g.S.Kept.content g.S.Kept.accepts c.self.inside.seen.log run.0 run.1)

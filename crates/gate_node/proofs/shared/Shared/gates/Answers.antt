use Rattle.gate_node.proofs.shared.Shared.gates.Goals as goal

pub returns-clause-new_run : goal.returns-clause-new_run
returns-clause-new_run c = rw (← c.self.view_is) c.gates.ensures.new_run

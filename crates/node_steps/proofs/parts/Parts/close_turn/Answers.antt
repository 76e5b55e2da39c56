use Rattle.node_steps.specs.Closings.{ground_of}
use Rattle.node_steps.specs.Running.{close_stage_of, phase_of}
use Rattle.node_steps.proofs.Stepping.{ok_then}
use Rattle.node_steps.proofs.Taking.{closer_at}
use Rattle.node_steps.proofs.parts.Parts.close_turn.Goals as goal

pub returns-in_default-clause-ok : goal.returns-in_default-clause-ok
returns-in_default-clause-ok c =
    ok_then c.turn_site.result c.turn_site.ensures.ok
    (λ r m. closer_at c.args.act c.args.own c.args.from c.args.index (close_stage_of c.args.stage) (ground_of c.args.self.now) (ground_of c.turn_site.new.self) (phase_of r.0) r.1
    c.in_default.not-Look c.in_default.not-Publish m)

use Rattle.node_steps.specs.Closings.{ground_of}
use Rattle.node_steps.specs.Running.{phase_of}
use Rattle.node_steps.proofs.Stepping.{ok_then}
use Rattle.node_steps.proofs.Taking.{moves_at}
use Rattle.node_steps.proofs.parts.Parts.move_on.Goals as goal

pub returns-in_default-clause-ok : goal.returns-in_default-clause-ok
returns-in_default-clause-ok c =
    ok_then c.turn_site.result c.turn_site.ensures.ok
    (λ r m. moves_at c.args.act c.args.index (ground_of c.args.self.now) (ground_of c.turn_site.new.self) (phase_of r.0) r.1 c.args.phase c.in_default.not-Closing m)

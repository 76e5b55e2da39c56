use Rattle.node_session.proofs.Coming.{came_kept}
use Rattle.node_session.proofs.session.Session.step.Goals as goal

pub returns-else-not-may_wait-clause-goes : goal.returns-else-not-may_wait-clause-goes
returns-else-not-may_wait-clause-goes g c =
    let w = c.in-None.ensures.waits in
    λ first u h p. came_kept g.N.Node.step first u _ _ h _ _ c.args.node.now c.advance.new.node c.args.self.now c.advance.new.self w.0 w.1 w.2 w.3 p

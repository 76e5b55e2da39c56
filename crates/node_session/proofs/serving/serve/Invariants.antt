use Rattle.std.proofs.Common.{◌≡◌}
use Rattle.node_session.specs.Stages.{Came, Fits, weight}
use Rattle.node_session.specs.Streams.{source_of, target_of}
use Rattle.node_session.proofs.serving.serve.Given as goal

abbrev pub invariant-steps : goal.invariant-steps
invariant-steps g l = record {
  came : Came g.N.Node.step l.fn.node l.node (source_of (g.R.Read.remaining l.fn.reader)) (source_of (g.R.Read.remaining l.reader)) (target_of (g.W.Write.contents l.fn.writer)) (target_of (g.W.Write.contents l.writer)) l.session.stage l.session;
  fits : Fits l.session.stage l.session;
  most : l.session.most ≡ l.fn.reads;
}

abbrev pub decreases-steps : goal.decreases-steps
decreases-steps g l = weight l.session.stage l.session

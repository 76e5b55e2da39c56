use Rattle.node_session.specs.Streams.{Holds}
use Rattle.node_session.proofs.transport.try_flush.Given as goal

abbrev pub invariant-loop : goal.invariant-loop
invariant-loop g l = Holds (g.T.Transport.target l.initial.writer) (g.T.Transport.target l.writer)

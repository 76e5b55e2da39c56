use Rattle.std.proofs.Common.{arith}
use Rattle.node_session.specs.Streams.{source_of}
use Rattle.node_session.proofs.Piping.{pipe_ended, pipe_stopped, with_sweeps}
use Rattle.node_commands.proofs.streams.pipe.Goals as goal

pub returns-clause-ended : goal.returns-clause-ended
returns-clause-ended g c =
    pipe_ended c.args.run c.args.ring c.args.sweep (c.requires, omega (arith, c.ranges.run.fits)) (source_of (g.R.Read.remaining c.args.reader.now)) (source_of (g.R.Read.remaining c.serve.new.reader))
    (g.W.Write.contents c.args.writer.now) (g.W.Write.contents c.serve.new.writer) 4294967296 c.with_budget-node.result c.serve.new.node (with_sweeps c.args.run c.args.ring c.args.sweep c.in-Ok.new c.with_budget-node.result c.in-Ok.ensures c.with_budget-node.ensures)
    c.serve.result c.serve.ensures.ended

pub returns-clause-stopped : goal.returns-clause-stopped
returns-clause-stopped g c =
    pipe_stopped c.args.run c.args.ring c.args.sweep (c.requires, omega (arith, c.ranges.run.fits)) (source_of (g.R.Read.remaining c.args.reader.now)) (source_of (g.R.Read.remaining c.serve.new.reader))
    (g.W.Write.contents c.args.writer.now) (g.W.Write.contents c.serve.new.writer) 4294967296 c.with_budget-node.result c.serve.new.node (with_sweeps c.args.run c.args.ring c.args.sweep c.in-Ok.new c.with_budget-node.result c.in-Ok.ensures c.with_budget-node.ensures)
    c.serve.result c.serve.ensures.stopped

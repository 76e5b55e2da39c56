use Rattle.std.proofs.Common.{length}
use Rattle.riak_node.proofs.frame_counter.FramesOut.note.Given as goal

abbrev pub decreases-loop-first : goal.decreases-loop-first
decreases-loop-first l = length l.rest

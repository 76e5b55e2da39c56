use Rattle.std.proofs.Common.{refl}
use Rattle.riak_msgs.proofs.read_put.PutView.new.Goals as goal

pub returns : goal.returns
returns c = record { names = c.new.ensures 16; context = refl; flags = c.new-2.ensures; content = c.new-3.ensures }

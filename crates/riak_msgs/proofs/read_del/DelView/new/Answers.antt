use Rattle.std.proofs.Common.{refl}
use Rattle.riak_msgs.proofs.read_del.DelView.new.Goals as goal

pub returns : goal.returns
returns c = record { names = c.new.ensures 13; context = refl }

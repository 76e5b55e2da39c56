use Rattle.std.proofs.Common.{refl}
use Rattle.riak_msgs.proofs.read_get.GetView.new.Goals as goal

pub returns : goal.returns
returns c = record { names = c.new.ensures 13; if_modified = refl; head = refl; deletedvclock = refl }

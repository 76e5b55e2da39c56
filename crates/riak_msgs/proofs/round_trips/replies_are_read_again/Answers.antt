use Rattle.riak_msgs.proofs.EncodedReplies.{reply_says}
use Rattle.riak_msgs.proofs.round_trips.replies_are_read_again.Goals as goal

pub returns : goal.returns
returns c = reply_says

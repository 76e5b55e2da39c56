use Rattle.riak_msgs.proofs.RepliesSaid.{DecodesReply-once}
use Rattle.riak_msgs.proofs.reply_laws.replies_say_one.Goals as goal

pub returns : goal.returns
returns c = DecodesReply-once

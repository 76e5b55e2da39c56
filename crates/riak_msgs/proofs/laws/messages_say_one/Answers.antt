use Rattle.riak_msgs.proofs.RequestsOnce.{says_once}
use Rattle.riak_msgs.proofs.laws.messages_say_one.Goals as goal

pub returns : goal.returns
returns c = says_once

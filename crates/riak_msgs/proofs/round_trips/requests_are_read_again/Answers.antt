use Rattle.riak_msgs.proofs.EncodedRequests.{request_says}
use Rattle.riak_msgs.proofs.round_trips.requests_are_read_again.Goals as goal

pub returns : goal.returns
returns c = request_says

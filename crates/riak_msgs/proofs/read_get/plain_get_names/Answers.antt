use Rattle.riak_msgs.proofs.PlainFields.{no_bytes}
use Rattle.riak_msgs.proofs.PlainRequests.{says_plain_get}
use Rattle.riak_msgs.proofs.read_get.plain_get_names.Goals as goal

pub returns : goal.returns
returns c =
    says_plain_get c.args.body.now c.in-Some.bucket.now c.in-Some.key.now c.in-Some.rest.now c.in-Some.ensures.some (no_bytes c.in-Some.rest.now c.if-not-is_empty.ensures)

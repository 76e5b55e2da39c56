use Rattle.riak_msgs.specs.declared.request.Request.TheVariants.{Del}
use Rattle.riak_msgs.specs.Reading.{del_of}
use Rattle.riak_msgs.proofs.Requests.{reads_no_memory, says_del}
use Rattle.riak_msgs.proofs.read_del.read_any_del.Goals as goal

pub returns-in_err-ask : goal.returns-in_err-ask
returns-in_err-ask c =
    let (fields, stands, is) = c.in_ok-view.ensures.ok in
    let body = c.args.body.now in
    reads_no_memory 13 body (Del (del_of fields)) c.from_residual-in_err-ask.result c.from_residual-in_err-ask.ensures.1
    (says_del body fields stands (c.in_default.ensures fields is.names))

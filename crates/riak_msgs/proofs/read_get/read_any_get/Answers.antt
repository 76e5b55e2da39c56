use Rattle.riak_msgs.specs.declared.request.Request.TheVariants.{Get}
use Rattle.riak_msgs.specs.Reading.{get_of}
use Rattle.riak_msgs.proofs.Requests.{reads_no_memory, says_get}
use Rattle.riak_msgs.proofs.read_get.read_any_get.Goals as goal

pub returns-in_err-ask : goal.returns-in_err-ask
returns-in_err-ask c =
    let (fields, stands, is) = c.in_ok-view.ensures.ok in
    let body = c.args.body.now in
    reads_no_memory 9 body (Get (get_of fields)) c.from_residual-in_err-ask.result c.from_residual-in_err-ask.ensures.1
    (says_get body fields stands (c.in_default.ensures fields is.names))

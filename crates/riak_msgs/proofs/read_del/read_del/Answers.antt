use Rattle.std.proofs.Common.{Ok, sym, subst}
use Rattle.riak_msgs.specs.declared.del.DelAsk.{DelAsk}
use Rattle.riak_msgs.specs.declared.request.Request.TheVariants.{Del}
use Rattle.riak_msgs.specs.PlainDeletes.{plain_del}
use Rattle.riak_msgs.specs.Reading.{Decodes}
use Rattle.riak_msgs.proofs.PlainFields.{no_bytes}
use Rattle.riak_msgs.proofs.PlainRequests.{says_plain_del}
use Rattle.riak_msgs.proofs.Requests.{reads_no_memory}
use Rattle.riak_msgs.proofs.read_del.read_del.Goals as goal

pub returns-in_err-plain_del : goal.returns-in_err-plain_del
returns-in_err-plain_del c =
    let body = c.args.body.now in
    let bucket = c.in-Some.bucket.now in
    let key = c.in-Some.key.now in
    let context = c.first_context.result.0.now in
    let rest = c.first_context.result.1.now in
    reads_no_memory 13 body (Del (plain_del bucket key context)) c.from_residual.result c.from_residual.ensures.1
    (says_plain_del body bucket key c.in-Some.behind.now context rest c.in-Some.ensures.some c.first_context.ensures.begins
    (no_bytes rest c.if-not-is_empty.ensures))

pub returns : goal.returns
returns c =
    let body = c.args.body.now in
    let bucket = c.in-Some.bucket.now in
    let key = c.in-Some.key.now in
    let context = c.first_context.result.0.now in
    let rest = c.first_context.result.1.now in
    let P : DelAsk → Type 0 = λ ask. Decodes 13 body (Ok (Del ask)) in
    subst P (sym c.in_ok-plain_del.ensures)
    (says_plain_del body bucket key c.in-Some.behind.now context rest c.in-Some.ensures.some c.first_context.ensures.begins
    (no_bytes rest c.if-not-is_empty.ensures))

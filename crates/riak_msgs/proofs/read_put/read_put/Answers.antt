use Rattle.std.proofs.Common.{Ok, sym, subst}
use Rattle.riak_msgs.specs.declared.put.PutAsk.{PutAsk}
use Rattle.riak_msgs.specs.declared.request.Request.TheVariants.{Put}
use Rattle.riak_msgs.specs.Reading.{Decodes}
use Rattle.riak_msgs.specs.PlainPuts.{plainly_asked}
use Rattle.riak_msgs.proofs.PlainParts.{content_of_plain}
use Rattle.riak_msgs.proofs.PlainRequests.{says_plain_put}
use Rattle.riak_msgs.proofs.Requests.{reads_no_memory}
use Rattle.riak_msgs.proofs.read_put.read_put.Goals as goal

pub returns-in_err-ask : goal.returns-in_err-ask
returns-in_err-ask c =
    let body = c.args.body.now in
    let put = c.in-Some.plain in
    let is = c.in-Some.ensures.some in
    let (content, same) = content_of_plain put.content.now is.whole in
    reads_no_memory 11 body (Put (plainly_asked put content)) c.from_residual.result c.from_residual.ensures.1
    (says_plain_put body put content is same)

pub returns : goal.returns
returns c =
    let body = c.args.body.now in
    let put = c.in-Some.plain in
    let is = c.in-Some.ensures.some in
    let (content, same) = content_of_plain put.content.now is.whole in
    let P : PutAsk → Type 0 = λ ask. Decodes 11 body (Ok (Put ask)) in
    subst P (sym (c.in_ok-ask.ensures content same)) (says_plain_put body put content is same)

pub ask-requires : goal.ask-requires
ask-requires c = content_of_plain c.in-Some.plain.content.now c.in-Some.ensures.some.whole

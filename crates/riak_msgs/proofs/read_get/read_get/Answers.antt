use Rattle.std.proofs.Common.{Ok, sym, subst}
use Rattle.riak_msgs.specs.declared.get.GetAsk.{GetAsk}
use Rattle.riak_msgs.specs.declared.request.Request.TheVariants.{Get}
use Rattle.riak_msgs.specs.Requests.{plain_get}
use Rattle.riak_msgs.specs.Reading.{Decodes}
use Rattle.riak_msgs.proofs.PlainFields.{no_bytes}
use Rattle.riak_msgs.proofs.PlainRequests.{says_plain_get}
use Rattle.riak_msgs.proofs.Requests.{reads_no_memory}
use Rattle.riak_msgs.proofs.read_get.read_get.Goals as goal

pub returns-in_err-plain : goal.returns-in_err-plain
returns-in_err-plain c =
    let body = c.args.body.now in
    let bucket = c.in-Some.bucket.now in
    let key = c.in-Some.key.now in
    reads_no_memory 9 body (Get (plain_get bucket key)) c.from_residual.result c.from_residual.ensures.1
    (says_plain_get body bucket key c.in-Some.rest.now c.in-Some.ensures.some (no_bytes c.in-Some.rest.now c.if-not-is_empty.ensures))

pub returns : goal.returns
returns c =
    let body = c.args.body.now in
    let bucket = c.in-Some.bucket.now in
    let key = c.in-Some.key.now in
    let P : GetAsk → Type 0 = λ ask. Decodes 9 body (Ok (Get ask)) in
    subst P (sym c.in_ok-plain.ensures)
    (says_plain_get body bucket key c.in-Some.rest.now c.in-Some.ensures.some (no_bytes c.in-Some.rest.now c.if-not-is_empty.ensures))

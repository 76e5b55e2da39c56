use Rattle.std.proofs.Common.{Ok, sym, subst}
use Rattle.riak_msgs.specs.declared.fault.MsgFault.TheVariants.{NoMemory}
use Rattle.riak_msgs.specs.declared.put.PutAsk.{PutAsk}
use Rattle.riak_msgs.specs.declared.request.Request.TheVariants.{Put}
use Rattle.riak_msgs.specs.Reading.{Decodes, put_of}
use Rattle.riak_msgs.proofs.Requests.{IsErrAnd-same, reads_no_memory, says_put}
use Rattle.riak_msgs.proofs.read_put.read_any_put.Goals as goal

pub returns-in_err-ask : goal.returns-in_err-ask
returns-in_err-ask c =
    let (put, stands, is) = c.in_ok-view.ensures.ok in
    let body = c.args.body.now in
    let result = c.from_residual-in_err-ask.result in
    reads_no_memory 11 body (Put (put_of put)) result
    (IsErrAnd-same result c.in_err-ask.field-0.0 NoMemory c.from_residual-in_err-ask.ensures.1 (c.in_err-ask.ensures.err put is stands))
    (says_put body put stands (c.in_default.ensures put is))

pub returns : goal.returns
returns c =
    let (put, stands, is) = c.in_ok-view.ensures.ok in
    let body = c.args.body.now in
    let none = c.in_default.ensures put is in
    let P : PutAsk → Type 0 = λ ask. Decodes 11 body (Ok (Put ask)) in
    subst P (sym (c.in_ok-ask.ensures.ok put is stands none)) (says_put body put stands none)

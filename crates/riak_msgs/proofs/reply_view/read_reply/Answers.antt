use Rattle.std.proofs.lemmas.Result.{err_from_is_err_and}
use Rattle.riak_msgs.proofs.RepliesSaid.{ReadsReply-get_fault, ReadsReply-put_fault, ReadsReply-error}
use Rattle.riak_msgs.proofs.reply_view.read_reply.Goals as goal

pub returns-in_err-read_shown-in-10 : goal.returns-in_err-read_shown-in-10
returns-in_err-read_shown-in-10 c =
    let p = err_from_is_err_and c.from_residual.result c.from_residual.ensures.1 in
    rw (p.1, p.2) (record { said = ReadsReply-get_fault c.args.code c.args.body.now c.in_err-read_shown-in-10.field-0.0 c.in-10.is c.in_err-read_shown-in-10.ensures })

pub returns-in_err-shown-in-12 : goal.returns-in_err-shown-in-12
returns-in_err-shown-in-12 c =
    let p = err_from_is_err_and c.from_residual-in_err-shown-in-12.result c.from_residual-in_err-shown-in-12.ensures.1 in
    rw (p.1, p.2) (record { said = ReadsReply-put_fault c.args.code c.args.body.now c.in_err-shown-in-12.field-0.0 c.in-12.is c.in_err-shown-in-12.ensures })

pub returns-in-0 : goal.returns-in-0
returns-in-0 c = record { said = ReadsReply-error c.args.code c.args.body.now c.read_error.result c.in-0.is c.read_error.ensures }

use Rattle.std.proofs.lemmas.Result.{on_ok_weaker}
use Rattle.riak_msgs.proofs.put.PutAskMessage.encode.Goals as goal

-- piece by piece
pub returns : goal.returns
returns g c =
    let joins = g.met.O.Output.joins in
    let seen = joins _ _ _ _ _ c.in_ok-encode_names.ensures c.in_ok-encode_context.ensures in
    let content = joins _ _ _ _ _ seen c.in_ok-encode_message.ensures in
    let options = joins _ _ _ _ _ content c.in_ok-encode_options.ensures in
    on_ok_weaker c.encode_type.result (λ last. joins _ _ _ _ _ options last) c.encode_type.ensures

use Rattle.std.proofs.lemmas.Result.{on_ok_weaker}
use Rattle.riak_msgs.proofs.get.GetAskMessage.encode.Goals as goal

-- piece by piece
pub returns : goal.returns
returns g c =
    let joins = g.met.O.Output.joins in
    let context = joins _ _ _ _ _ c.in_ok-encode_names.ensures c.in_ok-encode_context.ensures in
    let head = joins _ _ _ _ _ context c.in_ok-encode_bool.ensures in
    let deletedvclock = joins _ _ _ _ _ head c.in_ok-encode_bool-2.ensures in
    on_ok_weaker c.encode_type.result (λ last. joins _ _ _ _ _ deletedvclock last) c.encode_type.ensures

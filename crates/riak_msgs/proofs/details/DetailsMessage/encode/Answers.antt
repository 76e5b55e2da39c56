use Rattle.std.proofs.lemmas.Result.{on_ok_weaker}
use Rattle.riak_msgs.proofs.details.DetailsMessage.encode.Goals as goal

-- piece by piece
pub returns : goal.returns
returns g c =
    let joins = g.met.O.Output.joins in
    let charset = joins _ _ _ _ _ c.in_ok-encode_optional.ensures c.in_ok-encode_optional-2.ensures in
    let labels = joins _ _ _ _ _ charset c.in_ok-encode_optional-3.ensures in
    let links = joins _ _ _ _ _ labels c.in_ok-encode_repeated.ensures in
    let usermeta = joins _ _ _ _ _ links c.in_ok-encode_repeated-2.ensures in
    rw (← c.as_slice.ensures, ← c.as_slice-2.ensures, ← c.as_slice-3.ensures)
    (on_ok_weaker c.encode_repeated-3.result (λ last. joins _ _ _ _ _ usermeta last) c.encode_repeated-3.ensures)

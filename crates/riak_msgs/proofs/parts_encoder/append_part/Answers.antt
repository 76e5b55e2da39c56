use Rattle.std.proofs.Common.{sym, ◌∙◌}
use Rattle.pb_fields.proofs.Lists.{fields_once}
use Rattle.riak_msgs.proofs.PartsAppended.{link_appended, pair_appended, pair_left_out}
use Rattle.riak_msgs.proofs.parts_encoder.append_part.Goals as goal

pub returns-in_ok-encode_message-in-Link-clause-ok : goal.returns-in_ok-encode_message-in-Link-clause-ok
returns-in_ok-encode_message-in-Link-clause-ok c = λ others stands.
    let (fields, here, is) = c.in-Ok.ensures.ok in
    link_appended c.args.kind _ _ c.link.result fields others c.in-Link.is (c.link.ensures fields is)
    (fields_once c.args.bytes.now fields others here stands) c.in_ok-encode_message-in-Link.ensures

pub returns-in_ok-encode_message-in-Some : goal.returns-in_ok-encode_message-in-Some
returns-in_ok-encode_message-in-Some c =
    let (fields, here, is) = c.in-Ok.ensures.ok in
    record {
      ok = λ others stands.
          pair_appended c.args.kind c.number.result _ _ c.in-Some.pair fields others c.in-Usermeta.is c.number.ensures.is
          (sym c.in-Some.is ∙ c.pair.ensures fields is) (fields_once c.args.bytes.now fields others here stands)
          c.in_ok-encode_message-in-Some.ensures;
      err = λ others stands. tt;
    }

pub returns-in-None : goal.returns-in-None
returns-in-None c =
    let (fields, here, is) = c.in-Ok.ensures.ok in
    record {
      ok = λ others stands.
          pair_left_out c.args.kind _ fields others c.in-Usermeta.is (sym c.in-None.is ∙ c.pair.ensures fields is)
          (fields_once c.args.bytes.now fields others here stands);
      err = λ others stands. tt;
    }

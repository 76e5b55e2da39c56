use Rattle.pb_fields.specs.Field.{seen}
use Rattle.riak_msgs.proofs.Requests.{last_bytes-more}
use Rattle.riak_msgs.proofs.key_view.KeyView.merge_field.Goals as goal

pub returns : goal.returns
returns c = λ fields names.
    let field = seen c.args.field in
    record {
      bucket = last_bytes-more 1 fields field _ _ names.bucket c.keep_last.ensures;
      key = last_bytes-more 2 fields field _ _ names.key c.keep_last-2.ensures;
      bucket_type = last_bytes-more c.args.type_number fields field _ _ names.bucket_type c.keep_last-3.ensures;
    }

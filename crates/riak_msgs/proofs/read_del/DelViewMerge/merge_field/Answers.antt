use Rattle.pb_fields.specs.Field.{seen}
use Rattle.riak_msgs.proofs.Requests.{last_bytes-more}
use Rattle.riak_msgs.proofs.read_del.DelViewMerge.merge_field.Goals as goal

pub returns-clause-ok : goal.returns-clause-ok
returns-clause-ok c = λ fields is.
    record {
      names = c.merge_field.ensures fields is.names;
      context = last_bytes-more 4 fields (seen c.args.field) _ _ is.context c.keep_last.ensures;
    }

use Rattle.std.proofs.Common.{◌∙◌}
use Rattle.pb_fields.specs.Field.{seen}
use Rattle.riak_msgs.proofs.Requests.{last_bytes-more}
use Rattle.riak_msgs.proofs.RepliesPicking.{flag_of-more}
use Rattle.riak_msgs.proofs.read_get.GetViewMerge.merge_field.Goals as goal

pub returns-clause-ok : goal.returns-clause-ok
returns-clause-ok c = λ fields is.
    let field = seen c.args.field in
    record {
      names = c.merge_field.ensures fields is.names;
      if_modified = last_bytes-more 7 fields field _ _ is.if_modified c.keep_last.ensures;
      head = c.keep_flag.ensures ∙ flag_of-more 8 fields field c.args.self.now.head is.head;
      deletedvclock = c.keep_flag-2.ensures ∙ flag_of-more 9 fields field c.args.self.now.deletedvclock is.deletedvclock;
    }

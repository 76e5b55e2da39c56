use Rattle.std.proofs.Common.{◌∙◌}
use Rattle.pb_fields.specs.Field.{seen}
use Rattle.riak_msgs.proofs.RepliesPicking.{flag_of-more}
use Rattle.riak_msgs.proofs.read_put.PutFlags.merge_field.Goals as goal

pub returns : goal.returns
returns c = λ fields is.
    let field = seen c.args.field in
    let old = c.args.self.now in
    record {
      return_body = c.keep_flag.ensures ∙ flag_of-more 7 fields field old.return_body is.return_body;
      if_not_modified = c.keep_flag-2.ensures ∙ flag_of-more 9 fields field old.if_not_modified is.if_not_modified;
      if_none_match = c.keep_flag-3.ensures ∙ flag_of-more 10 fields field old.if_none_match is.if_none_match;
      return_head = c.keep_flag-4.ensures ∙ flag_of-more 11 fields field old.return_head is.return_head;
    }

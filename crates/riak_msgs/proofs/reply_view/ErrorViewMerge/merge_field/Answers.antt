use Rattle.std.proofs.Common.{ap, ◌∙◌}
use Rattle.std.specs.Prelude.{option_copied, is_some}
use Rattle.pb_fields.specs.Field.{seen}
use Rattle.riak_msgs.proofs.RepliesPicking.{last_bytes-more, is_some-last_varint}
use Rattle.riak_msgs.proofs.reply_view.ErrorViewMerge.merge_field.Goals as goal

pub returns-clause-ok : goal.returns-clause-ok
returns-clause-ok c = λ fields is.
    let field = seen c.args.field in
    let old = c.args.self.now in
    record {
      text = ap option_copied c.or-self.ensures ∙ last_bytes-more 1 fields field c.bytes_at.result old.text c.bytes_at.ensures is.text;
      has_number = is_some-last_varint 2 fields field old.has_number c.is_some.result is.has_number
          (c.is_some.ensures ∙ ap is_some c.varint_at.ensures);
    }

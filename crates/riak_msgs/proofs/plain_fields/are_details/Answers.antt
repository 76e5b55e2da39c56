use Rattle.std.proofs.Common.{sym, ◌∙◌}
use Rattle.riak_msgs.proofs.PlainFields.{empty_is, no_bytes}
use Rattle.riak_msgs.proofs.PlainParts.{details_are, details_end}
use Rattle.riak_msgs.proofs.plain_fields.are_details.Goals as goal

pub returns : goal.returns
returns c =
    let first = c.behind_optional-behind_type in
    let second = c.behind_optional-behind_charset in
    let third = c.behind_optional in
    let bs = c.args.bytes.now in
    let (o, is_first) = first.ensures.begins in
    let (p, is_second) = second.ensures.begins in
    let (q, is_third) = third.ensures.begins in
    let rest = third.result.now in (
      λ yes. details_are bs first.result.now second.result.now rest o p q is_first is_second is_third (no_bytes rest (sym yes ∙ c.is_empty.ensures)),
      λ are.
          c.is_empty.ensures ∙ sym (empty_is rest (details_end bs first.result.now second.result.now rest o p q is_first first.ensures.found is_second second.ensures.found
          is_third third.ensures.found are)),
    )

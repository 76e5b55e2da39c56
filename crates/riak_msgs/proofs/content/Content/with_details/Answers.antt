use Rattle.std.proofs.Common.{sym, ◌∙◌, arith}
use Rattle.riak_msgs.specs.Details.{content_with}
use Rattle.riak_msgs.proofs.KeptContents.{kept_as, keeps}
use Rattle.riak_msgs.proofs.ValueAndDetails.{content_message-value}
use Rattle.riak_msgs.proofs.content.Content.with_details.Goals as goal

pub invariant_of-result : goal.invariant_of-result
invariant_of-result c =
    let content = content_with c.args.value.now c.args.details.now in
    let vec = c.in_ok-encoding.encoding.items.value in
    let (is, within) = vec.ok in
    let small = vec.small in (
      keeps vec.items content (c.in_ok-encoding.ensures ∙ c.in_ok-write_encoding.ensures.encoded ∙ sym (content_message-value content))
          (omega arith),
      tt,
    )

pub returns : goal.returns
returns c =
    let content = content_with c.args.value.now c.args.details.now in
    kept_as _ _ content (c.in_ok-encoding.ensures ∙ c.in_ok-write_encoding.ensures.encoded ∙ sym (content_message-value content))

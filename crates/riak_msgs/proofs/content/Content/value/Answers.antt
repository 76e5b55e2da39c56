use Rattle.std.proofs.Common.{ℕ, ◌<◌, ◌^◌, List, [], length, Some, Result, ap, sym, subst, ◌∙◌}
use Rattle.std.specs.Prelude.{unwrap_or}
use Rattle.pb_fields.specs.Field.{seen}
use Rattle.pb_fields.specs.Next.{Yields, left}
use Rattle.pb_fields.specs.declared.field.Field.{Field}
use Rattle.pb_fields.specs.declared.fault.FieldFault.{FieldFault}
use Rattle.pb_fields.proofs.EncodedParts.{string_at}
use Rattle.riak_msgs.proofs.KeptContents.{value_begins, value_first, value_some}
use Rattle.riak_msgs.proofs.Requests.{unwrap_or-copied}
use Rattle.riak_msgs.proofs.ValueAndDetails.{behind_value}
use Rattle.riak_msgs.proofs.content.Content.value.Goals as goal

pub unreachable-requires : goal.unreachable-requires
unreachable-requires c =
    let content = c.args.self.now in
    let Short : List ℕ → Type 0 = λ bs. length bs < 2 ^ 64 in
    let P : Result Field FieldFault → Type 0 = λ r. Yields (left c.new.result) (Some r) (left c.next.new.self) in
    (subst P c.in-Some-Err.field-0-is c.in-Some-Err.ensures.steps).0.none (string_at 1 content.value) (behind_value content)
    (value_begins content (left c.new.result) (c.new.ensures ∙ c.encoding.ensures.encoding)
    (subst Short (sym c.new.ensures) c.encoding.ensures.counted))

pub unreachable-requires-in-None : goal.unreachable-requires-in-None
unreachable-requires-in-None c =
    let Short : List ℕ → Type 0 = λ bs. length bs < 2 ^ 64 in
    value_some c.args.self.now (left c.new.result) (c.new.ensures ∙ c.encoding.ensures.encoding)
    (subst Short (sym c.new.ensures) c.encoding.ensures.counted) c.in-None.ensures.steps.0

pub returns : goal.returns
returns c =
    let content = c.args.self.now in
    let Short : List ℕ → Type 0 = λ bs. length bs < 2 ^ 64 in
    let P : Result Field FieldFault → Type 0 = λ r. Yields (left c.new.result) (Some r) (left c.next.new.self) in
    let first = value_first content (left c.new.result) (left c.next.new.self) (seen c.in-Some-Ok.field) (c.new.ensures ∙ c.encoding.ensures.encoding)
    (subst Short (sym c.new.ensures) c.encoding.ensures.counted) (subst P c.in-Some-Ok.field-0-is c.in-Some-Ok.ensures.steps) in
    ap (λ b. b.now) c.unwrap_or.ensures ∙ unwrap_or-copied c.bytes_at.result _
    ∙ ap (λ o. unwrap_or o []) (c.bytes_at.ensures ∙ first)

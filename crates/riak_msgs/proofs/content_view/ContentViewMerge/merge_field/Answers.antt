use Rattle.std.proofs.Common.{ap, refl, inl, inr}
use Rattle.std.specs.Prelude.{not, ◌==◌}
use Rattle.pb_fields.specs.Field.{seen, value_seen}
use Rattle.riak_msgs.specs.Picking.{string_in, number_in}
use Rattle.riak_msgs.proofs.Walks.{seen-varint, varint_at-other}
use Rattle.riak_msgs.proofs.ContentsWalked.{IsSkipped-no_string, IsSkipped-no_value, Sees-deleted, Sees-skipped}
use Rattle.riak_msgs.proofs.content_view.ContentViewMerge.merge_field.Goals as goal

pub returns-then-field-eq11-clause-ok : goal.returns-then-field-eq11-clause-ok
returns-then-field-eq11-clause-ok c =
    let value = c.in-Varint.value in
    Sees-deleted c.args.self.now (seen c.args.field) value (not (value == 0))
    (seen-varint c.args.field 11 value c.if-field-eq11.true c.in-Varint.is) refl

pub returns-else-field-eq11-clause-ok : goal.returns-else-field-eq11-clause-ok
returns-else-field-eq11-clause-ok c =
    let field = seen c.args.field in
    Sees-skipped c.args.self.now field
    (IsSkipped-no_string field (ap (λ v. string_in (value_seen v)) c.in-Varint.is) (varint_at-other 11 field c.if-field-eq11.false))

pub returns-in-Eight-clause-ok : goal.returns-in-Eight-clause-ok
returns-in-Eight-clause-ok c =
    let field = seen c.args.field in
    Sees-skipped c.args.self.now field (elim c.in-Eight.is [
      | inl eight ↦ IsSkipped-no_value field (ap (λ v. string_in (value_seen v)) eight.1) (ap (λ v. number_in (value_seen v)) eight.1)
      | inr four ↦ IsSkipped-no_value field (ap (λ v. string_in (value_seen v)) four.1) (ap (λ v. number_in (value_seen v)) four.1)
    ])

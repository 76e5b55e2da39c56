use Rattle.std.proofs.Common.{List}
use Rattle.pb_fields.specs.Field.{WireField}
use Rattle.pb_fields.specs.Merging.{MergesAll}
use Rattle.pb_fields.specs.Message.{BeginsWithFields}
use Rattle.pb_fields.specs.Next.{left}
use Rattle.pb_fields.proofs.merge.scan.Given as goal

abbrev pub invariant-loop-field : goal.invariant-loop-field
invariant-loop-field g l =
    (fields : List WireField) × BeginsWithFields l.bytes fields (left l.field-iterator) × MergesAll g.M.Merge.merges l.initial.into fields l.into

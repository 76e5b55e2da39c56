use Rattle.std.proofs.Common.{◌≡◌, arith}
use Rattle.riak_msgs.proofs.Walks.{seen-bytes, string_in-no_bytes, bytes_at-no_string, bytes_at-other, part_first, part_second, part_third, part_other}
use Rattle.riak_msgs.proofs.pairs_and_links.PairViewMerge.merge_field.Goals as goal
use Rattle.pb_fields.specs.Field.{seen}

pub returns-in-1-clause-ok : goal.returns-in-1-clause-ok
returns-in-1-clause-ok c = λ fields is.
    part_first c.args.self.now c.in-Bytes.bytes fields (seen c.args.field) (seen-bytes c.args.field 1 c.in-Bytes.bytes c.in-1.is c.in-Bytes.is) is

pub returns-in-2-clause-ok : goal.returns-in-2-clause-ok
returns-in-2-clause-ok c = λ fields is.
    part_second c.args.self.now c.in-Bytes.bytes fields (seen c.args.field) (seen-bytes c.args.field 2 c.in-Bytes.bytes c.in-2.is c.in-Bytes.is) is

pub returns-in-3-clause-ok : goal.returns-in-3-clause-ok
returns-in-3-clause-ok c = λ fields is.
    part_third c.args.self.now c.in-Bytes.bytes fields (seen c.args.field) (seen-bytes c.args.field 3 c.in-Bytes.bytes c.in-3.is c.in-Bytes.is) is

pub returns-in_default-number-clause-ok : goal.returns-in_default-number-clause-ok
returns-in_default-number-clause-ok c = λ fields is.
    let f = seen c.args.field in
    let a : c.args.field.number ≡ 1 → ⊥ = omega arith in
    let b : c.args.field.number ≡ 2 → ⊥ = omega arith in
    let d : c.args.field.number ≡ 3 → ⊥ = omega arith in
    part_other c.args.self.now fields f (bytes_at-other 1 f a) (bytes_at-other 2 f b) (bytes_at-other 3 f d) is

pub returns-in_default-clause-ok : goal.returns-in_default-clause-ok
returns-in_default-clause-ok c = λ fields is.
    let none = string_in-no_bytes c.args.field.value c.in_default.not-Bytes in
    let f = seen c.args.field in
    part_other c.args.self.now fields f (bytes_at-no_string 1 f none) (bytes_at-no_string 2 f none) (bytes_at-no_string 3 f none) is

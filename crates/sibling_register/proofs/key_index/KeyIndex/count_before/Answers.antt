use Rattle.std.proofs.Common.{rules, ◌∙◌, ap, nat_lt, ℕ, Bool}
use Rattle.std.specs.List.Sorted.{IsPartitionedBy}
use Rattle.std.proofs.lemmas.List.Sorted.{IsPartitionPoint-from_clause, IsPartitionedBy-ltb}
use Rattle.sibling_register.specs.Index.{below}
use Rattle.sibling_register.proofs.Places.{passing_before}
use Rattle.sibling_register.proofs.key_index.KeyIndex.count_before.Goals as goal

pub returns : goal.returns
returns c =
    let test : ℕ → Bool = λ place. nat_lt place c.args.position in
    let places = c.as_slice.result.now in
    let parted : IsPartitionedBy test places = rw c.as_slice.ensures.value (IsPartitionedBy-ltb (λ x. x) c.args.self.now.places.items c.args.position c.requires) in
    record {
      value = passing_before test places c.partition_point.result c.partition_point.ensures.bound
          (IsPartitionPoint-from_clause test places _ c.partition_point.ensures.partitioned parted (λ a r f k. search rules))
          ∙ ap (below c.args.position) c.as_slice.ensures.value;
    }

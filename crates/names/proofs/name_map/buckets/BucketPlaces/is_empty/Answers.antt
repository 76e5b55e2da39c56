use Rattle.names.specs.Merged.{merged}
use Rattle.names.proofs.Merged.{merged_empty}
use Rattle.names.specs.Nested.{bucket_key_cmp}
use Rattle.names.proofs.Nested.{types_order}
use Rattle.names.proofs.MergedPlaces.{not_both}
use Rattle.names.proofs.name_map.buckets.BucketPlaces.is_empty.Goals as goal

pub returns-then-is_empty : goal.returns-then-is_empty
returns-then-is_empty c =
    rw (← c.self.view_is) (
      λ yes. λ i. merged bucket_key_cmp ((c.is_empty.ensures.0 c.if-is_empty.true) i) ((c.is_empty-then-is_empty.ensures.0 yes) i),
      λ empty. c.is_empty-then-is_empty.ensures.1 ((merged_empty types_order.inner_total c.self.inside.short.entries c.self.inside.long.entries empty).1),
    )

pub returns-else-is_empty : goal.returns-else-is_empty
returns-else-is_empty c =
    rw (← c.self.view_is) (
      λ yes. not_both c.is_empty.result yes c.if-is_empty.false,
      λ empty. c.is_empty.ensures.1 ((merged_empty types_order.inner_total c.self.inside.short.entries c.self.inside.long.entries empty).0),
    )

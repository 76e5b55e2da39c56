use Rattle.std.proofs.Common.{ap, length}
use Rattle.names.specs.Nested.{flatten, key_entries, bucket_key}
use Rattle.names.proofs.Nested.{buckets_order, nested_empty, empty_by_length}
use Rattle.names.proofs.name_map.long_buckets.LongBuckets.is_empty.Goals as goal

pub returns : goal.returns
returns c =
    rw (← c.self.view_is) (
      λ yes. ap (flatten key_entries bucket_key) (empty_by_length c.self.inside.buckets.entries (c.is_empty.ensures.0 yes)),
      λ empty. c.is_empty.ensures.1 (ap length (nested_empty buckets_order c.self.inside.buckets.entries c.self.invariant empty)),
    )

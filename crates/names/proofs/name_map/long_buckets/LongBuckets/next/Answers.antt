use Rattle.std.proofs.Common.{◌∙◌, sym}
use Rattle.names.proofs.Nested.{buckets_order}
use Rattle.names.proofs.NextEntry.{next_within, next_beyond, next_flatten_all}
use Rattle.names.proofs.name_map.long_buckets.LongBuckets.next.Goals as goal

pub returns-in_default : goal.returns-in_default
returns-in_default c = rw (← c.self.view_is, c.in_default.is) (c.first_behind.ensures ∙ sym (next_flatten_all buckets_order c.self.inside.buckets.entries))

pub returns-in-None : goal.returns-in-None
returns-in-None c =
    rw (← c.self.view_is, c.in-Some.is)
    (c.first_behind-in-None.ensures ∙ next_beyond buckets_order c.in-Some.bucket.now c.in-Some.key.now c.self.inside.buckets.entries c.self.invariant.ordered c.in-None.ensures)

pub returns-in-Some-next_in_bucket : goal.returns-in-Some-next_in_bucket
returns-in-Some-next_in_bucket c =
    rw (← c.self.view_is, c.in-Some.is)
    (next_within buckets_order c.in-Some.bucket.now c.in-Some.key.now c.self.inside.buckets.entries c.self.invariant.ordered _ c.in-Some-next_in_bucket.ensures)

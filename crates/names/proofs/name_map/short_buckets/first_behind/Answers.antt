use Rattle.names.specs.KeyRefs.{name_of}
use Rattle.names.proofs.Nested.{buckets_order}
use Rattle.names.proofs.NextEntry.{first_some, first_none, never_empty}
use Rattle.names.proofs.name_map.short_buckets.first_behind.Goals as goal

pub unreachable-requires : goal.unreachable-requires
unreachable-requires c =
    never_empty buckets_order c.args.buckets.now.entries c.requires c.in-Some.bucket.now c.in-Some.keys.now c.in-Some.ensures.held c.in-None-next.ensures

pub returns-in-None : goal.returns-in-None
returns-in-None c = first_none buckets_order _ c.args.buckets.now.entries c.in-None.ensures.next

pub returns-in-Some-next : goal.returns-in-Some-next
returns-in-Some-next c =
    first_some buckets_order _ c.args.buckets.now.entries c.in-Some.bucket.now c.in-Some.keys.now (name_of c.in-Some-next.key) c.in-Some-next.place c.in-Some.ensures.next
    c.in-Some-next.ensures

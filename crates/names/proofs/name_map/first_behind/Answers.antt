use Rattle.names.specs.KeyRefs.{name_of}
use Rattle.names.proofs.Nested.{types_order}
use Rattle.names.proofs.NextEntry.{first_some, first_none, never_empty}
use Rattle.names.proofs.name_map.first_behind.Goals as goal

pub unreachable-requires : goal.unreachable-requires
unreachable-requires c =
    never_empty types_order c.args.types.now.entries c.requires c.in-Some.bucket_type.now c.in-Some.buckets.now c.in-Some.ensures.held c.in-None-next.ensures

pub returns-in-None : goal.returns-in-None
returns-in-None c = first_none types_order _ c.args.types.now.entries c.in-None.ensures.next

pub returns-in-Some-next : goal.returns-in-Some-next
returns-in-Some-next c =
    first_some types_order _ c.args.types.now.entries c.in-Some.bucket_type.now c.in-Some.buckets.now (name_of c.in-Some-next.bucket, name_of c.in-Some-next.key) c.in-Some-next.place c.in-Some.ensures.next
    c.in-Some-next.ensures

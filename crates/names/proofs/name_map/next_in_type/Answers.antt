use Rattle.names.specs.KeyRefs.{name_of}
use Rattle.std.specs.Prelude.{Some, None}
use Rattle.names.proofs.Nested.{types_order}
use Rattle.names.proofs.NextEntry.{inside_none, inside_some}
use Rattle.names.proofs.name_map.next_in_type.Goals as goal

pub returns-in-None : goal.returns-in-None
returns-in-None c =
    inside_none types_order c.args.after.bucket_type.now (c.args.after.bucket.now, c.args.after.key.now) c.args.types.now.entries c.in-None.ensures.value

pub returns-in-None-next : goal.returns-in-None-next
returns-in-None-next c =
    inside_some types_order c.args.after.bucket_type.now (c.args.after.bucket.now, c.args.after.key.now) c.args.types.now.entries c.in-Some.bucket_type.now c.in-Some.buckets.now None
    c.in-Some.ensures.key c.in-Some.ensures.value c.in-None-next.ensures

pub returns-in-Some-next : goal.returns-in-Some-next
returns-in-Some-next c =
    inside_some types_order c.args.after.bucket_type.now (c.args.after.bucket.now, c.args.after.key.now) c.args.types.now.entries c.in-Some.bucket_type.now c.in-Some.buckets.now
    (Some ((name_of c.in-Some-next.bucket, name_of c.in-Some-next.key), c.in-Some-next.place))
    c.in-Some.ensures.key c.in-Some.ensures.value c.in-Some-next.ensures

use Rattle.std.specs.Prelude.{Some, None}
use Rattle.names.specs.KeyRefs.{name_of}
use Rattle.names.proofs.Nested.{buckets_order}
use Rattle.names.proofs.NextEntry.{inside_none, inside_some}
use Rattle.names.proofs.name_map.short_buckets.next_in_bucket.Goals as goal

pub returns-in-None : goal.returns-in-None
returns-in-None c = inside_none buckets_order c.args.bucket.now c.args.key.now c.args.buckets.now.entries c.in-None.ensures.value

pub returns-in-None-next : goal.returns-in-None-next
returns-in-None-next c =
    inside_some buckets_order c.args.bucket.now c.args.key.now c.args.buckets.now.entries c.in-Some.bucket.now c.in-Some.keys.now None c.in-Some.ensures.key c.in-Some.ensures.value
    c.in-None-next.ensures

pub returns-in-Some-next : goal.returns-in-Some-next
returns-in-Some-next c =
    inside_some buckets_order c.args.bucket.now c.args.key.now c.args.buckets.now.entries c.in-Some.bucket.now c.in-Some.keys.now (Some (name_of c.in-Some-next.key, c.in-Some-next.place))
    c.in-Some.ensures.key c.in-Some.ensures.value c.in-Some-next.ensures

use Rattle.std.proofs.Common.{◌∙◌, [], ◌∷◌}
use Rattle.names.proofs.Nested.{types_order}
use Rattle.names.proofs.MergedPlaces.{of_some, of_none, in_short, same_bucket, one_first, one_second}
use Rattle.names.proofs.name_map.buckets.BucketPlaces.one_key.Goals as goal

pub invariant_of-result : goal.invariant_of-result
invariant_of-result c =
    let name = (of_some c.of.result c.as_slice.result.now c.args.bucket.now c.in-Some.name c.of.ensures c.as_slice.ensures c.in-Some.is) in
    one_first types_order.inner_total in_short same_bucket (c.args.bucket.now, c.args.key.now) c.args.place c.in_ok-short-in-Some.short.entries c.new-long.result.entries name.0
    (c.in_ok-short-in-Some.ensures ∙ λ i. ((name.1 i, c.args.key.now), c.args.place) ∷ []) c.new-long.ensures

pub invariant_of-result-in-None : goal.invariant_of-result-in-None
invariant_of-result-in-None c =
    one_second types_order.inner_total in_short same_bucket (c.args.bucket.now, c.args.key.now) c.args.place c.new-short.result.entries c.in_ok-long-in-None.long.entries (of_none c.of.result c.as_slice.result.now c.args.bucket.now c.of.ensures c.as_slice.ensures c.in-None.is) c.new-short.ensures c.in_ok-long-in-None.ensures

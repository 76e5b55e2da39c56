use Rattle.std.proofs.Common.{◌∙◌, ap, sym}
use Rattle.ring_map.specs.Ring.{index_of, names_digest}
use Rattle.riak_msgs.specs.BucketTypes.{default_type}
use Rattle.gate_node.proofs.partition_cache.PartitionCache.index.Goals as goal

pub returns-then-is_default-clause-index : goal.returns-then-is_default-clause-index
returns-then-is_default-clause-index c =
    let bits = c.args.ring.now in
    let key = c.args.key.now in
    c.index_of_names.ensures.index
    ∙ ap (λ bucket. index_of bits (names_digest default_type bucket c.as_slice-then-is_default.result.now)) c.as_slice.ensures
    ∙ ap (λ name. index_of bits (names_digest default_type key.bucket name)) c.as_slice-then-is_default.ensures
    ∙ ap (λ bucket_type. index_of bits (names_digest bucket_type key.bucket key.key)) (sym (c.is_default.ensures c.if-is_default.true))

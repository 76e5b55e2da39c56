use Rattle.std.proofs.Common.{ap, ◌∙◌, sym}
use Rattle.riak_msgs.specs.Requests.{default_key}
use Rattle.ring_map.specs.Ring.{digest_of, index_of}
use Rattle.gate_node.specs.PartitionCache.{key_in}
use Rattle.gate_node.proofs.partition_cache.Entries.index_of_names.Goals as goal

pub returns-in-Some-find-clause-index : goal.returns-in-Some-find-clause-index
returns-in-Some-find-clause-index c =
    c.in-Some-find.ensures
    ∙ ap (λ k. index_of c.args.self.now (digest_of k)) {x = key_in c.in-Some.cached} {y = default_key c.args.bucket.now c.args.key.now} c.in-Some.ensures

pub remember-requires : goal.remember-requires
remember-requires c =
    let key = default_key c.args.bucket.now c.args.key.now in
    c.index_of_names-index.ensures.index
    ∙ ap (λ ring. index_of ring (digest_of key)) c.self.view_is
    ∙ sym (ap (λ k. index_of c.args.self.now (digest_of k)) {x = key_in c.in-Some.cached} {y = key} c.in-Some.ensures)

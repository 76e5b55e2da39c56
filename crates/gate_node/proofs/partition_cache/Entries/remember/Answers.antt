use Rattle.std.proofs.Common.{◌≡◌, subst, sym}
use Rattle.std.proofs.lemmas.List.Elements.{All-set}
use Rattle.ring_map.specs.Ring.{digest_of, index_of}
use Rattle.gate_node.specs.PartitionCache.{IsIndexed, key_in}
use Rattle.gate_node.proofs.partition_cache.Entries.remember.Goals as goal

pub invariant_of-self : goal.invariant_of-self
invariant_of-self c =
    let same = subst (λ ring. c.args.index ≡ index_of ring (digest_of (key_in c.args.key))) (sym c.self.view_is) c.requires in
    All-set (IsIndexed c.self.inside.ring) c.self.inside.places.items c.args.place (record { key = c.args.key; index = c.args.index }) same c.self.invariant

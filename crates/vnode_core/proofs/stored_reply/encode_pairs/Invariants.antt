use Rattle.std.specs.List.{flat_map}
use Rattle.actor_epoch.specs.Contexts.{entry_bytes}
use Rattle.actor_epoch.specs.declared.version.Version.TheVariants.{Two}
use Rattle.vnode_core.proofs.Appending.{Leads}
use Rattle.vnode_core.proofs.stored_reply.encode_pairs.Given as goal

abbrev pub invariant-loop-pair : goal.invariant-loop-pair
invariant-loop-pair g l =
    Leads g.O.Output.appends l.initial.out (flat_map (entry_bytes Two) l.initial.pair-iterator) l.out (flat_map (entry_bytes Two) l.pair-iterator)

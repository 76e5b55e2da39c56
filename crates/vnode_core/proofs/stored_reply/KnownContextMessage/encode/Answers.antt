use Rattle.std.proofs.Common.{[], ◌∷◌}
use Rattle.std.specs.List.{flat_map}
use Rattle.actor_epoch.specs.Contexts.{entry_bytes}
use Rattle.actor_epoch.specs.declared.version.Version.TheVariants.{Two}
use Rattle.vnode_core.proofs.stored_reply.KnownContextMessage.encode.Goals as goal

pub returns : goal.returns
returns g c =
    g.met.O.Output.joins c.args.out.now c.append_encoded.new.self c.encode_pairs.new.out (2 ∷ []) (flat_map (entry_bytes Two) c.args.self.now.key.now.clock.meaning.known)
    c.in_ok-append_encoded.ensures c.in_ok-encode_pairs.ensures

use Rattle.std.proofs.Common.{ℕ, List, sym, subst, ◌∙◌}
use Rattle.std.specs.List.{flat_map}
use Rattle.actor_epoch.specs.Contexts.{entry_bytes}
use Rattle.actor_epoch.specs.Entries.{entry_of}
use Rattle.actor_epoch.specs.declared.dot.Dot.{Dot}
use Rattle.actor_epoch.specs.declared.version.Version.TheVariants.{Two}
use Rattle.vnode_core.proofs.stored_reply.encode_pairs.Goals as goal

pub loop-pair-preserved : goal.loop-pair-preserved
loop-pair-preserved g c = λ end rest.
    let out = c.loop-pair.out in
    let next = c.append_encoded.new.self in
    let bytes = entry_bytes Two (entry_of c.in-Some.pair) in
    let behind = flat_map (entry_bytes Two) c.next.new.self in
    let step = subst (λ (bs : List ℕ). g.O.Output.appends out bs next) c.pair_bytes.ensures c.in_ok-append_encoded.ensures in
    c.loop-pair.invariant end
    (subst (λ (xs : List Dot). g.O.Output.appends out (flat_map (entry_bytes Two) xs) end) (sym c.in-Some.ensures.steps)
    (g.met.O.Output.joins out next end bytes behind step rest))

pub returns : goal.returns
returns g c =
    let out = c.loop-pair.out in
    let done = c.loop-pair.invariant out
    (subst (λ (xs : List Dot). g.O.Output.appends out (flat_map (entry_bytes Two) xs) out) (sym c.in-None.ensures.steps.0) (g.met.O.Output.nothing out)) in
    subst (λ (xs : List Dot). g.O.Output.appends c.args.out.now (flat_map (entry_bytes Two) xs) out) (c.into_iter-pair-iterator.ensures.into_iter_gives ∙ c.join-pair-items.ensures.pairs) done

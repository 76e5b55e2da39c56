use Rattle.std.proofs.Common.{◌∙◌, sym, ap, subst}
use Rattle.vnode_core.specs.Plans.{View}
use Rattle.vnode_machine.specs.Sound.{IsSound}
use Rattle.clock_store.specs.Keys.{Keys, synced}
use Rattle.vnode_core.specs.Vnodes.{fields, state_of, IsReadyFor}
use Rattle.vnode_core.proofs.Copying.{sound-copied, synced-is}
use Rattle.vnode_core.proofs.vnode.VnodeOver.finish_copy.Goals as goal

pub invariant_of-self : goal.invariant_of-self
invariant_of-self g c =
    let v = fields c.self.inside.id c.self.inside.epochs c.self.inside.writes c.self.inside.tombstones c.self.inside.reaps (g.S.ClockStore.shows c.self.inside.store) c.self.inside.ready c.self.inside.prepared c.self.inside.closed in
    let r = subst (IsReadyFor (state_of v) v.store v.ready) (ap (λ (w : View). w.prepared) c.self.view_is ∙ c.requires) c.self.invariant.ready in
    let keys = c.sync.ensures.keys ∙ (λ i. synced v.store.keys (c.into_parts-key.ensures.key i) (c.into_parts-key.ensures.clock i)) ∙ synced-is (state_of v) c.args.copy.key c.args.copy.clock in
    record {
      sound = subst (λ (keys : Keys). IsSound (record (state_of v) { keys = keys })) (sym keys) (sound-copied (state_of v) c.self.invariant.sound c.args.copy r.0);
      ready = subst (IsReadyFor _ _ _) (sym c.none.ensures) tt;
    }

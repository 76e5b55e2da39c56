use Rattle.std.proofs.Common.{◌≡◌, ◌∙◌, sym, ap, subst, refl}
use Rattle.std.specs.Prelude.{Some}
use Rattle.clock_store.specs.declared.store.Reaped.TheVariants.{Gone}
use Rattle.clock_store.specs.Forgetting.{reap_result}
use Rattle.vnode_core.specs.Plans.{View}
use Rattle.vnode_core.specs.Vnodes.{fields, IsReadyFor, state_of}
use Rattle.vnode_core.proofs.Reaping.{is-accepted}
use Rattle.vnode_core.proofs.vnode.VnodeOver.make_reap_ready.Goals as goal

pub invariant_of-self : goal.invariant_of-self
invariant_of-self g c =
    let v = fields c.self.inside.id c.self.inside.epochs c.self.inside.writes c.self.inside.tombstones c.self.inside.reaps (g.S.ClockStore.shows c.self.inside.store) c.self.inside.ready c.self.inside.prepared c.self.inside.closed in
    let opened = ap (λ (w : View). w.state.closed) c.self.view_is ∙ c.requires.opened in
    let gone : Gone ≡ reap_result (state_of v) c.args.key.now = sym c.in-Gone.is ∙ c.of.ensures (state_of v) c.args.key.now c.get.ensures in
    record {
      sound = c.self.invariant.sound;
      ready = subst (IsReadyFor (state_of v) v.store v.ready) (sym (c.some.ensures ∙ ap Some c.requires.is)) (opened, is-accepted (state_of v) c.args.key.now gone);
    }

pub returns-in-Gone-clause-plans : goal.returns-in-Gone-clause-plans
returns-in-Gone-clause-plans g c =
    let v = fields c.self.inside.id c.self.inside.epochs c.self.inside.writes c.self.inside.tombstones c.self.inside.reaps (g.S.ClockStore.shows c.self.inside.store) c.self.inside.ready c.self.inside.prepared c.self.inside.closed in
    let opened = ap (λ (w : View). w.state.closed) c.self.view_is ∙ c.requires.opened in
    let gone : Gone ≡ reap_result (state_of v) c.args.key.now = sym c.in-Gone.is ∙ c.of.ensures (state_of v) c.args.key.now c.get.ensures in
    record { is = refl; prepared = c.some.ensures ∙ ap Some c.requires.is; accepted = (opened, is-accepted (state_of v) c.args.key.now gone) }

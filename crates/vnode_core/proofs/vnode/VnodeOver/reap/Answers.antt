use Rattle.std.proofs.Common.{◌∙◌, sym, ap, subst}
use Rattle.vnode_core.specs.Vnodes.{fields, IsReadyFor, state_of}
use Rattle.clock_store.specs.declared.store.Reaped.TheVariants.{Gone}
use Rattle.vnode_core.proofs.Reaping.{gone-same, gone-not, gone-is, kept-is, sound-reap, register-reap}
use Rattle.vnode_core.proofs.vnode.VnodeOver.reap.Goals as goal

pub invariant_of-self : goal.invariant_of-self
invariant_of-self g c =
    let v = fields c.self.inside.id c.self.inside.epochs c.self.inside.writes c.self.inside.tombstones c.self.inside.reaps (g.S.ClockStore.shows c.self.inside.store) c.self.inside.ready c.self.inside.prepared c.self.inside.closed in
    let forgot = c.forget_dead-reaped in
    let gone = gone-same forgot.result (sym c.eq.ensures ∙ c.if-eq.true) in
    let exact = sym gone ∙ forgot.ensures.result in
    let leads = gone-is v c.args.key.now c.saturating_add-self-inside.result (g.S.ClockStore.shows forgot.new.self).keys c.saturating_add-self-inside.ensures exact forgot.ensures.keys in
    record {
      sound = sound-reap (state_of v) c.args.key.now Gone _ exact leads c.self.invariant.sound;
      ready = subst (IsReadyFor _ _ _) (sym (ap (λ w. w.prepared) c.self.view_is ∙ c.drop_prepared.ensures.ended)) tt;
    }

pub returns-then-eq-clause-register : goal.returns-then-eq-clause-register
returns-then-eq-clause-register g c =
    let v = fields c.self.inside.id c.self.inside.epochs c.self.inside.writes c.self.inside.tombstones c.self.inside.reaps (g.S.ClockStore.shows c.self.inside.store) c.self.inside.ready c.self.inside.prepared c.self.inside.closed in
    let forgot = c.forget_dead-reaped in
    let gone = gone-same forgot.result (sym c.eq.ensures ∙ c.if-eq.true) in
    let leads = gone-is v c.args.key.now c.saturating_add-self-inside.result (g.S.ClockStore.shows forgot.new.self).keys c.saturating_add-self-inside.ensures (sym gone ∙ forgot.ensures.result) forgot.ensures.keys in
    register-reap (state_of v) c.args.key.now forgot.result _ forgot.ensures.result leads c.self.invariant.sound c.args.self.now.state
    (ap (λ w. w.state) c.self.view_is ∙ c.drop_prepared.ensures.same)

pub returns-else-eq-clause-register : goal.returns-else-eq-clause-register
returns-else-eq-clause-register g c =
    let v = fields c.self.inside.id c.self.inside.epochs c.self.inside.writes c.self.inside.tombstones c.self.inside.reaps (g.S.ClockStore.shows c.self.inside.store) c.self.inside.ready c.self.inside.prepared c.self.inside.closed in
    let forgot = c.forget_dead-reaped in
    let leads = kept-is v c.args.key.now (g.S.ClockStore.shows forgot.new.self).keys forgot.result (gone-not forgot.result (sym c.eq.ensures ∙ c.if-eq.false)) forgot.ensures.result forgot.ensures.keys in
    register-reap (state_of v) c.args.key.now forgot.result _ forgot.ensures.result leads c.self.invariant.sound c.args.self.now.state
    (ap (λ w. w.state) c.self.view_is ∙ c.drop_prepared.ensures.same)

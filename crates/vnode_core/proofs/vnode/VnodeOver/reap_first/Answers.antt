use Rattle.std.proofs.Common.{◌∙◌, sym, ap, subst, drop}
use Rattle.riak_msgs.specs.Contents.{Content}
use Rattle.vnode_machine.specs.Dead.{dead_keys}
use Rattle.vnode_machine.specs.Machine.{State}
use Rattle.vnode_core.specs.Reaping.{key_given}
use Rattle.vnode_core.specs.Vnodes.{fields, IsReadyFor, state_of}
use Rattle.vnode_machine.specs.Sound.{IsSound}
use Rattle.vnode_core.proofs.Reaping.{first-gone, sound-first, left-first, register-first, none-found}
use Rattle.vnode_core.proofs.vnode.VnodeOver.reap_first.Goals as goal

pub invariant_of-self : goal.invariant_of-self
invariant_of-self g c =
    let v = fields c.self.inside.id c.self.inside.epochs c.self.inside.writes c.self.inside.tombstones c.self.inside.reaps (g.S.ClockStore.shows c.self.inside.store) c.self.inside.ready c.self.inside.prepared c.self.inside.closed in
    let forgot = c.forget_first_dead-found in
    let gone = first-gone v (key_given c.args.from) c.saturating_add-self-inside.result (g.S.ClockStore.shows forgot.new.self).keys c.saturating_add-self-inside.ensures
    (sym c.if-found.true ∙ forgot.ensures.found) forgot.ensures.keys in
    record {
      sound = subst IsSound (sym gone.is) (sound-first (state_of v) c.self.invariant.sound (key_given c.args.from) gone.key gone.first);
      ready = subst (IsReadyFor _ _ _) (sym (ap (λ w. w.prepared) c.self.view_is ∙ c.drop_prepared.ensures.ended)) tt;
    }

pub returns-then-found-clause-left : goal.returns-then-found-clause-left
returns-then-found-clause-left g c =
    let v = fields c.self.inside.id c.self.inside.epochs c.self.inside.writes c.self.inside.tombstones c.self.inside.reaps (g.S.ClockStore.shows c.self.inside.store) c.self.inside.ready c.self.inside.prepared c.self.inside.closed in
    let forgot = c.forget_first_dead-found in
    let from = key_given c.args.from in
    let gone = first-gone v from c.saturating_add-self-inside.result (g.S.ClockStore.shows forgot.new.self).keys c.saturating_add-self-inside.ensures (sym c.if-found.true ∙ forgot.ensures.found) forgot.ensures.keys in
    ap (λ (state : State Content). dead_keys state from) gone.is
    ∙ left-first (state_of v) c.self.invariant.sound from gone.key gone.first
    ∙ ap (λ state. drop 1 (dead_keys state from)) (ap (λ w. w.state) c.self.view_is ∙ c.drop_prepared.ensures.same)

pub returns-then-found-clause-register : goal.returns-then-found-clause-register
returns-then-found-clause-register g c =
    let v = fields c.self.inside.id c.self.inside.epochs c.self.inside.writes c.self.inside.tombstones c.self.inside.reaps (g.S.ClockStore.shows c.self.inside.store) c.self.inside.ready c.self.inside.prepared c.self.inside.closed in
    let forgot = c.forget_first_dead-found in
    let from = key_given c.args.from in
    let gone = first-gone v from c.saturating_add-self-inside.result (g.S.ClockStore.shows forgot.new.self).keys c.saturating_add-self-inside.ensures (sym c.if-found.true ∙ forgot.ensures.found) forgot.ensures.keys in
    register-first (state_of v) c.self.invariant.sound from gone.key gone.first _ gone.is c.args.self.now.state
    (ap (λ w. w.state) c.self.view_is ∙ c.drop_prepared.ensures.same)

pub returns-else-found-clause-register : goal.returns-else-found-clause-register
returns-else-found-clause-register g c = λ key first.
    let v = fields c.self.inside.id c.self.inside.epochs c.self.inside.writes c.self.inside.tombstones c.self.inside.reaps (g.S.ClockStore.shows c.self.inside.store) c.self.inside.ready c.self.inside.prepared c.self.inside.closed in
    absurd (none-found v (key_given c.args.from) (sym c.if-found.false ∙ c.forget_first_dead-found.ensures.found) c.args.self.now.state (ap (λ w. w.state) c.self.view_is ∙ c.drop_prepared.ensures.same) key first)

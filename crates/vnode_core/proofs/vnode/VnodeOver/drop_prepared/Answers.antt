use Rattle.std.proofs.Common.{◌∙◌, sym, ap, subst}
use Rattle.riak_msgs.specs.Contents.{Content}
use Rattle.vnode_machine.specs.Machine.{State}
use Rattle.vnode_machine.specs.Sound.{IsSound}
use Rattle.vnode_core.specs.Plans.{View, AcceptsPrepared}
use Rattle.clock_store.specs.Keys.{Keys}
use Rattle.vnode_core.specs.Vnodes.{fields, state_of, IsReadyFor}
use Rattle.vnode_core.proofs.Finishing.{accepts-prepared}
use Rattle.vnode_core.proofs.vnode.VnodeOver.drop_prepared.Goals as goal

pub invariant_of-self : goal.invariant_of-self
invariant_of-self g c =
    let v = fields c.self.inside.id c.self.inside.epochs c.self.inside.writes c.self.inside.tombstones c.self.inside.reaps (g.S.ClockStore.shows c.self.inside.store) c.self.inside.ready c.self.inside.prepared c.self.inside.closed in
    record {
      sound = subst (λ (keys : Keys). IsSound (record (state_of v) { keys = keys })) (sym c.give_up.ensures) c.self.invariant.sound;
      ready = subst (IsReadyFor _ _ _) (sym c.none.ensures) tt;
    }

pub returns-clause-same : goal.returns-clause-same
returns-clause-same g c =
    let v = fields c.self.inside.id c.self.inside.epochs c.self.inside.writes c.self.inside.tombstones c.self.inside.reaps (g.S.ClockStore.shows c.self.inside.store) c.self.inside.ready c.self.inside.prepared c.self.inside.closed in
    let with : Keys → State Content = λ keys. record (state_of v) { keys = keys } in
    ap with c.give_up.ensures ∙ ap (λ (w : View). w.state) c.self.view_is

pub returns-clause-ended : goal.returns-clause-ended
returns-clause-ended g c = c.none.ensures

pub returns-clause-sound : goal.returns-clause-sound
returns-clause-sound g c = subst (λ w. IsSound w.state) c.self.view_is c.self.invariant.sound

pub returns-clause-accepted : goal.returns-clause-accepted
returns-clause-accepted g c =
    let v = fields c.self.inside.id c.self.inside.epochs c.self.inside.writes c.self.inside.tombstones c.self.inside.reaps (g.S.ClockStore.shows c.self.inside.store) c.self.inside.ready c.self.inside.prepared c.self.inside.closed in
    subst AcceptsPrepared c.self.view_is (accepts-prepared v c.self.invariant)

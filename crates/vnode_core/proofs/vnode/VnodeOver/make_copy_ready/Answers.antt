use Rattle.std.proofs.Common.{◌∙◌, sym, ap, subst, refl}
use Rattle.std.specs.Prelude.{Some}
use Rattle.vnode_machine.specs.Sound.{IsSound}
use Rattle.vnode_core.specs.KeyCopies.{KeyCopyView}
use Rattle.vnode_core.specs.Plans.{View}
use Rattle.clock_store.specs.Contents.{Contents, HasSyncRoom}
use Rattle.clock_store.specs.Keys.{Keys}
use Rattle.clock_store.proofs.Founds.{stored_found}
use Rattle.vnode_core.specs.Checks.{found_in}
use Rattle.vnode_core.specs.Vnodes.{fields, state_of, IsReadyFor}
use Rattle.vnode_core.proofs.Copying.{few-actors, takes-copy}
use Rattle.vnode_core.proofs.vnode.VnodeOver.make_copy_ready.Goals as goal

pub reserve_sync-requires-clause-few : goal.reserve_sync-requires-clause-few
reserve_sync-requires-clause-few g c =
    let v = fields c.self.inside.id c.self.inside.epochs c.self.inside.writes c.self.inside.tombstones c.self.inside.reaps (g.S.ClockStore.shows c.self.inside.store) c.self.inside.ready c.self.inside.prepared c.self.inside.closed in
    let here = ap found_in c.stored_in.ensures ∙ stored_found c.find-found.result ∙ c.find-found.ensures.stored in
    few-actors (state_of v) c.key-key.result.now c.clock-clock.result.now.meaning
    (sym (c.is_stuck.ensures (state_of v) c.key-key.result.now here) ∙ c.if-is_stuck.false)

pub invariant_of-self-2 : goal.invariant_of-self-2
invariant_of-self-2 g c =
    let v = fields c.self.inside.id c.self.inside.epochs c.self.inside.writes c.self.inside.tombstones c.self.inside.reaps (g.S.ClockStore.shows c.self.inside.store) c.self.inside.ready c.self.inside.prepared c.self.inside.closed in
    let copy : KeyCopyView = c.args.copy.now in
    let store : Contents = g.S.ClockStore.shows c.reserve_sync.new.self in
    let here = ap found_in c.stored_in.ensures ∙ stored_found c.find-found.result ∙ c.find-found.ensures.stored in
    let unstuck = sym (c.is_stuck.ensures (state_of v) c.key-key.result.now here) ∙ c.if-is_stuck.false in
    let opened = ap (λ (w : View). w.state.closed) c.self.view_is ∙ c.requires.opened in
    let accepted = takes-copy (state_of v) store.keys copy c.key-key.result.now c.clock-clock.result.now.meaning c.key-key.ensures c.clock-clock.ensures.meaning c.clock-clock.ensures.form opened unstuck c.reserve_sync.ensures.same in
    let room : HasSyncRoom store copy.key copy.clock =
    subst (λ clock. HasSyncRoom store copy.key clock) c.clock-clock.ensures.meaning (subst (λ key. HasSyncRoom store key c.clock-clock.result.now.meaning) c.key-key.ensures c.in_ok-reserve_sync.ensures.ok) in
    record {
      sound = subst (λ (keys : Keys). IsSound (record (state_of v) { keys = keys })) (sym c.reserve_sync.ensures.same) c.self.invariant.sound;
      ready = subst (IsReadyFor (record (state_of v) { keys = store.keys }) store v.ready) (sym (c.some.ensures ∙ ap Some c.requires.is)) (accepted, room);
    }

pub returns-clause-ok : goal.returns-clause-ok
returns-clause-ok g c =
    let v = fields c.self.inside.id c.self.inside.epochs c.self.inside.writes c.self.inside.tombstones c.self.inside.reaps (g.S.ClockStore.shows c.self.inside.store) c.self.inside.ready c.self.inside.prepared c.self.inside.closed in
    let store : Contents = g.S.ClockStore.shows c.reserve_sync.new.self in
    let here = ap found_in c.stored_in.ensures ∙ stored_found c.find-found.result ∙ c.find-found.ensures.stored in
    let unstuck = sym (c.is_stuck.ensures (state_of v) c.key-key.result.now here) ∙ c.if-is_stuck.false in
    let opened = ap (λ (w : View). w.state.closed) c.self.view_is ∙ c.requires.opened in
    record {
      is = refl;
      prepared = c.some.ensures ∙ ap Some c.requires.is;
      accepted = takes-copy (state_of v) store.keys c.args.copy.now c.key-key.result.now c.clock-clock.result.now.meaning c.key-key.ensures c.clock-clock.ensures.meaning c.clock-clock.ensures.form opened unstuck c.reserve_sync.ensures.same;
    }

use Rattle.std.proofs.Common.{◌∙◌, sym, ap, subst}
use Rattle.std.specs.Prelude.{Some}
use Rattle.std.specs.Option.{option_map}
use Rattle.riak_msgs.specs.Contents.{Content}
use Rattle.actor_epoch.specs.declared.Actor.{Actor}
use Rattle.actor_epoch.specs.Given.{Pairs, context_of}
use Rattle.dvv_set.specs.Held.{IsWithin, pairs_of as seen_in}
use Rattle.vnode_machine.specs.Machine.{State, clock_of, stored}
use Rattle.clock_store.proofs.Founds.{stored_found}
use Rattle.clock_store.specs.Keys.{Keys}
use Rattle.vnode_core.specs.Vnodes.{fields, state_of, IsReadyFor}
use Rattle.vnode_core.specs.Checks.{found_in}
use Rattle.vnode_machine.specs.Sound.{IsSound}
use Rattle.vnode_core.specs.Plans.{View}
use Rattle.vnode_core.specs.declared.checks.Writer.{Writer}
use Rattle.vnode_core.proofs.Putting.{within-put}
use Rattle.vnode_core.proofs.Finishing.{put-ready}
use Rattle.vnode_core.proofs.vnode.VnodeOver.make_put_ready.Goals as goal

pub plan_put-requires-clause-found : goal.plan_put-requires-clause-found
plan_put-requires-clause-found g c =
    ap found_in c.stored_in.ensures ∙ stored_found c.find-found.result ∙ c.find-found.ensures.stored ∙ ap (λ w. stored w.state c.args.put.now.key) c.self.view_is

pub reserve-requires-clause-place : goal.reserve-requires-clause-place
reserve-requires-clause-place g c = c.place_in-place.ensures ∙ c.find-found.ensures.place

pub reserve-requires-clause-fits : goal.reserve-requires-clause-fits
reserve-requires-clause-fits g c =
    let state : State Content = c.args.self.now.state in
    let put = c.args.put.now in
    let seen = seen_in c.as_ref-seen.result in
    let is : IsSound state = subst (λ w. IsSound w.state) c.self.view_is c.self.invariant.sound in
    let given = ap context_of (sym c.as_slice.ensures) ∙ c.in_ok-context.ensures.ok ∙ ap (option_map Pairs) (sym c.as_ref-seen.ensures.value) in
    let within = within-put state is put c.in_ok-ready.ensures.ok.free seen given in
    subst (λ w. IsWithin (clock_of w.state put.key).known seen c.in_ok-ready.ready.writer.actor) (sym c.self.view_is)
    (subst (λ (actor : Actor). IsWithin (clock_of state put.key).known seen actor) (sym (ap (λ (w : Writer). w.actor) c.in_ok-ready.ensures.ok.writer)) within)

pub invariant_of-self : goal.invariant_of-self
invariant_of-self g c =
    let v = fields c.self.inside.id c.self.inside.epochs c.self.inside.writes c.self.inside.tombstones c.self.inside.reaps (g.S.ClockStore.shows c.self.inside.store) c.self.inside.ready c.self.inside.prepared c.self.inside.closed in
    let given = ap context_of (sym c.as_slice.ensures) ∙ c.in_ok-context.ensures.ok ∙ ap (option_map Pairs) (sym c.as_ref-seen.ensures.value) in
    put-ready v c.self.invariant.sound c.args.self.now c.self.view_is (ap (λ (w : View). w.state.closed) c.self.view_is ∙ c.requires.opened) c.args.put.now c.in_ok-ready.ready c.in_ok-ready.ensures.ok (seen_in c.as_ref-seen.result) given
    (g.S.ClockStore.shows c.reserve.new.self) c.reserve.ensures.same c.in-Ok.ensures.ok c.set_ready.new.place c.set_ready.ensures c.some.result (c.some.ensures ∙ ap Some c.requires.is)

pub invariant_of-self-in-Err : goal.invariant_of-self-in-Err
invariant_of-self-in-Err g c =
    let v = fields c.self.inside.id c.self.inside.epochs c.self.inside.writes c.self.inside.tombstones c.self.inside.reaps (g.S.ClockStore.shows c.self.inside.store) c.self.inside.ready c.self.inside.prepared c.self.inside.closed in
    let unprepared = ap (λ (w : View). w.prepared) c.self.view_is ∙ c.requires.ended in
    record {
      sound = subst (λ (keys : Keys). IsSound (record (state_of v) { keys = keys })) (sym c.reserve.ensures.same) c.self.invariant.sound;
      ready = subst (IsReadyFor _ _ _) (sym unprepared) tt;
    }

pub returns-in-Err-clause-same : goal.returns-in-Err-clause-same
returns-in-Err-clause-same g c =
    let v = fields c.self.inside.id c.self.inside.epochs c.self.inside.writes c.self.inside.tombstones c.self.inside.reaps (g.S.ClockStore.shows c.self.inside.store) c.self.inside.ready c.self.inside.prepared c.self.inside.closed in
    let with : Keys → State Content = λ keys. record (state_of v) { keys = keys } in
    ap with c.reserve.ensures.same ∙ ap (λ (w : View). w.state) c.self.view_is

pub returns-in-Ok-clause-same : goal.returns-in-Ok-clause-same
returns-in-Ok-clause-same g c =
    let v = fields c.self.inside.id c.self.inside.epochs c.self.inside.writes c.self.inside.tombstones c.self.inside.reaps (g.S.ClockStore.shows c.self.inside.store) c.self.inside.ready c.self.inside.prepared c.self.inside.closed in
    let with : Keys → State Content = λ keys. record (state_of v) { keys = keys } in
    ap with c.reserve.ensures.same ∙ ap (λ (w : View). w.state) c.self.view_is

pub returns-in-Err-clause-ended : goal.returns-in-Err-clause-ended
returns-in-Err-clause-ended g c =
    ap (λ (w : View). w.prepared) c.self.view_is ∙ c.requires.ended

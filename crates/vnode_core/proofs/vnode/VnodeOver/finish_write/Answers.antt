use Rattle.std.proofs.Common.{◌∙◌, sym, ap, subst}
use Rattle.vnode_core.specs.Plans.{View}
use Rattle.vnode_core.specs.Vnodes.{fields, IsReadyFor}
use Rattle.vnode_core.proofs.Finishing.{finished, answered-as, form-prepared}
use Rattle.vnode_core.proofs.vnode.VnodeOver.finish_write.Goals as goal

pub write-requires-clause-form : goal.write-requires-clause-form
write-requires-clause-form g c =
    let v = fields c.self.inside.id c.self.inside.epochs c.self.inside.writes c.self.inside.tombstones c.self.inside.reaps (g.S.ClockStore.shows c.self.inside.store) c.self.inside.ready c.self.inside.prepared c.self.inside.closed in
    form-prepared v c.self.invariant c.args.ask c.requires.write (ap (λ (w : View). w.prepared) c.self.view_is ∙ c.requires.prepared)

pub invariant_of-self : goal.invariant_of-self
invariant_of-self g c =
    let v = fields c.self.inside.id c.self.inside.epochs c.self.inside.writes c.self.inside.tombstones c.self.inside.reaps (g.S.ClockStore.shows c.self.inside.store) c.self.inside.ready c.self.inside.prepared c.self.inside.closed in
    let f = finished v c.self.invariant c.args.self.now c.self.view_is c.args.ask c.requires.write c.requires.prepared c.in-Some.field-0 (sym c.take.ensures.value ∙ c.in-Some.is)
    c.after-self-inside.result c.writes_after-self-inside.result c.tombstones_after-self-inside.result (g.S.ClockStore.shows c.write.new.store).keys c.after-self-inside.ensures c.writes_after-self-inside.ensures c.tombstones_after-self-inside.ensures c.write.ensures in
    record { sound = f.sound; ready = subst (IsReadyFor _ _ _) (sym c.none.ensures) tt }

pub returns-clause-step : goal.returns-clause-step
returns-clause-step g c =
    let v = fields c.self.inside.id c.self.inside.epochs c.self.inside.writes c.self.inside.tombstones c.self.inside.reaps (g.S.ClockStore.shows c.self.inside.store) c.self.inside.ready c.self.inside.prepared c.self.inside.closed in
    let f = finished v c.self.invariant c.args.self.now c.self.view_is c.args.ask c.requires.write c.requires.prepared c.in-Some.field-0 (sym c.take.ensures.value ∙ c.in-Some.is)
    c.after-self-inside.result c.writes_after-self-inside.result c.tombstones_after-self-inside.result (g.S.ClockStore.shows c.write.new.store).keys c.after-self-inside.ensures c.writes_after-self-inside.ensures c.tombstones_after-self-inside.ensures c.write.ensures in
    (answered-as _ _ _ _ _ c.into_answer.ensures f).step

pub returns-clause-register : goal.returns-clause-register
returns-clause-register g c =
    let v = fields c.self.inside.id c.self.inside.epochs c.self.inside.writes c.self.inside.tombstones c.self.inside.reaps (g.S.ClockStore.shows c.self.inside.store) c.self.inside.ready c.self.inside.prepared c.self.inside.closed in
    let f = finished v c.self.invariant c.args.self.now c.self.view_is c.args.ask c.requires.write c.requires.prepared c.in-Some.field-0 (sym c.take.ensures.value ∙ c.in-Some.is)
    c.after-self-inside.result c.writes_after-self-inside.result c.tombstones_after-self-inside.result (g.S.ClockStore.shows c.write.new.store).keys c.after-self-inside.ensures c.writes_after-self-inside.ensures c.tombstones_after-self-inside.ensures c.write.ensures in
    (answered-as _ _ _ _ _ c.into_answer.ensures f).register

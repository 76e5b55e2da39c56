use Rattle.std.proofs.Common.{◌≡◌, ◌∙◌, refl, sym, ap, subst}
use Rattle.std.specs.Prelude.{None}
use Rattle.vnode_machine.specs.Machine.{stored}
use Rattle.vnode_core.specs.Checks.{found_in, writer_of}
use Rattle.vnode_core.specs.Vnodes.{fields, state_of, del_check_by}
use Rattle.vnode_core.proofs.Options.{formed-found}
use Rattle.vnode_core.proofs.SoleWrites.{del-free}
use Rattle.vnode_core.proofs.vnode.VnodeOver.check_del.Goals as goal

pub check_room-requires-clause-form : goal.check_room-requires-clause-form
check_room-requires-clause-form g c =
    let v = fields c.self.inside.id c.self.inside.epochs c.self.inside.writes c.self.inside.tombstones c.self.inside.reaps (g.S.ClockStore.shows c.self.inside.store) c.self.inside.ready c.self.inside.prepared c.self.inside.closed in
    formed-found (state_of v) c.self.invariant.sound c.args.key.now _ (c.requires ∙ ap (λ w. stored w.state c.args.key.now) (sym c.self.view_is))

pub check_room-requires-clause-last : goal.check_room-requires-clause-last
check_room-requires-clause-last g c = c.last_of-last.ensures

pub returns-in-Some-clause-given : goal.returns-in-Some-clause-given
returns-in-Some-clause-given g c =
    let v = fields c.self.inside.id c.self.inside.epochs c.self.inside.writes c.self.inside.tombstones c.self.inside.reaps (g.S.ClockStore.shows c.self.inside.store) c.self.inside.ready c.self.inside.prepared c.self.inside.closed in
    let here = sym (c.requires ∙ ap (λ w. stored w.state c.args.key.now) (sym c.self.view_is)) in
    let is = c.in-Some.ensures (state_of v) c.args.key.now here refl (sym c.last-last_epoch.ensures) in
    subst (λ w. del_check_by w.state c.args.key.now c.args.context.now ≡ None) c.self.view_is (del-free (state_of v) c.args.key.now c.args.context.now (found_in c.args.found) here c.in-Some.writer is)

pub returns-in-Some-clause-writer : goal.returns-in-Some-clause-writer
returns-in-Some-clause-writer g c =
    let v = fields c.self.inside.id c.self.inside.epochs c.self.inside.writes c.self.inside.tombstones c.self.inside.reaps (g.S.ClockStore.shows c.self.inside.store) c.self.inside.ready c.self.inside.prepared c.self.inside.closed in
    let here = sym (c.requires ∙ ap (λ w. stored w.state c.args.key.now) (sym c.self.view_is)) in
    let is = c.in-Some.ensures (state_of v) c.args.key.now here refl (sym c.last-last_epoch.ensures) in
    subst (λ w. c.in-Some.writer ≡ writer_of w.state c.args.key.now) c.self.view_is is.makes

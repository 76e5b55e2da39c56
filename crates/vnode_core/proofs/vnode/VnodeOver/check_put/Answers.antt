use Rattle.std.proofs.Common.{◌≡◌, ◌∙◌, refl, sym, ap, subst}
use Rattle.std.specs.Prelude.{None}
use Rattle.std.proofs.lemmas.Result.{err_from_is_err_and}
use Rattle.std.specs.Option.{option_map}
use Rattle.std.specs.List.{list_any}
use Rattle.vnode_machine.specs.Asks.{put_command}
use Rattle.vnode_machine.specs.Machine.{stored, put_check}
use Rattle.dvv_set.specs.Held.{pairs_of as seen_in}
use Rattle.vnode_core.specs.Checks.{is_ahead, pairs_in, writer_of}
use Rattle.vnode_core.specs.Refusals.{RefusedBy, GivenBy}
use Rattle.clock_store.specs.Keys.{stored_of}
use Rattle.vnode_machine.specs.Sound.{IsSound}
use Rattle.vnode_core.specs.Vnodes.{fields, state_of}
use Rattle.vnode_core.proofs.Options.{options-refuse, rooms-follow, formed-found}
use Rattle.vnode_core.proofs.vnode.VnodeOver.check_put.Goals as goal

pub returns-in-Some-clause-given : goal.returns-in-Some-clause-given
returns-in-Some-clause-given g c =
    let v = fields c.self.inside.id c.self.inside.epochs c.self.inside.writes c.self.inside.tombstones c.self.inside.reaps (g.S.ClockStore.shows c.self.inside.store) c.self.inside.ready c.self.inside.prepared c.self.inside.closed in
    let here = c.requires.found ∙ ap (λ w. stored w.state c.args.put.now.key) (sym c.self.view_is) in
    let is = c.in-Some.ensures (state_of v) (sym here) refl (sym c.last-last_epoch.ensures) c.requires.given in
    subst (λ w. put_check w.state (put_command c.args.put.now) ≡ None) c.self.view_is is.free

pub returns-in-Some-clause-writer : goal.returns-in-Some-clause-writer
returns-in-Some-clause-writer g c =
    let v = fields c.self.inside.id c.self.inside.epochs c.self.inside.writes c.self.inside.tombstones c.self.inside.reaps (g.S.ClockStore.shows c.self.inside.store) c.self.inside.ready c.self.inside.prepared c.self.inside.closed in
    let here = c.requires.found ∙ ap (λ w. stored w.state c.args.put.now.key) (sym c.self.view_is) in
    let is = c.in-Some.ensures (state_of v) (sym here) refl (sym c.last-last_epoch.ensures) c.requires.given in
    subst (λ w. c.in-Some.writer ≡ writer_of w.state c.args.put.now.key) c.self.view_is is.makes

pub returns-in-Some-clause-sound : goal.returns-in-Some-clause-sound
returns-in-Some-clause-sound g c = subst (λ w. IsSound w.state) c.self.view_is c.self.invariant.sound

pub returns-in_err-check_options-clause-given : goal.returns-in_err-check_options-clause-given
returns-in_err-check_options-clause-given g c =
    let v = fields c.self.inside.id c.self.inside.epochs c.self.inside.writes c.self.inside.tombstones c.self.inside.reaps (g.S.ClockStore.shows c.self.inside.store) c.self.inside.ready c.self.inside.prepared c.self.inside.closed in
    let here = c.requires.found ∙ ap (λ w. stored w.state c.args.put.now.key) (sym c.self.view_is) in
    let p = err_from_is_err_and c.from_residual.result c.from_residual.ensures.1 in
    let found = option_map (λ s. stored_of s.now) c.args.found in
    let behind = (λ i. list_any (is_ahead v.id (sym c.last-last_epoch.ensures i) (sym c.last_of-last.ensures i)) (pairs_in (seen_in c.args.context)))
    ∙ sym c.names_unissued_dot.ensures.ahead ∙ c.if-names_unissued_dot.false in
    rw (p.1, p.2)
    (subst (λ w. RefusedBy c.in_err-check_options.field-0.0 (put_check w.state (put_command c.args.put.now))) c.self.view_is
    (options-refuse (state_of v) c.args.put.now (seen_in c.args.context) c.requires.given c.names_unissued_dot.ensures.read found here
    behind c.in_err-check_options.field-0.0 c.in_err-check_options.ensures))

pub check_room-requires-clause-form : goal.check_room-requires-clause-form
check_room-requires-clause-form g c =
    let v = fields c.self.inside.id c.self.inside.epochs c.self.inside.writes c.self.inside.tombstones c.self.inside.reaps (g.S.ClockStore.shows c.self.inside.store) c.self.inside.ready c.self.inside.prepared c.self.inside.closed in
    let here = c.requires.found ∙ ap (λ w. stored w.state c.args.put.now.key) (sym c.self.view_is) in
    formed-found (state_of v) c.self.invariant.sound c.args.put.now.key _ here

pub returns-clause-given : goal.returns-clause-given
returns-clause-given g c =
    let v = fields c.self.inside.id c.self.inside.epochs c.self.inside.writes c.self.inside.tombstones c.self.inside.reaps (g.S.ClockStore.shows c.self.inside.store) c.self.inside.ready c.self.inside.prepared c.self.inside.closed in
    let here = c.requires.found ∙ ap (λ w. stored w.state c.args.put.now.key) (sym c.self.view_is) in
    let found = option_map (λ s. stored_of s.now) c.args.found in
    let behind = (λ i. list_any (is_ahead v.id (sym c.last-last_epoch.ensures i) (sym c.last_of-last.ensures i)) (pairs_in (seen_in c.args.context)))
    ∙ sym c.names_unissued_dot.ensures.ahead ∙ c.if-names_unissued_dot.false in
    subst (λ w. GivenBy c.check_room.result (put_check w.state (put_command c.args.put.now))) c.self.view_is
    (subst (λ check. GivenBy c.check_room.result check)
    (sym (rooms-follow (state_of v) c.args.put.now (seen_in c.args.context) c.requires.given c.names_unissued_dot.ensures.read found here behind c.in_ok-check_options.ensures))
    (c.check_room.ensures.given (state_of v) c.args.put.now.key
    (record { stored = sym here; vnode = refl; epoch = sym c.last-last_epoch.ensures; behind = sym (ap (λ last. list_any (is_ahead v.id c.last-last_epoch.result last) (pairs_in (seen_in c.args.context))) c.last_of-last.ensures) ∙ sym c.names_unissued_dot.ensures.ahead ∙ c.if-names_unissued_dot.false })))

pub returns-then-names_unissued_dot-clause-sound : goal.returns-then-names_unissued_dot-clause-sound
returns-then-names_unissued_dot-clause-sound g c = subst (λ w. IsSound w.state) c.self.view_is c.self.invariant.sound

pub returns-in_err-check_options-clause-sound : goal.returns-in_err-check_options-clause-sound
returns-in_err-check_options-clause-sound g c = subst (λ w. IsSound w.state) c.self.view_is c.self.invariant.sound

pub returns-clause-sound : goal.returns-clause-sound
returns-clause-sound g c = subst (λ w. IsSound w.state) c.self.view_is c.self.invariant.sound

pub check_room-requires-clause-last : goal.check_room-requires-clause-last
check_room-requires-clause-last g c = c.last_of-last.ensures

use Rattle.std.proofs.Common.{◌≡◌, ◌∙◌, sym, ap, subst}
use Rattle.std.specs.Option.{option_map}
use Rattle.riak_msgs.specs.Requests.{unconditional_get}
use Rattle.sibling_register.specs.Answers.{AskGet}
use Rattle.vnode_machine.specs.Asks.{get_command}
use Rattle.riak_msgs.specs.Contents.{Content}
use Rattle.vnode_machine.specs.Machine.{State}
use Rattle.vnode_machine.specs.Step.{outcome, Answered, GetDone}
use Rattle.clock_store.specs.Keys.{stored_of}
use Rattle.vnode_core.specs.Vnodes.{fields, state_of}
use Rattle.vnode_core.proofs.Sound.{registers-view}
use Rattle.vnode_core.proofs.Showing.{get-absent, get-stored}
use Rattle.vnode_core.proofs.vnode.VnodeOver.show_short.Goals as goal

pub returns-in-None-clause-register : goal.returns-in-None-clause-register
returns-in-None-clause-register g c =
    let v = fields c.self.inside.id c.self.inside.epochs c.self.inside.writes c.self.inside.tombstones c.self.inside.reaps (g.S.ClockStore.shows c.self.inside.store) c.self.inside.ready c.self.inside.prepared c.self.inside.closed in
    registers-view (state_of v) c.args.self.now.state (ap (λ v. v.state) c.self.view_is) c.self.invariant.sound (AskGet (get_command (unconditional_get c.args.key))) (Answered (GetDone c.nothing.result))
    (ap (λ reply. Answered (GetDone reply))
    (get-absent (state_of v) (unconditional_get c.args.key) (sym c.get_short.ensures ∙ ap (option_map (λ s. stored_of s.now)) c.in-None.is) ∙ sym c.nothing.ensures))

pub returns-in-Some-clause-register : goal.returns-in-Some-clause-register
returns-in-Some-clause-register g c =
    let v = fields c.self.inside.id c.self.inside.epochs c.self.inside.writes c.self.inside.tombstones c.self.inside.reaps (g.S.ClockStore.shows c.self.inside.store) c.self.inside.ready c.self.inside.prepared c.self.inside.closed in
    registers-view (state_of v) c.args.self.now.state (ap (λ v. v.state) c.self.view_is) c.self.invariant.sound (AskGet (get_command (unconditional_get c.args.key))) (Answered (GetDone c.whole.result))
    (ap (λ reply. Answered (GetDone reply))
    (get-stored (state_of v) (unconditional_get c.args.key) (stored_of c.in-Some.key.now) (sym c.get_short.ensures ∙ ap (option_map (λ s. stored_of s.now)) c.in-Some.is)
    ∙ sym (c.whole.ensures c.args.key)))

pub returns-in-Some-clause-shows : goal.returns-in-Some-clause-shows
returns-in-Some-clause-shows g c =
    let v = fields c.self.inside.id c.self.inside.epochs c.self.inside.writes c.self.inside.tombstones c.self.inside.reaps (g.S.ClockStore.shows c.self.inside.store) c.self.inside.ready c.self.inside.prepared c.self.inside.closed in
    let get = unconditional_get c.args.key in
    subst (λ (state : State Content). outcome state (AskGet (get_command get)) ≡ Answered (GetDone c.whole.result)) (ap (λ v. v.state) c.self.view_is)
    (ap (λ reply. Answered (GetDone reply))
    (get-stored (state_of v) get (stored_of c.in-Some.key.now) (sym c.get_short.ensures ∙ ap (option_map (λ s. stored_of s.now)) c.in-Some.is)
    ∙ sym (c.whole.ensures c.args.key)))

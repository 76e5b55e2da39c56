-- A vnode behind a gate is sound at each position of its history.
use Rattle.std.proofs.Common.{List, [], ◌∷◌, sym, subst}
use Rattle.std.specs.Prelude.{Option}
use Rattle.riak_msgs.specs.Contents.{Content}
use Rattle.vnode_machine.specs.Copying.{is_stuck}
use Rattle.vnode_machine.specs.Machine.{State}
use Rattle.vnode_machine.specs.Sound.{IsSound}
use Rattle.vnode_machine.proofs.Copying.{sound-copy, sound-close}
use Rattle.vnode_machine.proofs.Formed.{sound-opening, sound-next}
use Rattle.rw_gate.specs.Machines.{MachineRun}
use Rattle.rw_gate.specs.Views.{GateId}
use Rattle.vnode_core.specs.declared.entry.Entry.{Entry}
use Rattle.vnode_core.specs.declared.entry.Entry.TheVariants.{Command, Copied, Closed}
use Rattle.vnode_core.specs.Events.{Makes, event_command}
use Rattle.vnode_core.specs.Plans.{View}
use Rattle.handoff.specs.Sights.{LeadsVnodeTo, IsOfVnode}
use Rattle.vnode_core.proofs.Sound.{untrue}

-- an entry that is taken keeps a state sound
sound-entry : (state next : State Content) (entry : Entry) → IsSound state → Makes state entry next → IsSound next
sound-entry state next (Command event) sound (opened, made) = sound-next state sound (event_command event) _ _ next made
sound-entry state next (Copied copy) sound (opened, (form, unstuck, made)) =
    subst IsSound (sym made) (sound-copy state sound copy.key copy.clock form (untrue (is_stuck state copy.key copy.clock) unstuck))
sound-entry state next (Closed number) sound (opened, made) = subst IsSound (sym made) (sound-close state sound number)

sound-run : (entries : List Entry) (first last : State Content) → IsSound first → MachineRun Makes first entries last → IsSound last
sound-run [] first last sound is = subst IsSound is sound
sound-run (entry ∷ entries) first last sound (mid, makes, run) = sound-run entries mid last (sound-entry first mid entry sound makes) run

pub gate-sound : (gate : GateId View) (history : List Entry) (state : State Content) → IsOfVnode gate → LeadsVnodeTo gate history state → IsSound state
gate-sound gate history state of leads =
    let first = of.made_new.first in
    let run : MachineRun Makes first.state history state = subst (λ (o : Option View). LeadsVnodeTo (record { book = gate.book; opening = o }) history state) of.made_new.made leads in
    sound-run history first.state state (subst IsSound (sym of.made_new.new) (sound-opening of.id of.last_epoch of.limits)) run

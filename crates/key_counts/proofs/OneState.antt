-- A history leads a vnode to one state.
use Rattle.std.proofs.Common.{◌≡◌, ◌∙◌, List, [], ◌∷◌, sym, subst}
use Rattle.std.specs.Prelude.{Option, Some, None}
use Rattle.riak_msgs.specs.Contents.{Content}
use Rattle.rw_gate.specs.Histories.{RunFrom}
use Rattle.rw_gate.specs.Machines.{MachineRun}
use Rattle.vnode_machine.specs.Step.{Accepted}
use Rattle.vnode_core.specs.declared.entry.Entry.{Entry}
use Rattle.vnode_core.specs.declared.entry.Entry.TheVariants.{Command as Commanded, Copied, Closed}
use Rattle.vnode_core.specs.Events.{Makes, event_deed, event_response}
use Rattle.vnode_core.specs.Left.{State}
use Rattle.handoff.specs.Partitions.{GateId, View}
use Rattle.handoff.specs.Sights.{LeadsVnodeTo, state_of}

-- an entry leads from a state to one state, and so does a run
makes_one : (state : State Content) (entry : Entry) (s t : State Content) → Makes state entry s → Makes state entry t → s ≡ t
makes_one state (Commanded event) s t (opened, a) (also, b) =
    let same : Accepted (event_deed event) (event_response event) s ≡ Accepted (event_deed event) (event_response event) t = sym a ∙ b in cc (same)
makes_one state (Copied copy) s t (opened, a) (also, b) = a.2 ∙ sym b.2
makes_one state (Closed number) s t (opened, a) (also, b) = a ∙ sym b

run_one : (entries : List Entry) (first s t : State Content) → MachineRun Makes first entries s → MachineRun Makes first entries t → s ≡ t
run_one [] first s t a b = sym a ∙ b
run_one (entry ∷ entries) first s t (mid, makes, rest) (also, makes_also, rest_also) =
    let same : also ≡ mid = makes_one first entry also mid makes_also makes in
    run_one entries mid s t rest (subst (λ m. MachineRun Makes m entries t) same rest_also)

pub leads_to_one : (gate : GateId View) (entries : List Entry) (s t : State Content) → LeadsVnodeTo gate entries s → LeadsVnodeTo gate entries t → s ≡ t
leads_to_one gate entries s t a b = by gate.opening a b where
  by : (first : Option View) → RunFrom state_of Makes first entries s → RunFrom state_of Makes first entries t → s ≡ t
  by None a b = absurd a
  by (Some first) a b = run_one entries first.state s t a b

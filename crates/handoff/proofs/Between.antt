-- Where a vnode counts no command more than before and isn't closed, only copies came.
use Rattle.std.proofs.Common.{◌≡◌, ◌∙◌, ◌+◌, ◌<◌, ◌≤◌, ◌-◌, ◌^◌, ◌++◌, ℕ, List, [], ◌∷◌, refl, sym, ap, subst, arith}
use Rattle.std.specs.Prelude.{Option, Some, None}
use Rattle.riak_msgs.specs.declared.Key.{Key}
use Rattle.riak_msgs.specs.Contents.{Content}
use Rattle.sibling_register.specs.History.{Operation, Write, Tombstone, Reap}
use Rattle.actor_epoch.specs.Given.{Context}
use Rattle.vnode_machine.specs.Machine.{State, apply_operation}
use Rattle.vnode_machine.specs.Registers.{key_of, context_in_ask}
use Rattle.vnode_machine.specs.Step.{Accepted}
use Rattle.rw_gate.specs.Machines.{MachineRun}
use Rattle.rw_gate.specs.Histories.{RunFrom}
use Rattle.rw_gate.specs.Views.{GateId}
use Rattle.vnode_core.specs.declared.entry.Entry.{Entry}
use Rattle.vnode_core.specs.declared.entry.Entry.TheVariants.{Command, Copied, Closed}
use Rattle.vnode_core.specs.declared.event.VnodeEvent.{VnodeEvent}
use Rattle.vnode_core.specs.KeyCopies.{KeyCopyView}
use Rattle.vnode_core.specs.Events.{Makes, event_command, event_deed, event_response}
use Rattle.vnode_core.specs.Plans.{View}
use Rattle.handoff.specs.declared.gates.Start.{Start}
use Rattle.handoff.specs.Sights.{Sight, LeadsVnodeTo, ShowsState, state_of}
use Rattle.handoff.specs.Started.{HasStayed, IsStartOf, TookCopiesAlone, all_copies, commands_counted}
use Rattle.handoff.proofs.Joined.{command-applies}

-- no count is at its stop
pub record IsBelowStop (state : State Content) : Type 0 where
  pub writes : state.writes < 2 ^ 64 - 1
  pub tombstones : state.tombstones < 2 ^ 64 - 1
  pub reaps : state.reaps < 2 ^ 64 - 1

-- no count falls
pub record IsAtLeast (s m : State Content) : Type 0 where
  pub writes : s.writes ≤ m.writes
  pub tombstones : s.tombstones ≤ m.tombstones
  pub reaps : s.reaps ≤ m.reaps

operation-keeps : (s : State Content) (key : Key) (context : Option Context) (operation : Operation Content) → IsBelowStop (apply_operation s key context operation)
    → IsAtLeast s (apply_operation s key context operation) × (commands_counted (apply_operation s key context operation) ≡ commands_counted s + 1)
operation-keeps s key context (Write content) below = let b = below.writes in (record { writes = omega (arith, b); tombstones = omega arith; reaps = omega arith }, omega (arith, b))
operation-keeps s key context Tombstone below = let b = below.tombstones in (record { writes = omega arith; tombstones = omega (arith, b); reaps = omega arith }, omega (arith, b))
operation-keeps s key context Reap below = let b = below.reaps in (record { writes = omega arith; tombstones = omega arith; reaps = omega (arith, b) }, omega (arith, b))

below-before : (s m : State Content) → IsAtLeast s m → IsBelowStop m → IsBelowStop s
below-before s m least below =
    let a = least.writes in let b = least.tombstones in let c = least.reaps in
    let x = below.writes in let y = below.tombstones in let z = below.reaps in
    record { writes = omega (arith, a, x); tombstones = omega (arith, b, y); reaps = omega (arith, c, z) }

least-trans : (s m t : State Content) → IsAtLeast s m → IsAtLeast m t → IsAtLeast s t
least-trans s m t one two =
    let a = one.writes in let b = one.tombstones in let c = one.reaps in
    let x = two.writes in let y = two.tombstones in let z = two.reaps in
    record { writes = omega (arith, a, x); tombstones = omega (arith, b, y); reaps = omega (arith, c, z) }

same-least : (s m : State Content) → s.writes ≡ m.writes → s.tombstones ≡ m.tombstones → s.reaps ≡ m.reaps → IsAtLeast s m
same-least s m a b c = record { writes = omega (arith, a); tombstones = omega (arith, b); reaps = omega (arith, c) }

command-keeps : (s m : State Content) (event : VnodeEvent) → Makes s (Command event) m → IsBelowStop m → IsAtLeast s m × (commands_counted m ≡ commands_counted s + 1)
command-keeps s m event (opened, made) below =
    let command = event_command event in
    let is = command-applies s command (event_deed event) (event_response event) m made in
    subst (λ (t : State Content). IsAtLeast s t × (commands_counted t ≡ commands_counted s + 1)) (sym is)
    (operation-keeps s (key_of command) (context_in_ask command) (event_deed event) (subst IsBelowStop is below))

-- a closed vnode takes nothing more
not-closed : (entries : List Entry) (m t : State Content) (number : ℕ) → m.closed ≡ Some number → MachineRun Makes m entries t → t.closed ≡ None → ⊥
not-closed [] m t number closed run none = let both : Some number ≡ None = sym closed ∙ (ap (λ (s : State Content). s.closed) run ∙ none) in cc both
not-closed (entry ∷ entries) m t number closed (next, makes, run) none = let both : Some number ≡ None = sym closed ∙ makes.0 in cc both

-- a run keeps the counts, and where none was raised, it is of copies
pub run-keeps : (entries : List Entry) (s t : State Content) → MachineRun Makes s entries t → t.closed ≡ None → IsBelowStop t → IsAtLeast s t
run-keeps [] s t run none below = subst (IsAtLeast s) run (same-least s s refl refl refl)
run-keeps (Command event ∷ entries) s t (m, makes, run) none below =
    let rest = run-keeps entries m t run none below in
    least-trans s m t (command-keeps s m event makes (below-before m t rest below)).0 rest
run-keeps (Copied copy ∷ entries) s t (m, makes, run) none below =
    let rest = run-keeps entries m t run none below in
    let made = makes.1.2 in
    least-trans s m t (same-least s m (sym (ap (λ (x : State Content). x.writes) made)) (sym (ap (λ (x : State Content). x.tombstones) made)) (sym (ap (λ (x : State Content). x.reaps) made))) rest
run-keeps (Closed number ∷ entries) s t (m, makes, run) none below = absurd (not-closed entries m t number (ap (λ (x : State Content). x.closed) makes.1) run none)

pub copies-alone : (entries : List Entry) (s t : State Content) → MachineRun Makes s entries t → t.closed ≡ None → IsBelowStop t → commands_counted t ≤ commands_counted s
    → (copies : List KeyCopyView) × (entries ≡ all_copies copies)
copies-alone [] s t run none below same = ([], refl)
copies-alone (Command event ∷ entries) s t (m, makes, run) none below same =
    let rest = run-keeps entries m t run none below in
    let one = (command-keeps s m event makes (below-before m t rest below)).1 in
    let a = rest.writes in let b = rest.tombstones in let c = rest.reaps in
    absurd (omega (arith, one, same, a, b, c))
copies-alone (Copied copy ∷ entries) s t (m, makes, run) none below same =
    let counted_same : commands_counted m ≡ commands_counted s = ap commands_counted makes.1.2 in
    let later = copies-alone entries m t run none below (omega (arith, counted_same, same)) in
    (copy ∷ later.0, ap (λ es. Copied copy ∷ es) later.1)
copies-alone (Closed number ∷ entries) s t (m, makes, run) none below same = absurd (not-closed entries m t number (ap (λ (x : State Content). x.closed) makes.1) run none)

-- a run over two lists is one behind the other
run-split : (xs ys : List Entry) (s t : State Content) → MachineRun Makes s (xs ++ ys) t → (m : State Content) × MachineRun Makes s xs m × MachineRun Makes m ys t
run-split [] ys s t run = (s, refl, run)
run-split (x ∷ xs) ys s t (m, makes, run) = let rest = run-split xs ys m t run in (rest.0, (m, makes, rest.1), rest.2)

-- an entry leads from a state to one state, and so does a run
makes-one : (state : State Content) (entry : Entry) (s t : State Content) → Makes state entry s → Makes state entry t → s ≡ t
makes-one state (Command event) s t (opened, a) (also, b) = let same : Accepted (event_deed event) (event_response event) s ≡ Accepted (event_deed event) (event_response event) t = sym a ∙ b in cc same
makes-one state (Copied copy) s t (opened, a) (also, b) = a.2 ∙ sym b.2
makes-one state (Closed number) s t (opened, a) (also, b) = a ∙ sym b

run-one : (entries : List Entry) (first s t : State Content) → MachineRun Makes first entries s → MachineRun Makes first entries t → s ≡ t
run-one [] first s t a b = sym a ∙ b
run-one (entry ∷ entries) first s t (mid, makes, rest) (also, makes_also, rest_also) =
    let same : also ≡ mid = makes-one first entry also mid makes_also makes in
    run-one entries mid s t rest (subst (λ m. MachineRun Makes m entries t) same rest_also)

-- what came behind what had been seen before led on from there
pub lead-split : (gate : GateId View) (before rest : List Entry) (s t : State Content) → LeadsVnodeTo gate before s → LeadsVnodeTo gate (before ++ rest) t → MachineRun Makes s rest t
lead-split gate before rest s t a b = by gate.opening a b
  where
    by : (first : Option View) → RunFrom state_of Makes first before s → RunFrom state_of Makes first (before ++ rest) t → MachineRun Makes s rest t
    by None a b = absurd a
    by (Some first) a b =
        let split = run-split before rest first.state t b in
        let here : split.0 ≡ s = run-one before first.state split.0 s split.1 a in
        subst (λ m. MachineRun Makes m rest t) here split.2

pub since : (gate : GateId View) (before rest : List Entry) (s t : State Content) → LeadsVnodeTo gate before s → LeadsVnodeTo gate (before ++ rest) t → t.closed ≡ None → IsBelowStop t → commands_counted t ≤ commands_counted s
    → (copies : List KeyCopyView) × (rest ≡ all_copies copies)
since gate before rest s t a b none below same = copies-alone rest s t (lead-split gate before rest s t a b) none below same

-- copies count no command
pub copies-count : (copies : List KeyCopyView) (s t : State Content) → MachineRun Makes s (all_copies copies) t → commands_counted t ≡ commands_counted s
copies-count [] s t run = sym (ap commands_counted run)
copies-count (copy ∷ copies) s t (m, makes, run) = copies-count copies m t run ∙ ap commands_counted makes.1.2

-- so where a primary has stayed as it was, it took copies alone
pub took-copies : (start : Option Start) (state : State Content) (mine : Sight) → HasStayed start state mine → ((from : Start) → start ≡ Some from → IsStartOf mine.gate from) → ShowsState mine state → TookCopiesAlone start mine
took-copies start state mine stayed of shows =
    let from = stayed.from in
    let is = of from stayed.is in
    let had = is.tallied in
    let first = subst (λ (g : GateId View). LeadsVnodeTo g from.pass.prefix had.state) is.of_gate had.shows in
    let last = subst (λ (es : List Entry). LeadsVnodeTo mine.gate es state) (sym stayed.begins.1) shows in
    let same = stayed.same in
    let below : IsBelowStop state = record {
      writes = subst (λ n. n < 2 ^ 64 - 1) stayed.writes same.below_writes;
      tombstones = subst (λ n. n < 2 ^ 64 - 1) stayed.tombstones same.below_tombstones;
      reaps = subst (λ n. n < 2 ^ 64 - 1) stayed.reaps same.below_reaps;
    } in
    let writes : state.writes ≡ had.state.writes = sym stayed.writes ∙ (sym same.writes ∙ had.writes) in
    let tombstones : state.tombstones ≡ had.state.tombstones = sym stayed.tombstones ∙ (sym same.tombstones ∙ had.tombstones) in
    let reaps : state.reaps ≡ had.state.reaps = sym stayed.reaps ∙ (sym same.reaps ∙ had.reaps) in
    let found = since mine.gate from.pass.prefix stayed.begins.0 had.state state first last stayed.open_still below (omega (arith, writes, tombstones, reaps)) in
    record { from = from; is = stayed.is; of_gate = is.of_gate; tallied = had; copies = found.0; seen = sym stayed.begins.1 ∙ ap (λ es. from.pass.prefix ++ es) found.1 }

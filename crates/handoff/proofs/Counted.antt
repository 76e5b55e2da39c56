-- A run that raises a vnode's counts by as much as it has entries is one of commands alone.
use Rattle.std.proofs.Common.{◌≡◌, ◌∙◌, ◌+◌, ◌≤◌, ℕ, List, [], ◌∷◌, length, refl, sym, ap, subst, arith, inl, inr}
use Rattle.std.specs.Prelude.{◌⊎◌, Option}
use Rattle.riak_msgs.specs.declared.Key.{Key}
use Rattle.riak_msgs.specs.Contents.{Content}
use Rattle.sibling_register.specs.History.{Operation, Write, Tombstone, Reap}
use Rattle.actor_epoch.specs.Given.{Context}
use Rattle.vnode_machine.specs.Machine.{State, apply_operation, counted}
use Rattle.vnode_machine.specs.Registers.{key_of, context_in_ask}
use Rattle.rw_gate.specs.Machines.{MachineRun}
use Rattle.rw_gate.specs.Views.{GateId}
use Rattle.vnode_core.specs.declared.entry.Entry.{Entry}
use Rattle.vnode_core.specs.declared.entry.Entry.TheVariants.{Command, Copied, Closed}
use Rattle.vnode_core.specs.declared.event.VnodeEvent.{VnodeEvent}
use Rattle.vnode_core.specs.declared.event.VnodeEvent.TheVariants as events
use Rattle.vnode_core.specs.Events.{IsMadeNew, Makes, all_commands, event_command, event_deed, event_response}
use Rattle.vnode_core.specs.Plans.{View}
use Rattle.handoff.specs.Sights.{LeadsVnodeTo}
use Rattle.handoff.specs.Started.{EachIs, IsUpdate, commands_counted, updates_counted}
use Rattle.handoff.proofs.Joined.{command-applies}

module _ (count : State Content → ℕ) (Is : VnodeEvent → Type 0) where
  -- the entry is a command of that kind
  abbrev pub IsCommand : Entry → Type 0
  IsCommand entry = (event : VnodeEvent) × (entry ≡ Command event) × Is event

  -- a vnode counts at most one more for an entry, and for one that is no such command nothing
  abbrev pub CountsOne : Type 0
  CountsOne = (s m : State Content) (entry : Entry) → Makes s entry m → (count m ≤ count s + 1) × ((count m ≤ count s) ⊎ IsCommand entry)

  module _ (one : CountsOne) where
    -- so no more than there are entries
    pub counts-most : (entries : List Entry) (s t : State Content) → MachineRun Makes s entries t → count t ≤ count s + length entries
    counts-most [] s t run = let same : count s ≡ count t = ap count run in omega (arith, same)
    counts-most (entry ∷ entries) s t (m, makes, run) =
        let here = (one s m entry makes).0 in
        let rest = counts-most entries m t run in
        omega (arith, here, rest)

    -- and where as many, all are such commands
    pub counts-all : (entries : List Entry) (s t : State Content) → MachineRun Makes s entries t → count s + length entries ≤ count t
        → (events : List VnodeEvent) × (entries ≡ all_commands events) × EachIs Is events
    counts-all [] s t run all = ([], refl, tt)
    counts-all (entry ∷ entries) s t (m, makes, run) all =
        let here = one s m entry makes in
        let more = here.0 in
        let rest = counts-most entries m t run in
        elim here.1 [
          | inl same ↦ absurd (omega (arith, all, rest, same))
          | inr is ↦
              let later = counts-all entries m t run (omega (arith, all, more)) in
              (is.0 ∷ later.0, ap (λ e. e ∷ entries) is.1 ∙ ap (λ es. Command is.0 ∷ es) later.1, (is.2, later.2))
        ]

-- a count goes up by one, or stays where it stops
counted-most : (n : ℕ) → counted n ≤ n + 1
counted-most n = omega arith

abbrev pub IsAny : VnodeEvent → Type 0
IsAny event = Unit {0}

operation-counts : (state : State Content) (key : Key) (context : Option Context) (operation : Operation Content)
    → commands_counted (apply_operation state key context operation) ≤ commands_counted state + 1
operation-counts state key context (Write content) = let most = counted-most state.writes in omega (arith, most)
operation-counts state key context Tombstone = let most = counted-most state.tombstones in omega (arith, most)
operation-counts state key context Reap = let most = counted-most state.reaps in omega (arith, most)

pub counts-commands : CountsOne commands_counted IsAny
counts-commands s m (Command event) (opened, made) =
    let command = event_command event in
    let is = command-applies s command (event_deed event) (event_response event) m made in
    (subst (λ (t : State Content). commands_counted t ≤ commands_counted s + 1) (sym is) (operation-counts s (key_of command) (context_in_ask command) (event_deed event)), inr (event, refl, tt))
counts-commands s m (Copied copy) (opened, made) =
    let same : commands_counted m ≡ commands_counted s = ap commands_counted made.2 in (omega (arith, same), inl (omega (arith, same)))
counts-commands s m (Closed number) (opened, made) =
    let same : commands_counted m ≡ commands_counted s = ap commands_counted made in (omega (arith, same), inl (omega (arith, same)))

-- what was seen of a new vnode is commands alone, where it counts as many as there are entries
pub seen-commands : (v l : ℕ) (gate : GateId View) (entries : List Entry) (state : State Content) → IsMadeNew v l gate → LeadsVnodeTo gate entries state → commands_counted state ≡ length entries
    → (events : List VnodeEvent) × (entries ≡ all_commands events)
seen-commands v l gate entries state made leads all =
    let first = made.first in
    let run : MachineRun Makes first.state entries state = subst (λ (o : Option View). LeadsVnodeTo (record { book = gate.book; opening = o }) entries state) made.made leads in
    let none : commands_counted first.state ≡ 0 = ap commands_counted made.new in
    let found = counts-all commands_counted IsAny counts-commands entries first.state state run (omega (arith, none, all)) in
    (found.0, found.1)

-- writes and tombstones are counted apart from reaps
counts-update : (s m : State Content) (event : VnodeEvent) → m ≡ apply_operation s (key_of (event_command event)) (context_in_ask (event_command event)) (event_deed event)
    → (updates_counted m ≤ updates_counted s + 1) × ((updates_counted m ≤ updates_counted s) ⊎ IsCommand updates_counted IsUpdate (Command event))
counts-update s m (events.Put put reply) is =
    let same : updates_counted m ≡ counted s.writes + s.tombstones = ap updates_counted is in
    let most = counted-most s.writes in
    (omega (arith, same, most), inr (events.Put put reply, refl, tt))
counts-update s m (events.Del del) is =
    let same : updates_counted m ≡ s.writes + counted s.tombstones = ap updates_counted is in
    let most = counted-most s.tombstones in
    (omega (arith, same, most), inr (events.Del del, refl, tt))
counts-update s m (events.Reap key) is =
    let same : updates_counted m ≡ s.writes + s.tombstones = ap updates_counted is in
    (omega (arith, same), inl (omega (arith, same)))

pub counts-updates : CountsOne updates_counted IsUpdate
counts-updates s m (Command event) (opened, made) = counts-update s m event (command-applies s (event_command event) (event_deed event) (event_response event) m made)
counts-updates s m (Copied copy) (opened, made) =
    let same : updates_counted m ≡ updates_counted s = ap updates_counted made.2 in (omega (arith, same), inl (omega (arith, same)))
counts-updates s m (Closed number) (opened, made) =
    let same : updates_counted m ≡ updates_counted s = ap updates_counted made in (omega (arith, same), inl (omega (arith, same)))

-- what was seen of a new vnode is writes and deletes alone, where it counts as many of these as there are entries
pub seen-updates : (v l : ℕ) (gate : GateId View) (entries : List Entry) (state : State Content) → IsMadeNew v l gate → LeadsVnodeTo gate entries state → updates_counted state ≡ length entries
    → (events : List VnodeEvent) × (entries ≡ all_commands events) × EachIs IsUpdate events
seen-updates v l gate entries state made leads all =
    let first = made.first in
    let run : MachineRun Makes first.state entries state = subst (λ (o : Option View). LeadsVnodeTo (record { book = gate.book; opening = o }) entries state) made.made leads in
    let none : updates_counted first.state ≡ 0 = ap updates_counted made.new in
    counts-all updates_counted IsUpdate counts-updates entries first.state state run (omega (arith, none, all))

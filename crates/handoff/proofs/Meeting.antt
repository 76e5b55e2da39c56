-- A copy of what a look at a fallback showed is a true one.
use Rattle.std.proofs.Common.{◌≡◌, ◌∙◌, ◌++◌, ℕ, true, List, [], ◌∷◌, refl, sym, ap, subst, append_assoc}
use Rattle.std.specs.Prelude.{Option, Some, None, is_some}
use Rattle.std.specs.Option.{option_map_or}
use mathlib.Core.List.{IsPrefix}
use Rattle.riak_msgs.specs.declared.Key.{Key}
use Rattle.riak_msgs.specs.Contents.{Content}
use Rattle.vnode_machine.specs.Machine.{State, Stored, stored, clock_of, is_held}
use Rattle.vnode_machine.specs.Replay.{History, IsWithinLimits, replay}
use Rattle.vnode_machine.proofs.Keys.{key_eq-same}
use Rattle.copy_laws.specs.Joining.{Log, Fallbacks, IsTrueCopy}
use Rattle.copy_laws.specs.Sides.{Partition}
use Rattle.rw_gate.specs.Views.{GateId}
use Rattle.vnode_core.specs.declared.entry.Entry.{Entry}
use Rattle.vnode_core.specs.declared.event.VnodeEvent.{VnodeEvent}
use Rattle.vnode_core.specs.Events.{IsMadeNew, GoesOnTo, all_commands, commands_of, history_after, register_event}
use Rattle.vnode_core.specs.Plans.{View}
use Rattle.vnode_core.proofs.Entries.{all_commands-commands_of, commands_before, commands_of-append}
use Rattle.vnode_core.proofs.Events.{gate-history-is-legal}
use Rattle.handoff.specs.Copying.{IsCopyOf}
use Rattle.handoff.specs.Meeting.{IsOfFallback, CopiesAreTrue, copy_of}
use Rattle.handoff.specs.Sights.{Sight, LeadsVnodeTo}

module _ (v l : ℕ) where
  -- a history grows by the events behind it
  history-append : (before : History) (xs ys : List VnodeEvent) → history_after v l before (xs ++ ys) ≡ history_after v l (history_after v l before xs) ys
  history-append before [] ys = refl
  history-append before (x ∷ xs) ys = history-append (register_event v l before x ∷ before) xs ys

  history-grows : (before : History) (events : List VnodeEvent) → (later : History) × (later ++ before ≡ history_after v l before events)
  history-grows before [] = ([], refl)
  history-grows before (event ∷ events) =
      let rest = history-grows (register_event v l before event ∷ before) events in
      (rest.0 ++ register_event v l before event ∷ [], append_assoc rest.0 (register_event v l before event ∷ []) before ∙ rest.1)

  -- what begins the commands begins the history
  pub history-begins : (whole : History) (prefix seen : List Entry) → IsPrefix prefix seen → (later : History) × (later ++ history_after v l [] (commands_of seen) ≡ whole)
      → (later : History) × (later ++ history_after v l [] (commands_of prefix) ≡ whole)
  history-begins whole prefix seen (rest, is) (later, all) =
      let here = history_after v l [] (commands_of prefix) in
      let grown = history-grows here (commands_of rest) in
      let same : history_after v l [] (commands_of seen) ≡ history_after v l here (commands_of rest)
      = ap (λ es. history_after v l [] (commands_of es)) (sym is) ∙ ap (history_after v l []) (commands_of-append prefix rest) ∙ history-append [] (commands_of prefix) (commands_of rest) in
      (later ++ grown.0, append_assoc later grown.0 here ∙ ap (λ (h : History). later ++ h) (grown.1 ∙ sym same) ∙ all)

  -- the state to which a prefix of commands leads is the replay of their history
  pub prefix-replays : (gate : GateId View) (prefix : List Entry) (state : State Content) → IsWithinLimits v l → IsMadeNew v l gate → prefix ≡ all_commands (commands_of prefix) → LeadsVnodeTo gate prefix state
      → state ≡ replay v l (history_after v l [] (commands_of prefix))
  prefix-replays gate prefix state limits made are leads =
      let vnode : View = record { state = state; prepared = None } in
      let legal : GoesOnTo v l [] (commands_of prefix) state
      = gate-history-is-legal v l gate (commands_of prefix) vnode limits made (subst (λ (es : List Entry). LeadsVnodeTo gate es state) are leads) in
      legal.after.is

-- the clock of a key that is held
held-clock : (state : State Content) (key : Key) (there : Stored Content) → stored state key ≡ Some there → clock_of state key ≡ there.clock
held-clock state key there held = ap (λ (o : Option (Stored Content)). option_map_or (λ s. s.clock) o (record { known = []; live = [] })) held

module _ (partition : Partition) (primary : Log) (fallbacks : Fallbacks) where
  pub true-copy : (theirs : Sight) (entry : Entry) (n : ℕ) (copy : IsCopyOf n theirs entry) → IsOfFallback partition fallbacks copy.copy.diversion theirs → (key : Key) → copy.copy.key ≡ key
      → IsTrueCopy partition primary fallbacks key (copy_of partition copy.copy)
  true-copy theirs entry n copy of key same =
      let v = partition.fallback in
      let l = partition.opened copy.copy.diversion in
      let are = all_commands-commands_of copy.prefix (commands_before copy.prefix theirs.prefix copy.begins of.commands) in
      let replays = prefix-replays v l theirs.gate copy.prefix copy.state of.limits of.made_new are copy.leads in
      let carried : history_after v l [] copy.copy.prefix ≡ history_after v l [] (commands_of copy.prefix) = ap (history_after v l []) copy.commands in
      let begins = history-begins v l (fallbacks copy.copy.diversion) copy.prefix theirs.prefix copy.begins of.begins in
      record {
        diversion = (of.first, of.last);
        begins = subst (λ (h : History). (later : History) × (later ++ h ≡ fallbacks copy.copy.diversion)) (sym carried) begins;
        clock = copy.clock ∙ sym (held-clock copy.state copy.copy.key copy.there copy.held) ∙ ap (λ (s : State Content). clock_of s copy.copy.key) replays
            ∙ ap (λ (h : History). clock_of (replay v l h) copy.copy.key) (sym carried) ∙ ap (λ (k : Key). clock_of (replay v l (history_after v l [] copy.copy.prefix)) k) same;
      }

  -- and the fallback had the key then
  pub true-held : (theirs : Sight) (entry : Entry) (n : ℕ) (copy : IsCopyOf n theirs entry) → IsOfFallback partition fallbacks copy.copy.diversion theirs → (key : Key) → copy.copy.key ≡ key
      → is_held (replay partition.fallback (partition.opened copy.copy.diversion) (copy_of partition copy.copy).prefix) key ≡ true
  true-held theirs entry n copy of key same =
      let v = partition.fallback in
      let l = partition.opened copy.copy.diversion in
      let are = all_commands-commands_of copy.prefix (commands_before copy.prefix theirs.prefix copy.begins of.commands) in
      let replays = prefix-replays v l theirs.gate copy.prefix copy.state of.limits of.made_new are copy.leads in
      let carried : history_after v l [] copy.copy.prefix ≡ history_after v l [] (commands_of copy.prefix) = ap (history_after v l []) copy.commands in
      ap (λ (h : History). is_held (replay v l h) key) carried ∙ (ap (λ (s : State Content). is_held s key) (sym replays)
      ∙ (ap (λ (k : Key). is_held copy.state k) (sym same) ∙ ap (λ (o : Option (Stored Content)). is_some o) copy.held))

  pub copies-are-true : (diversion : ℕ) (mine theirs : Sight) → CopiesAreTrue partition primary fallbacks diversion mine theirs
  copies-are-true diversion mine theirs of position has =
      let copy = has.copy in
      let there : IsOfFallback partition fallbacks copy.copy.diversion theirs = subst (λ n. IsOfFallback partition fallbacks n theirs) (sym copy.number) of in
      record {
        copy = copy.copy;
        stands = has.stands ∙ ap (λ (e : Entry). Some e) copy.is;
        is_true = λ key same. true-copy theirs has.entry diversion copy there key (key_eq-same copy.copy.key key same);
      }

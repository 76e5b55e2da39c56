-- Steps in histories of commands alone are the register's.
use Rattle.std.proofs.Common.{◌≡◌, ◌∙◌, ℕ, zero, suc, List, [], ◌∷◌, refl, sym, ap, subst, inl, inr}
use Rattle.std.specs.Prelude.{◌⊎◌, Option, Some, None, slice_get}
use Rattle.std.specs.Option.{option_map, option_map_or}
use Rattle.std.proofs.lemmas.Option.{slice_get-map}
use Rattle.std.specs.List.{AllZip}
use mathlib.Core.List.{IsPrefix}
use Rattle.riak_msgs.specs.declared.Request.{Request}
use Rattle.riak_msgs.specs.declared.Reply.{Reply}
use Rattle.ring_map.specs.Ring.{id_of}
use Rattle.rw_gate.specs.Histories.{RunFrom}
use Rattle.rw_gate.specs.Views.{GateId}
use Rattle.vnode_core.specs.declared.entry.Entry.{Entry}
use Rattle.vnode_core.specs.declared.vnode.tally.Tally.{Tally}
use Rattle.vnode_core.specs.Events.{AreCommands, Makes, commands_of}
use Rattle.vnode_core.specs.Plans.{View}
use Rattle.vnode_core.proofs.Entries.{commands_before, commands_begin, commands_of-all_commands}
use Rattle.handoff.specs.declared.gates.Fallback.{Fallback}
use Rattle.handoff.specs.Partitions.{AreNone}
use Rattle.handoff.proofs.Opened.{none_some, new_at}
use Rattle.gate_node.specs.Asked.{Sight, state_of}
use Rattle.gate_node.specs.Gates.{Gates}
use Rattle.gate_node.specs.GateStep.{NodeOverGates}
use Rattle.gate_node.specs.OneHistory.{IsSeen}
use Rattle.gate_node.specs.Plain.{AreOfCommands, AreLegal, PlainStepIsRegister, TalliesArePlain, commands_at}
use Rattle.gate_node.specs.Registers.{Commands, VnodeId, HasSeenCommands, IsLegalHistory, SharedRegister, entries_by, id_at, seen_at, seen_by, vnode_at}
use Rattle.gate_node.specs.Tallies.{GateHistory, IsTally, CountsAll}
use Rattle.gate_node.proofs.Keeping.{step-keeps}
use Rattle.gate_node.proofs.Legal.{position-is-legal}
use Rattle.gate_node.proofs.Registers.{step_is}

-- nothing stands at an index
undiverted : (fallbacks : List (Option Fallback)) → AreNone fallbacks → (index : ℕ) → (slice_get fallbacks index ≡ None) ⊎ (slice_get fallbacks index ≡ Some None)
undiverted [] none index = inl refl
undiverted (place ∷ fallbacks) none zero = inr (ap (λ (o : Option Fallback). Some o) none.0)
undiverted (place ∷ fallbacks) none (suc index) = undiverted fallbacks none.1 index

-- what the pass at an index has seen, and what the history there has
abbrev seen_there : List Sight → ℕ → List Entry
seen_there passes index = option_map_or (λ (pass : Sight). pass.prefix) (slice_get passes index) []

abbrev events_there : List GateHistory → ℕ → List Entry
events_there histories index = option_map_or (λ (history : GateHistory). history.events) (slice_get histories index) []

begins_there : (histories : List GateHistory) (passes : List Sight) → AllZip IsSeen histories passes → (index : ℕ) → IsPrefix (seen_there passes index) (events_there histories index)
begins_there [] [] h index = ([], refl)
begins_there [] (pass ∷ passes) h index = absurd h
begins_there (history ∷ histories) [] h index = absurd h
begins_there (history ∷ histories) (pass ∷ passes) h zero = h.0.begins
begins_there (history ∷ histories) (pass ∷ passes) h (suc index) = begins_there histories passes h.1 index

commands_there : (histories : List GateHistory) → AreOfCommands histories → (index : ℕ) → AreCommands (events_there histories index)
commands_there histories are index = by (slice_get histories index) refl where
  by : (o : Option GateHistory) → slice_get histories index ≡ o → AreCommands (option_map_or (λ (history : GateHistory). history.events) o [])
  by None is = ([], refl)
  by (Some history) is = are index history is

commands_is : (o : Option GateHistory) → commands_of (option_map_or (λ (history : GateHistory). history.events) o []) ≡ option_map_or (λ (history : GateHistory). commands_of history.events) o []
commands_is None = refl
commands_is (Some history) = refl

module _ (shared : Gates) (none : AreNone shared.fallbacks) where
  -- where no partition has a fallback, what is seen is what the passes of the primaries have seen
  entries_are : (node : NodeOverGates) → node.shared ≡ shared → (index : ℕ) → entries_by node index ≡ seen_there node.passes.primaries index
  entries_are node same index =
      let primary = slice_get node.passes.primaries index in
      let kept = slice_get node.passes.fallbacks index in
      let at : seen_at (slice_get node.shared.fallbacks index) primary kept ≡ seen_at (slice_get shared.fallbacks index) primary kept
      = ap (λ (s : Gates). seen_at (slice_get s.fallbacks index) primary kept) same in
      elim (undiverted shared.fallbacks none index) [
        | inl is ↦ at ∙ ap (λ (o : Option (Option Fallback)). seen_at o primary kept) is
        | inr is ↦ at ∙ ap (λ (o : Option (Option Fallback)). seen_at o primary kept) is
      ]

  vnode_is : (index : ℕ) → (let id : VnodeId = record { vnode = id_of shared.run index; last_epoch = 0 } in id) ≡ vnode_at shared index
  vnode_is index = elim (undiverted shared.fallbacks none index) [
    | inl is ↦ ap (id_at shared.run index) (sym is)
    | inr is ↦ ap (id_at shared.run index) (sym is)
  ]

  module _ (histories : List GateHistory) (are : AreOfCommands histories) (node : NodeOverGates) (same : node.shared ≡ shared) (seen : AllZip IsSeen histories node.passes.primaries) where
    begins : (index : ℕ) → IsPrefix (entries_by node index) (events_there histories index)
    begins index = subst (λ es. IsPrefix es (events_there histories index)) (sym (entries_are node same index)) (begins_there histories node.passes.primaries seen index)

    has_seen : HasSeenCommands node
    has_seen index = commands_before (entries_by node index) (events_there histories index) (begins index) (commands_there histories are index)

    seen_begins : (index : ℕ) → IsPrefix (seen_by node index) (commands_at histories index)
    seen_begins index =
        subst (λ (es : Commands). IsPrefix (seen_by node index) es) (commands_is (slice_get histories index)) (commands_begin (entries_by node index) (events_there histories index) (begins index))

pub plain_step : (shared : Gates) (histories : List GateHistory) (old : NodeOverGates) (request : Request) (reply : Reply) (new : NodeOverGates) → PlainStepIsRegister shared histories old request reply new
plain_step shared histories old request reply new none are same step =
    let there : new.shared ≡ shared = step-keeps old request reply new step.0 ∙ same in
    record {
      register = subst (λ (s : Gates). SharedRegister s (seen_by old) request reply (seen_by new)) same (step_is old request reply new step.0 (has_seen shared none histories are new there step.1));
      begins = seen_begins shared none histories are new there step.1;
    }

-- the tally at an index
counted_there : (histories : List GateHistory) (tallies : List Tally) → AllZip IsTally histories tallies → AllZip CountsAll histories tallies → (index : ℕ) (history : GateHistory) → slice_get histories index ≡ Some history
    → AreCommands history.events
counted_there [] tallies are all index history at = absurd (none_some history at)
counted_there (first ∷ histories) [] are all index history at = absurd are
counted_there (first ∷ histories) (tally ∷ tallies) are all zero history at =
    let same : first ≡ history = cc at in subst (λ (h : GateHistory). AreCommands h.events) same (are.0.commands all.0)
counted_there (first ∷ histories) (tally ∷ tallies) are all (suc index) history at = counted_there histories tallies are.1 all.1 index history at

tally_there : (histories : List GateHistory) (tallies : List Tally) → AllZip IsTally histories tallies → (index : ℕ) (history : GateHistory) → slice_get histories index ≡ Some history → (tally : Tally) × IsTally history tally
tally_there [] tallies are index history at = absurd (none_some history at)
tally_there (first ∷ histories) [] are index history at = absurd are
tally_there (first ∷ histories) (tally ∷ tallies) are zero history at = let same : first ≡ history = cc at in (tally, subst (λ (h : GateHistory). IsTally h tally) same are.0)
tally_there (first ∷ histories) (tally ∷ tallies) are (suc index) history at = tally_there histories tallies are.1 index history at

pub tallies_plain : (shared : Gates) (histories : List GateHistory) (tallies : List Tally) → TalliesArePlain shared histories tallies
tallies_plain shared histories tallies new none of_gates are all = record { commands = commands; legal = legal }
  where
    commands : AreOfCommands histories
    commands = counted_there histories tallies are all

    legal : AreLegal shared histories
    legal index history at =
        let tally = (tally_there histories tallies are index history at).1 in
        let gate : slice_get shared.gates index ≡ Some history.gate
        = ap (λ (gs : List (GateId View)). slice_get gs index) (sym of_gates) ∙ (slice_get-map (λ (h : GateHistory). h.gate) histories index ∙ ap (λ (o : Option GateHistory). option_map (λ (h : GateHistory). h.gate) o) at) in
        let made = new_at shared.run shared.gates new index history.gate gate in
        let (events, plain) = commands index history at in
        let leads = subst (λ (es : List Entry). RunFrom state_of Makes history.gate.opening es tally.state) plain tally.legal in
        let goes = position-is-legal (id_of shared.run index) 0 history.gate events tally.state made.1 made.0 leads in
        let there : events ≡ commands_at histories index
        = sym (ap commands_of plain ∙ commands_of-all_commands events) ∙ sym (ap (λ (o : Option GateHistory). option_map_or (λ (h : GateHistory). commands_of h.events) o []) at) in
        let id : VnodeId = record { vnode = id_of shared.run index; last_epoch = 0 } in
        let whole : IsLegalHistory id events = (tally.state, goes) in
        subst (λ (p : VnodeId × Commands). IsLegalHistory p.0 p.1) (λ i. (vnode_is shared none index i, there i)) whole

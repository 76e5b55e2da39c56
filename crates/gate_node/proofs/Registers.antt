-- A session over gates answers as the sibling register does, among others.
use Rattle.std.proofs.Common.{◌≡◌, ◌∙◌, ℕ, List, [], refl, sym, ap, subst, inl, inr}
use Rattle.std.proofs.lemmas.List.{append-nil}
use Rattle.std.specs.Prelude.{◌⊎◌, Option, Some, None, slice_get}
use Rattle.std.specs.Option.{option_map_or}
use mathlib.Core.List.{IsPrefix}
use Rattle.node_session.specs.SessionLaws.{CodedMessage}
use Rattle.ring_map.specs.Ring.{id_of}
use Rattle.rw_gate.specs.Views.{GateId}
use Rattle.riak_msgs.specs.Contents.{Content}
use Rattle.riak_msgs.specs.declared.Request.{Request}
use Rattle.riak_msgs.specs.declared.Request.TheVariants as requests
use Rattle.riak_msgs.specs.declared.Reply.{Reply}
use Rattle.sibling_register.specs.Answers.{RegisterAsk as Command, AskGet, AskPut, AskDel}
use Rattle.vnode_machine.specs.Asks.{Context, get_command, put_command, del_command}
use Rattle.vnode_machine.specs.Machine.{State}
use Rattle.vnode_machine.specs.Replay.{IsWithinLimits}
use Rattle.vnode_core.specs.declared.ask.Ask.TheVariants as asks
use Rattle.vnode_core.specs.Events.{AreCommands, IsMadeNew, commands_of, all_commands}
use Rattle.vnode_core.specs.Plans.{View}
use Rattle.vnode_core.proofs.Entries.{all_commands-commands_of, commands_before}
use Rattle.handoff.proofs.Returns.{set-here}
use Rattle.handoff.specs.Partitions.{fallback_id}
use Rattle.node_session.specs.Answers.{AnswersInTurn}
use Rattle.node_session.specs.Answered.{AnsweredInput as Output}
use Rattle.node_session.specs.PlainNodes.{partition_of}
use Rattle.node_session.specs.Session.{IsInputEnd, Stops}
use Rattle.node_session.specs.declared.fault.SessionFault.{SessionFault}
use Rattle.node_session.proofs.Simulating.{run_like, end_like, stops_like}
use Rattle.stats_book.specs.declared.quantity.Quantity.{Quantity}
use Rattle.gate_node.specs.Asked.{Sight, Gets, GetsOpen, Changes, ChangesOpen}
use Rattle.gate_node.specs.Gates.{Gates}
use Rattle.gate_node.specs.GateStep.{NodeOverGates, GateNodeStep, AtIndex, AtFallback, AtClosed, AtIndexFrom, AnswersAtPartition}
use Rattle.gate_node.specs.Passes.{kept_of}
use Rattle.gate_node.specs.Registers.{VnodeId, vnode_at, id_at, first_epoch, seen_at, Commands, Seen, seen_by, AnswersAmongOthers, IsGateError, AnswersAskAt, SharedRegister, RunIsRegister, EndIsRegister, StopIsRegister, entries_by, HasSeenCommands}
use Rattle.gate_node.proofs.Keeping.{step-keeps}
use Rattle.node_session.proofs.HandingBack.{Held, run_in, end_in, stops_in}
use Rattle.gate_node.proofs.Answering.{put_answers, del_answers, get_answers}
use Rattle.gate_node.proofs.Unclosed.{commands_close_nothing, gets_open}
use Rattle.gate_node.proofs.Seeing.{all_reaps_more, from_adds, set_there, undiverted_seen, diverted_seen, kept_seen, resumed_seen, step_commands}

-- the last epoch behind which a gate's vnode began
epoch_of : (vnode last_epoch : ℕ) (gate : GateId View) → IsMadeNew vnode last_epoch gate → last_epoch ≡ first_epoch gate
epoch_of vnode last_epoch gate made =
    sym (ap (λ o. option_map_or (λ (first : View). first.state.last_epoch) o 0) made.made ∙ ap (λ (s : State Content). s.last_epoch) made.new)

-- a step at an index, by what is answered there
module _ (index : ℕ) (command : Command Content Context) (old new : NodeOverGates) (reply : Reply) (Says : Sight → Sight → Option Quantity → Type 0)
    (answers : (id : VnodeId) (before after : Sight) (last : Commands) (quantity : Option Quantity) → IsWithinLimits id.vnode id.last_epoch → IsMadeNew id.vnode id.last_epoch before.gate
    → IsPrefix before.prefix after.prefix → IsPrefix after.prefix (all_commands last) → Says before after quantity
    → AnswersAmongOthers id command (commands_of before.prefix) reply last ⊎ (IsGateError reply × IsPrefix (commands_of before.prefix) last))
    (are : HasSeenCommands new) where
  abbrev Answered_at : VnodeId → Commands → Commands → Type 0
  Answered_at id before last = AnswersAmongOthers id command before reply last ⊎ (IsGateError reply × IsPrefix before last)

  -- what was seen by a pass at the end is commands alone
  last_seen : (after : Sight) → after.prefix ≡ entries_by new index → after.prefix ≡ all_commands (commands_of after.prefix)
  last_seen after has = all_commands-commands_of after.prefix (subst AreCommands (sym has) (are index))

  at_primary : slice_get old.shared.fallbacks index ≡ Some None → AtIndex index old new Says → AnswersAskAt (vnode_at old.shared index) index command (seen_by old) reply (seen_by new)
  at_primary none at =
      let node = λ (i : ℕ). ap (λ (n : NodeOverGates). entries_by n i) at.node in
      let had : at.before.prefix ≡ entries_by old index = sym (undiverted_seen _ _ (slice_get old.passes.fallbacks index) at.before none at.stands) in
      let has : at.after.prefix ≡ entries_by new index
      = sym (node index ∙ undiverted_seen _ _ (slice_get old.passes.fallbacks index) at.after none (set-here old.passes.primaries index at.before at.after at.stands)) in
      let id : VnodeId = record { vnode = id_of old.shared.run index; last_epoch = 0 } in
      let is : id ≡ vnode_at old.shared index = ap (id_at old.shared.run index) (sym none) in
      let more = all_reaps_more old.shared.budget at.reaps at.steps.answered at.after at.steps.reaps in
      let here = answers id at.before at.steps.answered (commands_of at.after.prefix) at.quantity at.limits at.made_new at.steps.more
      (subst (λ es. IsPrefix at.steps.answered.prefix es) (last_seen at.after has) more) at.steps.answers in
      record {
        answers = inl (subst (λ (p : VnodeId × (Commands × Commands)). Answered_at p.0 p.1.0 p.1.1) (λ i. (is i, (commands_of (had i), commands_of (has i)))) here);
        others = λ other ne. ap commands_of (node other ∙ ap (λ o. seen_at (slice_get old.shared.fallbacks other) o (slice_get old.passes.fallbacks other)) (set_there old.passes.primaries index other at.after ne));
      }

  at_its_fallback : AtFallback index old new Says → AnswersAskAt (vnode_at old.shared index) index command (seen_by old) reply (seen_by new)
  at_its_fallback at =
      let kept = kept_of at.fallback at.after None in
      let node = λ (i : ℕ). ap (λ (n : NodeOverGates). entries_by n i) at.node in
      let had : at.before.prefix ≡ entries_by old index
      = sym (diverted_seen _ (slice_get old.passes.primaries index) _ at.fallback at.kept at.diverted at.stood ∙ resumed_seen at.fallback at.kept at.before None at.resumes) in
      let has : at.after.prefix ≡ entries_by new index
      = sym (node index ∙ (diverted_seen _ (slice_get old.passes.primaries index) _ at.fallback kept at.diverted (set-here old.passes.fallbacks index at.kept kept at.stood) ∙ kept_seen at.fallback at.after None)) in
      let first : VnodeId = record { vnode = fallback_id old.shared.run index; last_epoch = at.is_new.last_epoch } in
      let is : first ≡ vnode_at old.shared index
      = ap (λ e. record { vnode = fallback_id old.shared.run index; last_epoch = e }) (epoch_of first.vnode first.last_epoch at.fallback.gate at.is_new.made_new) ∙ ap (id_at old.shared.run index) (sym at.diverted) in
      let made = subst (λ (g : GateId View). IsMadeNew first.vnode first.last_epoch g) (sym at.of_gate) at.is_new.made_new in
      let here = answers first at.before at.after (commands_of at.after.prefix) at.quantity at.is_new.limits made at.more ([], append-nil at.after.prefix ∙ last_seen at.after has) at.answers in
      record {
        answers = inl (subst (λ (p : VnodeId × (Commands × Commands)). Answered_at p.0 p.1.0 p.1.1) (λ i. (is i, (commands_of (had i), commands_of (has i)))) here);
        others = λ other ne. ap commands_of (node other ∙ ap (λ o. seen_at (slice_get old.shared.fallbacks other) (slice_get old.passes.primaries other) o) (set_there old.passes.fallbacks index other kept ne));
      }

-- no close was seen where commands alone were seen in the end
no_close : (index number : ℕ) (old found new : NodeOverGates) (reply : Reply) (Answers : Sight → Sight → Reply → Option Quantity → Type 0) → HasSeenCommands new → AtClosed index number old found
    → AtIndexFrom index number found reply new Answers → ⊥
no_close index number old found new reply Answers are c from =
    let kept = kept_of c.fallback c.after (Some number) in
    let has : entries_by found index ≡ c.after.prefix
    = ap (λ (n : NodeOverGates). entries_by n index) c.node
    ∙ (diverted_seen _ (slice_get old.passes.primaries index) _ c.fallback kept c.diverted (set-here old.passes.fallbacks index c.kept kept c.stood) ∙ kept_seen c.fallback c.after (Some number)) in
    let commands = commands_before (entries_by found index) (entries_by new index) (from_adds index index number found reply new Answers from) (are index) in
    let made = subst (λ (g : GateId View). IsMadeNew (fallback_id old.shared.run index) c.is_new.last_epoch g) (sym (c.closed.gate ∙ c.of_gate)) c.is_new.made_new in
    commands_close_nothing (fallback_id old.shared.run index) c.is_new.last_epoch number c.after c.is_new.limits made (subst AreCommands has commands) c.closed.closed

-- what is answered of a command at one vnode
abbrev AnswersCommand : Command Content Context → Reply → (Sight → Sight → Option Quantity → Type 0) → Type 0
AnswersCommand command reply Says =
    (id : VnodeId) (before after : Sight) (last : Commands) (quantity : Option Quantity) → IsWithinLimits id.vnode id.last_epoch → IsMadeNew id.vnode id.last_epoch before.gate
    → IsPrefix before.prefix after.prefix → IsPrefix after.prefix (all_commands last) → Says before after quantity
    → AnswersAmongOthers id command (commands_of before.prefix) reply last ⊎ (IsGateError reply × IsPrefix (commands_of before.prefix) last)

at_is : (index : ℕ) (command : Command Content Context) (old : NodeOverGates) (reply : Reply) (new : NodeOverGates) (Answers AnswersOpen : Sight → Sight → Reply → Option Quantity → Type 0)
    → AnswersCommand command reply (λ p q. Answers p q reply) → ((p q : Sight) (quantity : Option Quantity) → AnswersOpen p q reply quantity → Answers p q reply quantity) → HasSeenCommands new
    → AnswersAtPartition index old reply new Answers AnswersOpen → AnswersAskAt (vnode_at old.shared index) index command (seen_by old) reply (seen_by new)
at_is index command old reply new Answers AnswersOpen answers opened are (inl (none, at)) = at_primary index command old new reply (λ p q. Answers p q reply) answers are none at
at_is index command old reply new Answers AnswersOpen answers opened are (inr (inl (inr short))) = record {
  answers = inr (short.replied, ap (λ (n : NodeOverGates). seen_by n index) short.node);
  others = λ other ne. ap (λ (n : NodeOverGates). seen_by n other) short.node;
}
at_is index command old reply new Answers AnswersOpen answers opened are (inr (inl (inl at))) =
    at_its_fallback index command old new reply (λ p q. AnswersOpen p q reply)
    (λ id before after last quantity limits made begins more says. answers id before after last quantity limits made begins more (opened before after quantity says)) are at
at_is index command old reply new Answers AnswersOpen answers opened are (inr (inr at)) = absurd (no_close index at.number old at.found new reply Answers are at.closed at.answers)

pub step_is : (old : NodeOverGates) (request : Request) (reply : Reply) (new : NodeOverGates) → GateNodeStep old request reply new → HasSeenCommands new → SharedRegister old.shared (seen_by old) request reply (seen_by new)
step_is old requests.Ping reply new step are = (step.0, ap seen_by step.1)
step_is old (requests.Get get) reply new step are =
    at_is (partition_of old.shared.index_bits get.key) (AskGet (get_command get)) old reply new (Gets get) (GetsOpen get)
    (λ id before after last quantity limits made begins more says. get_answers id limits before after last made begins more reply get quantity says)
    (λ p q quantity says. gets_open get p q reply quantity says) are step
step_is old (requests.Put put) reply new step are =
    at_is (partition_of old.shared.index_bits put.key) (AskPut (put_command put)) old reply new (Changes (asks.Put put)) (ChangesOpen (asks.Put put))
    (λ id before after last quantity limits made begins more says. put_answers id limits before after last made begins more reply put says.outcome says.comes says.replied)
    (λ p q quantity says. says.0) are step
step_is old (requests.Del del) reply new step are =
    at_is (partition_of old.shared.index_bits del.key) (AskDel (del_command del)) old reply new (Changes (asks.Del del)) (ChangesOpen (asks.Del del))
    (λ id before after last quantity limits made begins more says. del_answers id limits before after last made begins more reply del says.outcome says.comes says.replied)
    (λ p q quantity says. says.0) are step

-- the node's gates, and what it has seen
abbrev Like : Gates → NodeOverGates → Seen → Type 0
Like shared node seen = (node.shared ≡ shared) × (seen ≡ seen_by node)

-- a step after which commands alone were seen
abbrev Step : NodeOverGates → Request → Reply → NodeOverGates → Type 0
Step = Held GateNodeStep HasSeenCommands step_commands

like_step : (shared : Gates) (s s' : NodeOverGates) (t : Seen) (request : Request) (reply : Reply) → Like shared s t → Step s request reply s'
    → (t' : Seen) × Like shared s' t' × SharedRegister shared t request reply t'
like_step shared s s' t request reply like step = (
  seen_by s',
  (step-keeps s request reply s' step.0 ∙ like.0, refl),
  subst (λ (p : Gates × Seen). SharedRegister p.0 p.1 request reply (seen_by s')) (λ i. (like.0 i, sym like.1 i)) (step_is s request reply s' step.0 step.1),
)

pub run_is_register : (old new : NodeOverGates) (messages : List CodedMessage) (replies : List Reply) → RunIsRegister old new messages replies
run_is_register old new messages replies are run =
    let held = run_in GateNodeStep HasSeenCommands step_commands old messages replies new run are in
    let made = run_like Step (SharedRegister old.shared) (Like old.shared) (like_step old.shared) old new (seen_by old) messages replies (refl, refl) held in
    subst (λ t. AnswersInTurn (SharedRegister old.shared) (seen_by old) messages replies t) made.1.1 made.2

pub end_is_register : (old new : NodeOverGates) (input : List ℕ) (held held' : Option (List ℕ)) (count len : ℕ) → EndIsRegister old new input held held' count len
end_is_register old new input held held' count len are ended =
    let stays = end_in GateNodeStep HasSeenCommands step_commands old new input held held' count len ended are in
    let made = end_like Step (SharedRegister old.shared) (Like old.shared) (like_step old.shared) old new (seen_by old) input held held' count len (refl, refl) stays in
    subst (λ (t : Seen). Output (SharedRegister old.shared) (seen_by old) input held held' count (IsInputEnd t len)) made.1.1 made.2

pub stop_is_register : (old new : NodeOverGates) (input : List ℕ) (held held' : Option (List ℕ)) (fault : SessionFault) → StopIsRegister old new input held held' fault
stop_is_register old new input held held' fault are stops =
    let stays = stops_in GateNodeStep HasSeenCommands step_commands old new input held held' fault stops are in
    let made = stops_like Step (SharedRegister old.shared) (Like old.shared) (like_step old.shared) old new (seen_by old) input held held' fault (refl, refl) stays in
    subst (λ (t : Seen). Stops (SharedRegister old.shared) (seen_by old) t input held held' fault) made.1.1 made.2

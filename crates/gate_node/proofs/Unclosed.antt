-- A vnode that isn't closed, by what was seen of it.
use Rattle.std.proofs.Common.{◌≡◌, ◌∙◌, ℕ, List, [], ◌∷◌, refl, sym, ap, subst, inl, inr}
use Rattle.std.specs.Prelude.{Option, Some, None, is_some}
use Rattle.std.proofs.lemmas.Bool.{true≢false}
use Rattle.riak_msgs.specs.Contents.{Content}
use Rattle.riak_msgs.specs.declared.GetAsk.{GetAsk}
use Rattle.riak_msgs.specs.declared.Reply.{Reply}
use Rattle.rw_gate.specs.Histories.{RunFrom}
use Rattle.rw_gate.specs.Machines.{MachineRun}
use Rattle.rw_gate.specs.Views.{GateId}
use Rattle.vnode_machine.specs.Machine.{State, opening, state_after}
use Rattle.vnode_machine.specs.Replay.{History, IsWithinLimits}
use Rattle.vnode_machine.specs.Step.{Accepted}
use Rattle.vnode_machine.proofs.Updates.{closed-kept}
use Rattle.vnode_core.specs.declared.ask.Ask.{Ask}
use Rattle.vnode_core.specs.declared.ask.Ask.TheVariants as asks
use Rattle.vnode_core.specs.declared.ask.Answer.{Answer}
use Rattle.vnode_core.specs.declared.ask.Answer.TheVariants as answers
use Rattle.vnode_core.specs.declared.entry.Entry.{Entry}
use Rattle.vnode_core.specs.declared.entry.Entry.TheVariants.{Command as Commanded, Copied, Closed}
use Rattle.vnode_core.specs.declared.refusal.Refusal.{Refusal}
use Rattle.vnode_core.specs.Events.{AnsweredBy, AreCommands, EntryAsks, IsMadeNew, Makes, event_deed, event_response, history_after}
use Rattle.vnode_core.specs.Plans.{View, AnswersOpen, IsAnsweredUnchanged, Refuses}
use Rattle.rw_gate.specs.declared.asking.AskOutcome.{AskOutcome}
use Rattle.rw_gate.specs.declared.asking.AskOutcome.TheVariants as Outcomes
use Rattle.rw_gate.specs.Asking.{SeesUnder}
use Rattle.stats_book.specs.declared.quantity.Quantity.{Quantity}
use Rattle.gate_node.specs.Asked.{Sight, state_of, ComesOf, Gets, GetsOpen, HasSeenClose, IsOfOpenVnode}
use Rattle.gate_node.proofs.Legal.{position-is-legal}

-- what an open vnode shows is shown
pub gets_open : (get : GetAsk) (old new : Sight) (reply : Reply) (quantity : Option Quantity) → GetsOpen get old new reply quantity → Gets get old new reply quantity
gets_open get old new reply quantity (inl said, counted) = (inl (record { state = said.state; leads = said.leads; says = said.says.1; own = said.own }), counted)
gets_open get old new reply quantity (inr moved, counted) = (inr moved, counted)

-- an entry leads from a state to one state, and so does a run
makes_one : (state : State Content) (entry : Entry) (s t : State Content) → Makes state entry s → Makes state entry t → s ≡ t
makes_one state (Commanded event) s t (opened, a) (also, b) =
    let same : Accepted (event_deed event) (event_response event) s ≡ Accepted (event_deed event) (event_response event) t = sym a ∙ b in cc (same)
makes_one state (Copied copy) s t (opened, a) (also, b) = a.2 ∙ sym b.2
makes_one state (Closed number) s t (opened, a) (also, b) = a ∙ sym b

run_one : (entries : List Entry) (first s t : State Content) → MachineRun Makes first entries s → MachineRun Makes first entries t → s ≡ t
run_one [] first s t a b = sym a ∙ b
run_one (entry ∷ entries) first s t (mid, makes, rest) (also, makes_also, rest_also) =
    let same : also ≡ mid = makes_one first entry also mid makes_also makes in
    run_one entries mid s t rest (subst (λ m. MachineRun Makes m entries t) same rest_also)

pub leads_to_one : (gate : GateId View) (entries : List Entry) (s t : State Content) → RunFrom state_of Makes gate.opening entries s → RunFrom state_of Makes gate.opening entries t → s ≡ t
leads_to_one gate entries s t a b = by gate.opening a b where
  by : (first : Option View) → RunFrom state_of Makes first entries s → RunFrom state_of Makes first entries t → s ≡ t
  by None a b = absurd a
  by (Some first) a b = run_one entries first.state s t a b

-- an open vnode doesn't answer that it is closed
never_closed : (state : State Content) (ask : Ask) → AnswersOpen state ask answers.Closed → ⊥
never_closed state (asks.Put put) h = h
never_closed state (asks.Del del) h = cc (h.0)
never_closed state (asks.Reap key) h = cc (h.0)
never_closed state (asks.ReapFirst from) h = cc (h.0)
never_closed state (asks.Copy copy) h = cc (h.0)
never_closed state (asks.Close number) h = h

-- what came of an ask under a right to a vnode that isn't closed
pub comes_open : (ask : Ask) (old new : Sight) (history : List Entry) (state : State Content) (outcome : AskOutcome Answer Refusal) → ComesOf ask old new outcome
    → RunFrom state_of Makes old.gate.opening history state → state.closed ≡ None → SeesUnder state_of Makes IsAnsweredUnchanged Refuses EntryAsks AnsweredBy history new outcome → IsOfOpenVnode outcome
comes_open ask old new history state (Outcomes.Told answers.Closed) comes leads opened under = elim comes.says [
  | inl says ↦ never_closed comes.state ask says.1
  | inr closed ↦
      let here : RunFrom state_of Makes old.gate.opening history comes.state = subst (λ es. RunFrom state_of Makes old.gate.opening es comes.state) under comes.leads in
      let unclosed : comes.state.closed ≡ None = ap (λ (s : State Content). s.closed) (leads_to_one old.gate history comes.state state here leads) ∙ opened in
      true≢false (sym closed.0 ∙ ap is_some unclosed)
]
comes_open ask old new history state (Outcomes.Told (answers.Put reply)) comes leads opened under = tt
comes_open ask old new history state (Outcomes.Told answers.Del) comes leads opened under = tt
comes_open ask old new history state (Outcomes.Told (answers.Reaped reaped)) comes leads opened under = tt
comes_open ask old new history state (Outcomes.Told answers.Copied) comes leads opened under = tt
comes_open ask old new history state (Outcomes.Told answers.Stuck) comes leads opened under = tt
comes_open ask old new history state (Outcomes.Made answer) comes leads opened under = tt
comes_open ask old new history state (Outcomes.Refused refusal) comes leads opened under = tt
comes_open ask old new history state Outcomes.Moved comes leads opened under = tt
comes_open ask old new history state Outcomes.Full comes leads opened under = tt

-- a history closes nothing
history_closes : (first : State Content) (history : History) → (state_after first history).closed ≡ first.closed
history_closes first [] = refl
history_closes first (event ∷ before) = closed-kept (state_after first before) event.key event.context event.operation ∙ history_closes first before

-- so of a new vnode no close was seen where commands alone were
pub commands_close_nothing : (vnode last_epoch number : ℕ) (pass : Sight) → IsWithinLimits vnode last_epoch → IsMadeNew vnode last_epoch pass.gate → AreCommands pass.prefix → HasSeenClose pass number → ⊥
commands_close_nothing vnode last_epoch number pass limits made (events, are) seen =
    let leads = subst (λ es. RunFrom state_of Makes pass.gate.opening es seen.state) are seen.leads in
    let goes = position-is-legal vnode last_epoch pass.gate events seen.state limits made leads in
    let opened : seen.state.closed ≡ None
    = ap (λ (s : State Content). s.closed) goes.after.is ∙ history_closes (opening vnode last_epoch) (history_after vnode last_epoch [] events) in
    let both : None ≡ Some number = sym opened ∙ seen.closed in
    cc (both)

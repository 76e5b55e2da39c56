-- A vnode behind a gate: its plans are events, and the runs of its machine are legal histories.
use Rattle.std.proofs.Common.{◌≡◌, ◌∙◌, ℕ, true, false, not, ◌&&◌, cond, List, [], ◌∷◌, refl, sym, subst}
use Rattle.std.specs.Prelude.{Bool, Option, Some, None, IsTrue, is_none, unwrap_or}
use Rattle.std.specs.Option.{option_map_or}
use Rattle.riak_msgs.specs.declared.Key.{Key}
use Rattle.riak_msgs.specs.Contents.{Content}
use Rattle.sibling_register.specs.Answers.{AskReap}
use Rattle.sibling_register.specs.History.{Operation, Reap as ReapDeed}
use Rattle.sibling_register.specs.Legal.{IsLegal}
use Rattle.vnode_machine.specs.Asks.{put_command, del_command}
use Rattle.vnode_machine.specs.Dead.{is_from, first_dead}
use Rattle.vnode_machine.specs.Machine.{State, opening, is_held, holds_dead, put_check, del_check}
use Rattle.vnode_machine.specs.Registers.{IsRegisters, IsNext}
use Rattle.vnode_machine.specs.Replay.{History, naming, IsWithinLimits, IsAfter}
use Rattle.vnode_machine.specs.Step.{Response, ReapDone, ReapKept, MachineOutcome, Answered, Accepted, DelDone, outcome, unless_refused}
use Rattle.vnode_machine.proofs.DeadKeys.{first_is_dead}
use Rattle.vnode_machine.proofs.Legals.{replay_is_legal}
use Rattle.vnode_machine.proofs.StepLaw.{registers-after}
use Rattle.vnode_machine.proofs.Tests.{and_left}
use Rattle.rw_gate.specs.declared.kept.Plan.TheVariants.{Change}
use Rattle.rw_gate.specs.Machines.{MachineRun}
use Rattle.rw_gate.specs.Views.{GateId}
use Rattle.rw_gate.specs.Histories.{RunFrom}
use Rattle.vnode_core.specs.declared.ask.Ask.{Ask}
use Rattle.vnode_core.specs.declared.ask.Ask.TheVariants as asks
use Rattle.vnode_core.specs.declared.event.VnodeEvent.{VnodeEvent}
use Rattle.vnode_core.specs.declared.event.VnodeEvent.TheVariants.{Reap}
use Rattle.vnode_core.specs.Plans.{View, IsAcceptedStep, AcceptsOpen, AcceptsAsk, Plans}
use Rattle.vnode_core.specs.declared.entry.Entry.TheVariants.{Command as Commanded}
use Rattle.vnode_core.specs.Events.{no_key, event_command, event_deed, event_response, all_commands, MakesOpen, Makes, EntryAsks, entry_of, IsLoggable, register_event, GoesOnTo, RunIsLegal, GateHistoryIsLegal}

-- no check refuses what is accepted
unrefused : (check : Option ℕ) (operation : Operation Content) (response : Response) (next : State Content) → IsAcceptedStep (unless_refused check (Accepted operation response next))
    → unless_refused check (Accepted operation response next) ≡ Accepted operation response next
unrefused None operation response next h = refl
unrefused (Some number) operation response next h = absurd h

-- a delete that is accepted does something
busy : (idle : Bool) (made : MachineOutcome) → IsAcceptedStep (cond idle (Answered DelDone) made) → (cond idle (Answered DelDone) made ≡ made) × IsAcceptedStep made
busy true made h = absurd h
busy false made h = (refl, h)

-- a reap that is accepted is of a dead key
reaps-dead : (dead : Bool) (next : State Content) → IsAcceptedStep (cond dead (Accepted ReapDeed ReapDone next) (Answered ReapKept))
    → cond dead (Accepted ReapDeed ReapDone next) (Answered ReapKept) ≡ Accepted ReapDeed ReapDone next
reaps-dead true next h = refl
reaps-dead false next h = absurd h

reap-makes : (state : State Content) (key : Key) → IsAcceptedStep (outcome state (AskReap key)) → (next : State Content) × MakesOpen state (Commanded (Reap key)) next
reap-makes state key h = (_, reaps-dead (holds_dead state key) _ h)

-- what a reap of the first dead key comes to, where this one was found
abbrev first_outcome : State Content → Option Key → MachineOutcome
first_outcome state found = option_map_or (λ key. outcome state (AskReap key)) found (Answered ReapKept)

first-makes : (state : State Content) (found : Option Key) → IsAcceptedStep (first_outcome state found)
    → (next : State Content) × (first_outcome state found ≡ Accepted ReapDeed ReapDone next) × MakesOpen state (Commanded (Reap (unwrap_or found no_key))) next
first-makes state None h = absurd h
first-makes state (Some key) h = let made = reap-makes state key h in (made.0, made.1, made.1)

first-asked : (state : State Content) (from found : Option Key) → first_dead state from ≡ found → IsAcceptedStep (first_outcome state found)
    → IsTrue (is_from from (unwrap_or found no_key))
first-asked state from None q h = absurd h
first-asked state from (Some key) q h = and_left _ _ (first_is_dead state from key q)

-- what an open vnode takes is an entry
accepted-makes : (state : State Content) (ask : Ask) → AcceptsOpen state ask → (next : State Content) × MakesOpen state (entry_of state ask) next
accepted-makes state (asks.Put put) h = (_, unrefused (put_check state (put_command put)) _ _ _ h)
accepted-makes state (asks.Del del) h =
    let command = del_command del in
    let step = busy (is_none command.context && not (is_held state command.key)) _ h in
    (_, step.0 ∙ unrefused (del_check state command) _ _ _ step.1)
accepted-makes state (asks.Reap key) h = reap-makes state key h
accepted-makes state (asks.ReapFirst from) h = let made = first-makes state (first_dead state from) h in (made.0, made.2)
accepted-makes state (asks.Copy copy) h = (_, (h.0, h.1, refl))
accepted-makes state (asks.Close number) h = (_, refl)

-- an entry is of the ask that it is made for
asks-own : (state : State Content) (ask : Ask) → AcceptsOpen state ask → EntryAsks (entry_of state ask) ask
asks-own state (asks.Put put) h = refl
asks-own state (asks.Del del) h = refl
asks-own state (asks.Reap key) h = refl
asks-own state (asks.ReapFirst from) h = first-asked state from (first_dead state from) refl h
asks-own state (asks.Copy copy) h = refl
asks-own state (asks.Close number) h = refl

prepared-loggable : (vnode : View) (ask : Ask) → vnode.prepared ≡ Some ask → AcceptsAsk vnode.state ask
    → IsLoggable vnode ask vnode × EntryAsks (entry_of vnode.state ask) ask
prepared-loggable vnode ask prepared (opened, accepted) =
    let makes = accepted-makes vnode.state ask accepted in
    (record { prepared = prepared; same = refl; next = makes.0; makes = (opened, makes.1) }, asks-own vnode.state ask accepted)

-- what is prepared makes an entry, by the change and the vnode that it was prepared from
pub loggable : (vnode : View) (ask change logged : Ask) (before : View) → Plans vnode ask (Change change) → logged ≡ change → before ≡ vnode
    → IsLoggable vnode logged before × EntryAsks (entry_of before.state logged) ask
loggable vnode ask change logged before is e b =
    let same = sym (e ∙ is.is) in
    subst (λ (pair : Ask × View). IsLoggable vnode pair.0 pair.1 × EntryAsks (entry_of pair.1.state pair.0) ask) (λ i. (same i, sym b i))
    (prepared-loggable vnode ask is.prepared is.accepted)

module _ (v l : ℕ) (limits : IsWithinLimits v l) where
  makes-next : (history : History) (state next : State Content) (event : VnodeEvent) → IsAfter v l history state → Makes state (Commanded event) next
      → IsNext v l history (event_command event) (event_deed event) (event_response event) next
  makes-next history state next event after makes =
      subst (IsRegisters v l history (event_command event)) makes.1 (registers-after v l limits history state (event_command event) after)

  goes-on : (events : List VnodeEvent) (history : History) (s t : State Content) → IsAfter v l history s → IsLegal (naming v l) history → MachineRun Makes s (all_commands events) t
      → GoesOnTo v l history events t
  goes-on [] history s t after legal run = record { answered = tt; after = subst (IsAfter v l history) run after; legal = legal }
  goes-on (event ∷ events) history s t after legal (mid, makes, run) =
      let next = makes-next history s mid event after makes in
      let rest = goes-on events (register_event v l history event ∷ history) mid t next.leads next.legal run in
      record { answered = ((mid, next), rest.answered); after = rest.after; legal = rest.legal }

pub run-is-legal : (vnode last_epoch : ℕ) (events : List VnodeEvent) (state : State Content) → RunIsLegal vnode last_epoch events state
run-is-legal v l events state limits run =
    goes-on v l limits events [] (opening v l) state (record { replays = tt; is = refl }) (replay_is_legal v l [] tt) run

pub gate-history-is-legal : (vnode last_epoch : ℕ) (gate : GateId View) (events : List VnodeEvent) (state : View) → GateHistoryIsLegal vnode last_epoch gate events state
gate-history-is-legal v l gate events state limits made replay =
    run-is-legal v l events state.state limits (subst (λ s. MachineRun Makes s (all_commands events) state.state) made.new
    (subst (λ opened. RunFrom (λ (view : View). view.state) Makes opened (all_commands events) state.state) made.made replay))

-- What callers see of a vnode, and what its calls say by the machine's step.
use Rattle.std.specs.Prelude.{◌≡◌, ◌⊎◌, not, Option, Some, None, IsSome, IsTrue, Result, Ok, Err}
use Rattle.std.specs.Option.{option_map_or}
use Rattle.riak_msgs.specs.declared.Key.{Key}
use Rattle.riak_msgs.specs.Contents.{Content}
use Rattle.riak_msgs.specs.declared.PutReply.{PutReply}
use Rattle.sibling_register.specs.History.{Write, Tombstone, Reap as Forget}
use Rattle.sibling_register.specs.Answers.{RegisterAsk as Command, AskPut, AskDel, AskReap}
use Rattle.actor_epoch.specs.Given.{Context}
use Rattle.vnode_machine.specs.Asks.{put_command, del_command}
use Rattle.vnode_machine.specs.Copying.{IsStoredClock, is_stuck, apply_copy, apply_close}
use Rattle.vnode_machine.specs.Dead.{first_dead}
use Rattle.vnode_machine.specs.Machine.{State}
use Rattle.vnode_machine.specs.Replay.{AtEachHistory}
use Rattle.vnode_machine.specs.Step.{PutDone, DelDone, ReapDone, ReapKept, MachineOutcome, Refused, Answered, Accepted, outcome}
use Rattle.vnode_machine.specs.Registers.{IsRegisters}
use Rattle.copy_laws.specs.LegalLogs.{AtEachLog, IsOfLog}
use Rattle.vnode_core.specs.declared.ask.Ask.{Ask}
use Rattle.vnode_core.specs.declared.ask.Ask.TheVariants.{Put, Del, Reap, ReapFirst, Copy, Close}
use Rattle.vnode_core.specs.declared.ask.Answer.{Answer}
use Rattle.vnode_core.specs.declared.ask.Answer.TheVariants as answers
use Rattle.clock_store.specs.declared.store.Reaped.{Reaped}
use Rattle.clock_store.specs.declared.store.Reaped.TheVariants.{Gone, Absent}
use Rattle.rw_gate.specs.declared.kept.Plan.{Plan}
use Rattle.rw_gate.specs.declared.kept.Plan.TheVariants.{Change, Nothing}
use Rattle.vnode_core.specs.declared.refusal.Refusal.{Refusal}
use Rattle.vnode_core.specs.declared.refusal.Refusal.TheVariants.{NoMemory}
use Rattle.vnode_core.specs.Reaping.{reap_result, reap_outcome}
use Rattle.vnode_core.specs.Refusals.{number_of}

-- the machine's state, and the command that was prepared last
pub record View : Type 0 where
  pub state : State Content
  pub prepared : Option Ask

-- what a reap of the least dead key at or after one comes to at the machine
abbrev pub first_reap : State Content → Option Key → MachineOutcome
first_reap state from = option_map_or (λ key. outcome state (AskReap key)) (first_dead state from) (Answered ReapKept)

-- a write of a client
abbrev pub IsWrite : Ask → Type 0
IsWrite (Put put) = Unit {0}
IsWrite (Del del) = Unit {0}
IsWrite (Reap key) = ⊥
IsWrite (ReapFirst from) = ⊥
IsWrite (Copy copy) = ⊥
IsWrite (Close number) = ⊥

abbrev pub IsAcceptedStep : MachineOutcome → Type 0
IsAcceptedStep (Refused number) = ⊥
IsAcceptedStep (Answered response) = ⊥
IsAcceptedStep (Accepted operation response next) = Unit {0}

-- a vnode that isn't closed takes the ask: the machine accepts the command; a copy isn't stuck
abbrev pub AcceptsOpen : State Content → Ask → Type 0
AcceptsOpen state (Put put) = IsAcceptedStep (outcome state (AskPut (put_command put)))
AcceptsOpen state (Del del) = IsAcceptedStep (outcome state (AskDel (del_command del)))
AcceptsOpen state (Reap key) = IsAcceptedStep (outcome state (AskReap key))
AcceptsOpen state (ReapFirst from) = IsAcceptedStep (first_reap state from)
AcceptsOpen state (Copy copy) = IsStoredClock copy.clock × IsTrue (not (is_stuck state copy.key copy.clock))
AcceptsOpen state (Close number) = Unit {0}

-- a closed one takes none
abbrev pub AcceptsAsk : State Content → Ask → Type 0
AcceptsAsk state ask = (state.closed ≡ None) × AcceptsOpen state ask

-- the change is the command, it is what is prepared, and the vnode takes it
pub record IsPrepared (vnode : View) (ask : Ask) (change : Ask) : Type 0 where
  pub is : change ≡ ask
  pub prepared : vnode.prepared ≡ Some ask
  pub accepted : AcceptsAsk vnode.state ask

-- what is prepared the vnode takes
abbrev pub AcceptsPrepared : View → Type 0
AcceptsPrepared vnode = (ask : Ask) → vnode.prepared ≡ Some ask → AcceptsAsk vnode.state ask

-- what a vnode that isn't closed answers where nothing changes: to a delete without context that there was nothing to delete, to a
-- reap of a key that isn't dead whether it has a value, to one of the least dead key that there is none, to a copy that it is stuck
abbrev pub AnswersOpen : State Content → Ask → Answer → Type 0
AnswersOpen state (Put put) answer = ⊥
AnswersOpen state (Del del) answer = (answer ≡ answers.Del) × (outcome state (AskDel (del_command del)) ≡ Answered DelDone)
AnswersOpen state (Reap key) answer = (answer ≡ answers.Reaped (reap_result state key)) × (outcome state (AskReap key) ≡ Answered ReapKept)
AnswersOpen state (ReapFirst from) answer = (answer ≡ answers.Reaped Absent) × (first_dead state from ≡ None)
AnswersOpen state (Copy copy) answer = (answer ≡ answers.Stuck) × IsTrue (is_stuck state copy.key copy.clock)
AnswersOpen state (Close number) answer = ⊥

-- a closed one says so to each ask
abbrev pub IsAnsweredUnchanged : State Content → Ask → Answer → Type 0
IsAnsweredUnchanged state ask answer = ((state.closed ≡ None) × AnswersOpen state ask answer) ⊎ (IsSome state.closed × (answer ≡ answers.Closed))

-- nothing changes, and nothing is prepared
pub record IsDone (vnode : View) (ask : Ask) (answer : Answer) : Type 0 where
  pub prepared : vnode.prepared ≡ None
  pub answered : IsAnsweredUnchanged vnode.state ask answer

abbrev pub Plans : View → Ask → Plan Ask Answer → Type 0
Plans vnode ask (Change change) = IsPrepared vnode ask change
Plans vnode ask (Nothing answer) = IsDone vnode ask answer

-- the refusal is the machine's; memory is refused only where it accepts; a reap and a close are never refused
abbrev pub RefusesOpen : State Content → Ask → Refusal → Type 0
RefusesOpen state (Reap key) refusal = ⊥
RefusesOpen state (ReapFirst from) refusal = ⊥
RefusesOpen state (Close number) refusal = ⊥
RefusesOpen state (Copy copy) refusal = (refusal ≡ NoMemory) × AcceptsOpen state (Copy copy)
RefusesOpen state (Put put) NoMemory = AcceptsOpen state (Put put)
RefusesOpen state (Put put) refusal = outcome state (AskPut (put_command put)) ≡ Refused (number_of refusal)
RefusesOpen state (Del del) NoMemory = AcceptsOpen state (Del del)
RefusesOpen state (Del del) refusal = outcome state (AskDel (del_command del)) ≡ Refused (number_of refusal)

-- a closed vnode refuses nothing
abbrev pub Refuses : State Content → Ask → Refusal → Type 0
Refuses state ask refusal = (state.closed ≡ None) × RefusesOpen state ask refusal

-- finishing a change makes the machine's step: this is its answer, and the state after it
abbrev pub StepsOpen : State Content → Ask → Answer → State Content → Type 0
StepsOpen old (Put put) answer new =
    (reply : PutReply) × (answer ≡ answers.Put reply) × (outcome old (AskPut (put_command put)) ≡ Accepted (Write put.content) (PutDone reply) new)
StepsOpen old (Del del) answer new = (answer ≡ answers.Del) × (outcome old (AskDel (del_command del)) ≡ Accepted Tombstone DelDone new)
StepsOpen old (Reap key) answer new = (answer ≡ answers.Reaped Gone) × (outcome old (AskReap key) ≡ Accepted Forget ReapDone new)
StepsOpen old (ReapFirst from) answer new = (answer ≡ answers.Reaped Gone) × (first_reap old from ≡ Accepted Forget ReapDone new)
StepsOpen old (Copy copy) answer new =
    (answer ≡ answers.Copied) × AcceptsOpen old (Copy copy) × (new ≡ apply_copy old copy.key copy.clock)
StepsOpen old (Close number) answer new = (answer ≡ answers.Closed) × (new ≡ apply_close old number)

abbrev pub Steps : State Content → Ask → Answer → State Content → Type 0
Steps old change answer new = (old.closed ≡ None) × StepsOpen old change answer new

-- what a command comes to where it is planned, or refused
abbrev pub planned : {X : Type 0} → MachineOutcome → Result X Refusal → MachineOutcome
planned result (Ok plan) = result
planned result (Err refusal) = Refused (number_of refusal)

-- the register may do so with its command: at each history that the vnode may have had; and at each legal log with copies, over
-- the numbers of all sides
pub record Registers (state : State Content) (command : Command Content Context) (result : MachineOutcome) : Type 0 where
  pub at_history : AtEachHistory state (λ vnode last_epoch history. IsRegisters vnode last_epoch history command result)
  pub at_log : AtEachLog state command (λ partition log fallbacks. IsOfLog partition log fallbacks command result)

-- the register may do so with the command that is asked for, and so with each key that the reap of the least dead one may be of. Of a
-- copy and a close the register says nothing
abbrev pub RegistersPlan : {X : Type 0} → State Content → Ask → Result X Refusal → Type 0
RegistersPlan state (Put put) result = Registers state (AskPut (put_command put)) (planned (outcome state (AskPut (put_command put))) result)
RegistersPlan state (Del del) result = Registers state (AskDel (del_command del)) (planned (outcome state (AskDel (del_command del))) result)
RegistersPlan state (Reap key) result = Registers state (AskReap key) (planned (outcome state (AskReap key)) result)
RegistersPlan state (ReapFirst from) result =
    (key : Key) → first_dead state from ≡ Some key → Registers state (AskReap key) (planned (outcome state (AskReap key)) result)
RegistersPlan state (Copy copy) result = Unit {0}
RegistersPlan state (Close number) result = Unit {0}

-- a command that is accepted with this answer, and the state after it
abbrev pub RegistersStep : State Content → Ask → Answer → State Content → Type 0
RegistersStep old (Put put) answer new =
    (reply : PutReply) → answer ≡ answers.Put reply → Registers old (AskPut (put_command put)) (Accepted (Write put.content) (PutDone reply) new)
RegistersStep old (Del del) answer new = Registers old (AskDel (del_command del)) (Accepted Tombstone DelDone new)
RegistersStep old (Reap key) answer new = Registers old (AskReap key) (Accepted Forget ReapDone new)
RegistersStep old (ReapFirst from) answer new =
    (key : Key) → first_dead old from ≡ Some key → Registers old (AskReap key) (Accepted Forget ReapDone new)
RegistersStep old (Copy copy) answer new = Unit {0}
RegistersStep old (Close number) answer new = Unit {0}

-- with the reap of a key, by its result and the state after it
abbrev pub RegistersReap : State Content → Key → Reaped → State Content → Type 0
RegistersReap old key result new = Registers old (AskReap key) (reap_outcome result new)

-- and with that of the least dead key at or after one
abbrev pub RegistersFirstReap : State Content → Option Key → State Content → Type 0
RegistersFirstReap old from new = (key : Key) → first_dead old from ≡ Some key → RegistersReap old key Gone new

-- The history of a vnode behind a gate: the commands that it accepted, each as it was asked and answered, with the copies and
-- the close among them; and the register's history that the commands are, where it took no copy and isn't closed.
use Rattle.std.specs.Prelude.{◌≡◌, not, List, [], ◌∷◌, ℕ, map, Some, None, IsTrue, unwrap_or}
use Rattle.riak_msgs.specs.declared.Key.{Key}
use Rattle.riak_msgs.specs.Contents.{Content}
use Rattle.sibling_register.specs.History.{Event as RegisterEvent, Operation, Write, Tombstone, Reap as ReapDeed}
use Rattle.sibling_register.specs.Answers.{RegisterAsk as Command, AskPut, AskDel, AskReap}
use Rattle.sibling_register.specs.Legal.{IsLegal}
use Rattle.actor_epoch.specs.Given.{Context, context_of}
use Rattle.vnode_machine.specs.Asks.{put_command, del_command}
use Rattle.vnode_machine.specs.Copying.{IsStoredClock, is_stuck, apply_copy, apply_close}
use Rattle.vnode_machine.specs.Dead.{is_from, first_dead}
use Rattle.vnode_machine.specs.Machine.{State, opening, apply_operation}
use Rattle.vnode_machine.specs.Registers.{next_event, IsNext}
use Rattle.vnode_machine.specs.Replay.{History, naming, IsWithinLimits, IsAfter}
use Rattle.vnode_machine.specs.Replies.{put_reply}
use Rattle.vnode_machine.specs.Step.{Response, PutDone, DelDone, ReapDone, Accepted, outcome}
pub use Rattle.rw_gate.specs.Machines.{MachineRun}
use Rattle.rw_gate.specs.Views.{GateId}
use Rattle.rw_gate.specs.Histories.{IsReplay}
use Rattle.vnode_core.specs.declared.ask.Ask.{Ask}
use Rattle.vnode_core.specs.declared.ask.Ask.TheVariants as asks
use Rattle.vnode_core.specs.declared.ask.Answer.{Answer}
use Rattle.vnode_core.specs.declared.ask.Answer.TheVariants as answers
use Rattle.clock_store.specs.declared.store.Reaped.TheVariants.{Gone}
use Rattle.vnode_core.specs.declared.event.VnodeEvent.{VnodeEvent}
use Rattle.vnode_core.specs.declared.event.VnodeEvent.TheVariants.{Put, Del, Reap}
use Rattle.vnode_core.specs.declared.entry.Entry.{Entry}
use Rattle.vnode_core.specs.declared.entry.Entry.TheVariants.{Command as Commanded, Copied, Closed}
use Rattle.vnode_core.specs.Plans.{View}

-- the command of an event, what it did, and the machine's response to it
abbrev pub event_command : VnodeEvent → Command Content Context
event_command (Put put reply) = AskPut (put_command put)
event_command (Del del) = AskDel (del_command del)
event_command (Reap key) = AskReap key

abbrev pub event_deed : VnodeEvent → Operation Content
event_deed (Put put reply) = Write put.content
event_deed (Del del) = Tombstone
event_deed (Reap key) = ReapDeed

abbrev pub event_response : VnodeEvent → Response
event_response (Put put reply) = PutDone reply
event_response (Del del) = DelDone
event_response (Reap key) = ReapDone

-- the commands of a log, without copies and closes
abbrev pub commands_of : List Entry → List VnodeEvent
commands_of [] = []
commands_of (Commanded event ∷ entries) = event ∷ commands_of entries
commands_of (Copied copy ∷ entries) = commands_of entries
commands_of (Closed number ∷ entries) = commands_of entries

-- a log of commands alone
abbrev pub all_commands : List VnodeEvent → List Entry
all_commands events = map (λ event. Commanded event) events

-- these entries are commands alone
abbrev pub AreCommands : List Entry → Type 0
AreCommands entries = (events : List VnodeEvent) × (entries ≡ all_commands events)

-- a vnode that isn't closed takes the entry in the first state, and goes on to the second: the machine accepts the event's command,
-- and answers it as the event says; a copy isn't stuck, and its clock is one that a vnode can hold; a close forgets all keys
abbrev pub MakesOpen : State Content → Entry → State Content → Type 0
MakesOpen state (Commanded event) next = outcome state (event_command event) ≡ Accepted (event_deed event) (event_response event) next
MakesOpen state (Copied copy) next =
    IsStoredClock copy.clock × IsTrue (not (is_stuck state copy.key copy.clock)) × (next ≡ apply_copy state copy.key copy.clock)
MakesOpen state (Closed number) next = next ≡ apply_close state number

-- a closed one takes none
abbrev pub Makes : State Content → Entry → State Content → Type 0
Makes state entry next = (state.closed ≡ None) × MakesOpen state entry next

-- a reap of this key was asked for: of the key itself, or of the first dead one at or after a key
abbrev pub AsksReap : Key → Ask → Type 0
AsksReap key (asks.Put put) = ⊥
AsksReap key (asks.Del del) = ⊥
AsksReap key (asks.Reap asked) = asked ≡ key
AsksReap key (asks.ReapFirst from) = IsTrue (is_from from key)
AsksReap key (asks.Copy copy) = ⊥
AsksReap key (asks.Close number) = ⊥

-- the event is of what was asked
abbrev pub AsksEvent : VnodeEvent → Ask → Type 0
AsksEvent (Put put reply) ask = ask ≡ asks.Put put
AsksEvent (Del del) ask = ask ≡ asks.Del del
AsksEvent (Reap key) ask = AsksReap key ask

-- so is an entry
abbrev pub EntryAsks : Entry → Ask → Type 0
EntryAsks (Commanded event) ask = AsksEvent event ask
EntryAsks (Copied copy) ask = ask ≡ asks.Copy copy
EntryAsks (Closed number) ask = ask ≡ asks.Close number

-- and says that it was answered so
abbrev pub AnswersEvent : VnodeEvent → Answer → Type 0
AnswersEvent (Put put reply) answer = answer ≡ answers.Put reply
AnswersEvent (Del del) answer = answer ≡ answers.Del
AnswersEvent (Reap key) answer = answer ≡ answers.Reaped Gone

abbrev pub AnsweredBy : Entry → Answer → Type 0
AnsweredBy (Commanded event) answer = AnswersEvent event answer
AnsweredBy (Copied copy) answer = answer ≡ answers.Copied
AnsweredBy (Closed number) answer = answer ≡ answers.Closed

-- a key of no bytes, which no event names
abbrev pub no_key : Key
no_key = record { bucket_type = []; bucket = []; key = [] }

-- the entry that an ask makes which the vnode takes in this state
abbrev pub entry_of : State Content → Ask → Entry
entry_of state (asks.Put put) =
    Commanded (Put put (put_reply (apply_operation state put.key (context_of put.context) (Write put.content)) (put_command put)))
entry_of state (asks.Del del) = Commanded (Del del)
entry_of state (asks.Reap key) = Commanded (Reap key)
entry_of state (asks.ReapFirst from) = Commanded (Reap (unwrap_or (first_dead state from) no_key))
entry_of state (asks.Copy copy) = Copied copy
entry_of state (asks.Close number) = Closed number

-- a change is the ask that is prepared, and the vnode takes the entry that it makes
pub record IsLoggable (vnode : View) (change : Ask) (before : View) : Type 0 where
  pub prepared : vnode.prepared ≡ Some change
  pub same : before.state ≡ vnode.state
  pub next : State Content
  pub makes : Makes vnode.state (entry_of before.state change) next

module _ (vnode last_epoch : ℕ) where
  -- the register's event, behind its history
  abbrev pub register_event : History → VnodeEvent → RegisterEvent Content Context
  register_event history event = next_event vnode last_epoch history (event_command event) (event_deed event)

  -- the register's history, newest first, after these events, oldest first
  abbrev pub history_after : History → List VnodeEvent → History
  history_after history [] = history
  history_after history (event ∷ events) = history_after (register_event history event ∷ history) events

  -- each event is the register's next one at its place, and was answered as the register answers it there
  abbrev pub AreNext : History → List VnodeEvent → Type 0
  AreNext history [] = Unit {0}
  AreNext history (event ∷ events) =
      ((next : State Content)
      × IsNext vnode last_epoch history (event_command event) (event_deed event) (event_response event) next)
      × AreNext (register_event history event ∷ history) events

  -- from a history on, these events lead to a legal history, of which the state is the replay
  pub record GoesOnTo (before : History) (events : List VnodeEvent) (state : State Content) : Type 0 where
    pub answered : AreNext before events
    pub after : IsAfter vnode last_epoch (history_after before events) state
    pub legal : IsLegal (naming vnode last_epoch) (history_after before events)

  -- a run of commands from the opening state of a vnode is a legal history
  abbrev pub RunIsLegal : List VnodeEvent → State Content → Type 0
  RunIsLegal events state =
      IsWithinLimits vnode last_epoch → MachineRun Makes (opening vnode last_epoch) (all_commands events) state → GoesOnTo [] events state

  -- the gate was made round a vnode in its opening state
  pub record IsMadeNew (gate : GateId View) : Type 0 where
    pub first : View
    pub made : gate.opening ≡ Some first
    pub new : first.state ≡ opening vnode last_epoch

  -- of a gate round a new vnode, each history of commands alone is legal whose replay is a state
  abbrev pub GateHistoryIsLegal : GateId View → List VnodeEvent → View → Type 0
  GateHistoryIsLegal gate events state =
      IsWithinLimits vnode last_epoch → IsMadeNew gate → IsReplay (λ v. v.state) Makes gate (all_commands events) state
      → GoesOnTo [] events state.state

-- What is claimed of every schedule, claim by claim: of the world after it (`AfterEvery`), or of any step from there too
-- (`AtEveryStep`).
use Rattle.std.specs.Prelude.{◌≡◌, ◌≢◌, ◌⊎◌, ◌++◌, Bool, true, false, is_some, List, [], ◌∷◌, ℕ, not, Option, Some, None, Result, Ok, Err, IsTrue, slice_get}
use Rattle.riak_msgs.specs.declared.Key.{Key}
use Rattle.riak_msgs.specs.Contents.{Content}
use Rattle.sibling_register.specs.History.{Event, content_of}
use Rattle.sibling_register.specs.Siblings.{siblings, is_among, is_defined}
use Rattle.sibling_register.specs.Legal.{IsLegal}
use Rattle.sibling_register.specs.Leaving.{is_seen_in}
use Rattle.actor_epoch.specs.declared.Dot.{Dot}
use Rattle.actor_epoch.specs.Given.{Context}
use Rattle.vnode_machine.specs.Machine.{State, opening, clock_of}
use Rattle.vnode_machine.specs.Lives.{dot_of, is_alive}
use Rattle.vnode_machine.specs.Replay.{History, naming, HasReplay, IsAfter}
use Rattle.vnode_machine.specs.Step.{Response, MachineOutcome, Refused, Answered, Accepted, outcome as outcome_of_ask}
use Rattle.vnode_machine.specs.Contexts.{SawPosition}
use Rattle.vnode_machine.specs.Runs.{IsAnswer, reply_of}
use Rattle.vnode_machine.specs.Laws.{NoDotTwice, DotsAreOfLives}
use Rattle.vnode_machine.specs.Leaving.{is_taken_in}
use Rattle.copy_laws.specs.Copies.{Command, Copied, Closed, Copy, commands_of}
use Rattle.copy_laws.specs.CopyReplay.{state_with}
use Rattle.copy_laws.specs.Joining.{Log}
use Rattle.node_steps.specs.World.{CopyInside, CopyTaken, CloseInside, Phase, Reading, Holding, Copying, Closing, SiteVnode, Worker, World, CommandsAlone, Call, worker_at, route, id_at, own_at, last_epoch_at, log_at, history_at, front_at, call_at}
use Rattle.node_steps.specs.Steps.{accepted_in, Looks, Step, By, number_of, Outcome, Happened, Replied, CopiedBack, Elsewhere, left_in, happens, after, outcome}
use Rattle.node_steps.specs.Schedules.{Start, IsStart, world_after, Begins}
use Rattle.node_steps.specs.Contexts.{GivesShownInRun}
use Rattle.node_steps.specs.Told.{log_by}

-- what holds of the world after every schedule
abbrev pub AfterEvery : (World → Type 0) → Type 0
AfterEvery Holds = (start : Start) → IsStart start → (schedule : List Step) → Holds (world_after start schedule)

-- what holds of it and of every step from there
abbrev pub AtEveryStep : (World → Step → Type 0) → Type 0
AtEveryStep Holds = (start : Start) → IsStart start → (schedule : List Step) (step : Step) → Holds (world_after start schedule) step

-- no command follows a copy or a close: so it is of each fallback, and of a primary until it was asked behind copies
abbrev pub CommandsFirst : Log → Type 0
CommandsFirst [] = Unit {0}
CommandsFirst (Command event ∷ before) = CommandsAlone before
CommandsFirst (Copied copy ∷ before) = CommandsFirst before
CommandsFirst (Closed number ∷ before) = CommandsFirst before

-- the state after the log at a site
abbrev pub state_at : World → (site : ℕ) → State Content
state_at w site = state_with (opening (id_at w site) (last_epoch_at w site)) (log_at w site)

-- the history at each such site has a replay, and is legal, the machine's contexts being its naming
abbrev pub HistoriesAreLegal : World → Type 0
HistoriesAreLegal w =
    (site : ℕ) → CommandsFirst (log_at w site) → HasReplay (id_at w site) (last_epoch_at w site) (history_at w site) × IsLegal (naming (id_at w site) (last_epoch_at w site)) (history_at w site)

-- the state that a worker in this phase is shown where it looks: the one in place, or the one in its hand
abbrev pub state_shown : Phase → SiteVnode → Option (ℕ × State Content)
state_shown (Reading site get) vnode = Some (site, vnode.place)
state_shown (Holding site ask hand None) vnode = Some (site, hand)
state_shown (Copying own site key CopyInside) vnode = Some (site, vnode.place)
state_shown (Copying own site key (CopyTaken clock hand None)) vnode = Some (own, hand)
state_shown (Closing own site (CloseInside hand)) vnode = Some (own, vnode.place)
state_shown phase vnode = None

-- a closer is shown the one in its hand too
abbrev pub hand_shown : Phase → Option (ℕ × State Content)
hand_shown (Closing own site (CloseInside hand)) = Some (site, hand)
hand_shown phase = None

-- a state is the one after a log, so the replay of its history where nothing was copied
abbrev pub IsReplayOf : (id last_epoch : ℕ) → Log → State Content → Type 0
IsReplayOf id last_epoch log state =
    (state ≡ state_with (opening id last_epoch) log) × (CommandsAlone log → IsAfter id last_epoch (commands_of log) state)

-- the state that a look would show to any worker is the one after the vnode's whole log
abbrev pub LooksShowReplays : World → Type 0
LooksShowReplays w =
    (number site : ℕ) (worker : Worker) (vnode : SiteVnode) (state : State Content)
    → worker_at w number ≡ Some worker → slice_get w.vnodes site ≡ Some vnode
    → (state_shown worker.phase vnode ≡ Some (site, state)) ⊎ (hand_shown worker.phase ≡ Some (site, state))
    → IsReplayOf vnode.id vnode.last_epoch vnode.log state

-- a fallback of a site's partition was closed
abbrev pub HadClose : World → (site : ℕ) → Type 0
HadClose w site = (other : ℕ) × (own_at w other ≡ own_at w site) × ((state_at w other).closed ≢ None)

-- where a worker has a call nothing was copied, and nothing is closed, unless a fallback of that partition was; so until then no command
-- follows a copy
abbrev pub CallsMeetNoCopies : World → Type 0
CallsMeetNoCopies w =
    ((number : ℕ) (call : Call) → call_at w number ≡ Some call → CommandsAlone (log_at w call.site) ⊎ HadClose w call.site)
    × ((site : ℕ) → CommandsFirst (log_at w site) ⊎ HadClose w site)

-- to a fallback nothing is copied: no command follows its close, and until then its log is of commands alone
abbrev pub FallbacksTakeCommands : World → Type 0
FallbacksTakeCommands w =
    (site : ℕ) → own_at w site ≢ site → CommandsFirst (log_at w site) × ((state_at w site).closed ≡ None → CommandsAlone (log_at w site))

-- what comes of a look, by what the machine does with the call in the state that is shown
abbrev pub comes_of : MachineOutcome → Outcome
comes_of (Refused number) = Replied (Err number)
comes_of (Answered response) = Replied (Ok response)
comes_of (Accepted operation response next) = Happened

-- where that is closed, the call is turned away
abbrev pub comes_unless : (closed : Bool) → MachineOutcome → Outcome
comes_unless true came = Elsewhere
comes_unless false came = comes_of came

-- a look is shown the state after its vnode's whole log at that step, which is the replay of the history where nothing was copied, and
-- what comes of it is what the machine does with the worker's call in that state
pub record SeesReplay (w : World) (step : Step) (came : Outcome) : Type 0 where
  pub call : Call
  pub asked : call_at w (number_of step) ≡ Some call
  pub state : State Content
  pub replay : IsReplayOf (id_at w call.site) (last_epoch_at w call.site) (log_at w call.site) state
  pub comes : came ≡ comes_unless (is_some state.closed) (outcome_of_ask state call.ask)

-- each look for a call that is possible does
abbrev pub LooksSeeReplays : World → Step → Type 0
LooksSeeReplays w step =
    (number : ℕ) → step ≡ By number Looks → call_at w number ≢ None → (came : World × Outcome) → happens w step ≡ Some came → SeesReplay w step came.1

-- a reply answers the worker's call, where nothing is closed, as the machine does in the state after the log there, which has just the
-- command more that was accepted; where nothing was copied, so at each fallback, as the register may at the end of the history there, which
-- then is the one after
pub record IsRegistersReply (w : World) (step : Step) (reply : Result Response ℕ) : Type 0 where
  pub call : Call
  pub asked : call_at w (number_of step) ≡ Some call
  pub opened : (state_at w call.site).closed ≡ None
  pub reply_is : reply ≡ reply_of (outcome_of_ask (state_at w call.site) call.ask)
  pub log_is : log_at (after w step) call.site
      ≡ log_by (id_at w call.site) (last_epoch_at w call.site) (log_at w call.site) call.ask (outcome_of_ask (state_at w call.site) call.ask)
  pub answer : CommandsAlone (log_at w call.site) ⊎ (own_at w call.site ≢ call.site) → IsAnswer (id_at w call.site) (last_epoch_at w call.site) (history_at w call.site) (record { ask = call.ask; reply = reply })
      (history_at (after w step) call.site)

-- every reply, refusals too, is the register's, at the position of the look, or, of an accepted command, of the publish
abbrev pub RepliesAreRegisters : World → Step → Type 0
RepliesAreRegisters w step = (reply : Result Response ℕ) → outcome w step ≡ Replied reply → IsRegistersReply w step reply

-- the step answers a call at this site
pub record RepliesAt (w : World) (step : Step) (site : ℕ) : Type 0 where
  pub call : Call
  pub asked : call_at w (number_of step) ≡ Some call
  pub at : call.site ≡ site
  pub reply : Result Response ℕ
  pub replied : outcome w step ≡ Replied reply

-- what comes of a step copies a key to this site from the one that the partition's calls go to: its log has the copy more, with the
-- clock that the key has there, and the history
pub record CopiesIn (w : World) (came : World × Outcome) (site : ℕ) : Type 0 where
  pub copied : came.1 ≡ CopiedBack
  pub copy : Copy Content
  pub log_is : log_at came.0 site ≡ Copied copy ∷ log_at w site
  pub from : ℕ
  pub from_is : route w site ≡ Some from
  pub clock : copy.clock ≡ clock_of (state_at w from) copy.key
  pub prefix : copy.prefix ≡ history_at w from

abbrev pub CopiesTo : World → Step → (site : ℕ) → Type 0
CopiesTo w step site = CopiesIn w (after w step, outcome w step) site

-- what comes of a step closes the fallback at this site, to which a partition's calls went: its log has the close more, with the number
-- of commands that the primary accepted; each key that the fallback holds is copied as it is there; and the calls go to the primary
pub record ClosesIn (w : World) (came : World × Outcome) (site : ℕ) : Type 0 where
  pub number : ℕ
  pub log_is : log_at came.0 site ≡ Closed number ∷ log_at w site
  pub own : ℕ
  pub from_is : route w own ≡ Some site
  pub number_is : number ≡ accepted_in (state_at w own)
  pub copied : left_in (state_at w own) (state_at w site) ≡ 0
  pub to_is : route came.0 own ≡ Some own

abbrev pub ClosesAt : World → Step → (site : ℕ) → Type 0
ClosesAt w step site = ClosesIn w (after w step, outcome w step) site

-- no step changes a log but one that answers a call there, or copies to there, or closes it
abbrev pub NothingElseHappens : World → Step → Type 0
NothingElseHappens w step = (site : ℕ) → (log_at (after w step) site ≡ log_at w site) ⊎ (RepliesAt w step site ⊎ (CopiesTo w step site ⊎ ClosesAt w step site))

-- a reply's position isn't before the front that its worker had seen there, copies and closes too; afterwards the worker has seen the
-- whole log, its own event included
abbrev pub RepliesHaveSeen : World → Step → Type 0
RepliesHaveSeen w step =
    (site : ℕ) → RepliesAt w step site
    → Begins (front_at w (number_of step) site) (log_at w site)
    × (front_at (after w step) (number_of step) site ≡ log_at (after w step) site)

-- two writes or tombstones of one vnode have different dots, whatever their keys and lives; the dots are the lives'
abbrev pub NoDotIsIssuedTwice : World → Type 0
NoDotIsIssuedTwice w =
    (site : ℕ) → NoDotTwice (id_at w site) (last_epoch_at w site) (history_at w site)
    × DotsAreOfLives (id_at w site) (last_epoch_at w site) (history_at w site)

-- a key is in a life exactly where it is defined
abbrev pub LivesAreOfDefinedKeys : World → Type 0
LivesAreOfDefinedKeys w = (site : ℕ) (key : Key) → CommandsFirst (log_at w site) → is_alive (history_at w site) key ≡ is_defined (history_at w site) key

-- a write is a sibling of its key at one position of a history, and at a later one it isn't
pub record IsSiblingNoMore (history between position : History) (key : Key) (number : ℕ) : Type 0 where
  pub later : Begins (between ++ position) history
  pub sibling : IsTrue (is_among (siblings position key) number)
  pub value : content_of position key number ≢ None
  pub no_more : IsTrue (not (is_among (siblings (between ++ position) key) number))

-- a value leaves a key's siblings only where a write or delete between has a context that covers its dot, or is a delete
-- without context
abbrev pub ValuesLeaveOnlyCovered : World → Type 0
ValuesLeaveOnlyCovered w =
    (site : ℕ) (between position : History) (key : Key) (number : ℕ) → CommandsFirst (log_at w site) → IsSiblingNoMore (history_at w site) between position key number
    → (dot : Dot) × (dot_of (id_at w site) (last_epoch_at w site) position key number ≡ Some dot) × IsTrue (is_taken_in between key dot)

-- each event of the key that has a context saw a position of its key
abbrev pub ContextsNamePositions : (id last_epoch : ℕ) → History → Key → Type 0
ContextsNamePositions id last_epoch history key =
    (before : History) (event : Event Content Context) (context : Context) → Begins (event ∷ before) history
    → event.key ≡ key → event.context ≡ Some context → SawPosition id last_epoch before event context

-- a value leaves the key's siblings only where a write or delete between had seen it
abbrev pub HistoryLeavesOnlySeen : History → Key → Type 0
HistoryLeavesOnlySeen history key =
    (between position : History) (number : ℕ) → IsSiblingNoMore history between position key number → IsTrue (is_seen_in between key number)

-- where each context that was given for a key had been shown for it, each names a position, so that what had seen a value
-- that left had named a position where it was
abbrev pub ValuesLeaveOnlySeen : Type 0
ValuesLeaveOnlySeen =
    (start : Start) → IsStart start → (schedule : List Step) (site : ℕ) (key : Key) → GivesShownInRun start site key schedule
    → let w = world_after start schedule in
    CommandsFirst (log_at w site)
    → ContextsNamePositions (id_at w site) (last_epoch_at w site) (history_at w site) key × HistoryLeavesOnlySeen (history_at w site) key

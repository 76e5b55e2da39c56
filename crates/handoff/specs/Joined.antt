-- What the end of a diversion says of its partition, beside what the law of copies asks.
use Rattle.std.specs.Prelude.{◌≡◌, ◌≢◌, ◌⊎◌, ◌≤◌, ◌<◌, ◌+◌, ◌++◌, ℕ, List, [], ◌∷◌, length, IsTrue}
use Rattle.std.specs.List.{list_all}
pub use Rattle.riak_msgs.specs.declared.Key.{Key}
use Rattle.riak_msgs.specs.Contents.{Content}
use Rattle.sibling_register.specs.History.{Event, count_of, events_of, is_update}
use Rattle.actor_epoch.specs.declared.Dot.{Dot}
use Rattle.actor_epoch.specs.Given.{Context}
use Rattle.vnode_machine.specs.Machine.{State}
use Rattle.vnode_machine.specs.Registers.{key_of, context_in_ask}
use Rattle.vnode_machine.specs.Replay.{HasReplay, IsWithinLimits}
use Rattle.copy_laws.specs.Copies.{Copy as LawCopy, LogEntry, Command as LawCommand, Copied as LawCopied, Closed as LawClosed, count_brought}
use Rattle.copy_laws.specs.CopyReplay.{primary_after, seen_at}
use Rattle.copy_laws.specs.Joining.{Log, Fallbacks, IsDiversion, HasDot, HasCome, IsTrueCopy, StandsCopy, StandsReap, IsJoined, AreJointSiblings, NamesWhatCame, SidesRise}
use Rattle.copy_laws.specs.Sides.{Partition, Number, is_covered_by, is_seen_by_primary}
use Rattle.vnode_core.specs.declared.entry.Entry.{Entry}
use Rattle.vnode_core.specs.declared.entry.Entry.TheVariants.{Command, Copied, Closed}
use mathlib.Core.List.{IsPrefix}
use Rattle.rw_gate.specs.Views.{GateId}
use Rattle.vnode_core.specs.KeyCopies.{KeyCopyView}
use Rattle.vnode_core.specs.Plans.{View}
use Rattle.vnode_core.specs.Events.{IsMadeNew, commands_of, event_command, event_deed, history_after}
use Rattle.handoff.specs.Meeting.{copy_of}
use Rattle.handoff.specs.declared.copying.Copied.{Copied as CopyBack}
use Rattle.handoff.specs.declared.gates.Fallback.{Fallback}
use Rattle.handoff.specs.Copying.{CopiesBack, IsCopyOf}
use Rattle.handoff.specs.Started.{TookCopiesAlone}
use Rattle.handoff.specs.Returning.{EndsDiversion}
use Rattle.handoff.specs.Sights.{Sight}

module _ (partition : Partition) where
  -- an entry of the primary as the law of copies has it behind a log: a command with what it saw there
  abbrev pub log_entry : Log → Entry → LogEntry Content
  log_entry log (Command event) = LawCommand (record {
    key = key_of (event_command event);
    operation = event_deed event;
    context = context_in_ask (event_command event);
    saw = seen_at partition log (key_of (event_command event)) (context_in_ask (event_command event)) (event_deed event);
  })
  log_entry log (Copied copy) = LawCopied (copy_of partition copy)
  log_entry log (Closed number) = LawClosed number

  -- the log, newest first, after these entries, oldest first
  abbrev pub log_after : Log → List Entry → Log
  log_after log [] = log
  log_after log (entry ∷ entries) = log_after (log_entry log entry ∷ log) entries

-- a pass is of a partition's primary: its gate was made round the new vnode that the partition names, and what the pass has seen is this log
pub record IsOfPrimary (partition : Partition) (primary : Log) (mine : Sight) : Type 0 where
  pub made_new : IsMadeNew partition.primary partition.last_epoch mine.gate
  pub log : log_after partition [] mine.prefix ≡ primary

-- a pass is of the fallback of a partition's last diversion: its gate was made round the new vnode that the partition names, and the commands
-- that the pass has seen are the fallback's whole history
pub record IsOfLastFallback (partition : Partition) (fallbacks : Fallbacks) (theirs : Sight) : Type 0 where
  pub diverted : 1 ≤ partition.diversions
  pub limits : IsWithinLimits partition.fallback (partition.opened partition.diversions)
  pub made_new : IsMadeNew partition.fallback (partition.opened partition.diversions) theirs.gate
  pub whole : history_after partition.fallback (partition.opened partition.diversions) [] (commands_of theirs.prefix) ≡ fallbacks partition.diversions

module _ (partition : Partition) (primary : Log) (fallbacks : Fallbacks) (key : Key) where
  -- what the return of an earlier diversion has left: the history of its fallback is the machine's and has no reap of the key, and copies
  -- brought all events of the key
  pub record HasSettled (n : ℕ) : Type 0 where
    pub legal : HasReplay partition.fallback (partition.opened n) (fallbacks n)
    pub unreaped : IsTrue (list_all (λ event. is_update event.operation) (events_of (fallbacks n) key))
    pub settled : count_brought primary key n ≡ count_of (fallbacks n) key

  -- no reap of the key stands between a number of a diversion, or who saw it, and a copy of that diversion
  abbrev pub SparesReaps : Type 0
  SparesReaps =
      (later before : Log) (event : Event Content Context) → StandsReap partition primary fallbacks key later event before
      → (number : Number) (dot : Dot) → HasDot partition primary fallbacks key number dot → number.side ≢ 0
      → HasCome partition primary fallbacks key before number ⊎ IsTrue (is_seen_by_primary before key number dot)
      → count_brought later key number.side ≡ 0

  -- no command stands between two copies of a diversion
  abbrev pub TakesTurns : Type 0
  TakesTurns =
      (later before : Log) (event : Event Content Context) → later ++ LawCommand event ∷ before ≡ primary
      → (n : ℕ) → (count_brought later key n ≡ 0) ⊎ (count_brought before key n ≡ 0)

  -- no copy brings a context that covers a dot of another side which comes to the primary only later
  abbrev pub CopiesNameWhatCame : Type 0
  CopiesNameWhatCame =
      (later before : Log) (copy : LawCopy Content) → StandsCopy partition primary fallbacks key later copy before
      → (number : Number) (dot : Dot) → HasDot partition primary fallbacks key number dot → number.side ≢ copy.diversion → IsTrue (is_covered_by copy.prefix key dot)
      → HasCome partition primary fallbacks key primary number → HasCome partition primary fallbacks key before number

  -- what the law of copies asks of a key, beside what the last return says by itself: the earlier diversions have returned, sides rise, each copy
  -- is one of its fallback at some time, and contexts name what was there
  pub record IsHandedOff : Type 0 where
    pub earlier : (n : ℕ) → IsDiversion partition primary fallbacks key n → n < partition.diversions → HasSettled n
    pub rise : SidesRise partition fallbacks
    pub copies : (later before : Log) (copy : LawCopy Content) → StandsCopy partition primary fallbacks key later copy before → IsTrueCopy partition primary fallbacks key copy
    pub reaps : SparesReaps
    pub contexts : CopiesNameWhatCame
    pub came : NamesWhatCame partition primary fallbacks key

  -- where copies of a diversion stand together, and contexts name what was there, no reap stands between
  abbrev pub TurnsSpareReaps : Type 0
  TurnsSpareReaps = SidesRise partition fallbacks → NamesWhatCame partition primary fallbacks key → TakesTurns → SparesReaps

-- a state is the law's at the end of the log, where copies brought all events of the key that the fallbacks accepted, and the key's
-- siblings are the joint ones
pub record IsJoinedIn (partition : Partition) (primary : Log) (fallbacks : Fallbacks) (key : Key) (state : State Content) : Type 0 where
  pub is : state ≡ primary_after partition primary
  pub joined : IsJoined partition primary fallbacks key
  pub siblings : AreJointSiblings partition primary fallbacks key

-- where a diversion has ended, each key is joined in the state that the primary's pass shows
abbrev pub ReturnJoinsKeys : Partition → Log → Fallbacks → (mine theirs : Sight) → Type 0
ReturnJoinsKeys partition primary fallbacks mine theirs =
    (ended : EndsDiversion mine theirs) → IsOfPrimary partition primary mine → IsOfLastFallback partition fallbacks theirs
    → (key : Key) → IsHandedOff partition primary fallbacks key → IsJoinedIn partition primary fallbacks key ended.primary

-- each of these copies is one that a copy back made: of what some pass of the fallback had seen before it was closed
abbrev pub AreMade : (diversion : ℕ) (fallback : GateId View) (before : List Entry) → List KeyCopyView → Type 0
AreMade diversion fallback before [] = Unit {0}
AreMade diversion fallback before (copy ∷ copies) =
    ((their : Sight) × IsCopyOf diversion their (Copied copy) × (their.gate ≡ fallback) × IsPrefix their.prefix before) × AreMade diversion fallback before copies

-- how many keys these copy backs copied
abbrev pub keys_copied : List CopyBack → ℕ
keys_copied [] = 0
keys_copied (call ∷ calls) = call.keys + keys_copied calls

-- Copy backs of one fallback, one behind another: each began behind all that the one before it had seen of the primary, the first behind so many
-- entries. What each saw begins what a pass has seen there, and what the fallback had before it was closed.
abbrev pub CopyInTurn : (primary : GateId View) (fallback : Fallback) (mine : Sight) (before : List Entry) (from : ℕ) → List CopyBack → Type 0
CopyInTurn primary fallback mine before from [] = Unit {0}
CopyInTurn primary fallback mine before from (call ∷ calls) =
    ((budget : ℕ) × CopiesBack primary fallback budget call) × (from ≤ call.began) × IsPrefix call.primary.prefix mine.prefix × IsPrefix call.fallback.prefix before
    × CopyInTurn primary fallback mine before (length call.primary.prefix) calls

-- where they copied as many keys as entries came to the primary since the diversion began, all copies there are theirs
abbrev pub CopiesAreOfCalls : (primary : GateId View) (fallback : Fallback) (mine : Sight) (before : List Entry) → List CopyBack → Type 0
CopiesAreOfCalls primary fallback mine before calls =
    (since : TookCopiesAlone fallback.start mine) → CopyInTurn primary fallback mine before (length since.from.pass.prefix) calls
    → length since.from.pass.prefix + keys_copied calls ≡ length mine.prefix → AreMade fallback.diversion fallback.gate before since.copies

-- How a value leaves a key's siblings at a primary: by a write or delete of some side that had seen it.
use Rattle.std.specs.Prelude.{◌≡◌, ◌≢◌, ◌⊎◌, ◌<◌, ◌++◌, Bool, false, ◌&&◌, ◌||◌, ◌==◌, if◌then◌else◌, List, [], ◌∷◌, ℕ, Some, None, IsTrue}
use Rattle.riak_msgs.specs.declared.Key.{Key}
use Rattle.riak_msgs.specs.KeyOrder.{key_eq}
use Rattle.sibling_register.specs.History.{Event, is_update, content_of}
use Rattle.sibling_register.specs.Siblings.{siblings, is_among}
use Rattle.sibling_register.specs.Leaving.{is_seen_in}
use Rattle.actor_epoch.specs.declared.Dot.{Dot}
use Rattle.actor_epoch.specs.Given.{Context}
use Rattle.vnode_machine.specs.Replay.{History}
use Rattle.copy_laws.specs.Copies.{Copy, LogEntry, Command, Copied, Closed, brought}
use Rattle.copy_laws.specs.Sides.{Partition, Number, has_number, dot_at, content_at, is_covered_by, saw_brought, siblings_at}
use Rattle.copy_laws.specs.CopyReplay.{primary_after}
use Rattle.copy_laws.specs.Joining.{Log, Fallbacks, IsHandOff}
use Rattle.copy_laws.specs.Diversions.{Course, Happens, HappensTo, fallback_of, primary_of}

module _ {V : Type 0} where
  -- a command of the primary saw the number: one of its own side as the command says, one of a fallback by its context
  abbrev pub saw_number : Event V Context → List (LogEntry V) → Number → Dot → Bool
  saw_number event before number dot =
      if number.side == 0 then is_among event.saw number.number else saw_brought event before number dot

  -- a command of the key that the copy brings did: one of its own fallback says so, or its context covers another side's dot
  abbrev pub brings_sight : Copy V → Key → Number → Dot → Bool
  brings_sight copy key number dot =
      if number.side == copy.diversion then is_seen_in copy.prefix key number.number else is_covered_by copy.prefix key dot

  -- a write or delete that an entry of the log is, or brings, had seen the number
  abbrev pub has_seen : LogEntry V → (before : List (LogEntry V)) → Key → Number → Dot → Bool
  has_seen (Command event) before key number dot =
      (key_eq event.key key && is_update event.operation) && saw_number event before number dot
  has_seen (Copied copy) before key number dot = key_eq copy.key key && brings_sight copy key number dot
  has_seen (Closed closed) before key number dot = false

  -- one between two positions had
  abbrev pub is_seen_between : (between position : List (LogEntry V)) → Key → Number → Dot → Bool
  is_seen_between [] position key number dot = false
  is_seen_between (entry ∷ between) position key number dot =
      has_seen entry (between ++ position) key number dot || is_seen_between between position key number dot

-- a write that is a sibling of the key at a position, and none after these entries, was seen by one of them
abbrev pub IsSeenWhereItLeft : Partition → (between position : Log) → Key → Type 0
IsSeenWhereItLeft partition between position key =
    (number : Number) (dot : Dot) → IsTrue (has_number (siblings_at partition position key) number)
    → content_at partition position (brought position key) key number ≢ None
    → dot_at partition position (brought position key) key number ≡ Some dot
    → IsTrue (has_number (siblings_at partition (between ++ position) key) number)
    ⊎ IsTrue (is_seen_between between position key number dot)

-- so it is between each two positions of a hand-off, the later one not closed
abbrev pub HandOffLeavesOnlySeen : Partition → Log → Fallbacks → Key → Type 0
HandOffLeavesOnlySeen partition primary fallbacks key =
    IsHandOff partition primary fallbacks key
    → (later between position : Log) → later ++ (between ++ position) ≡ primary → (primary_after partition (between ++ position)).closed ≡ None
    → IsSeenWhereItLeft partition between position key

-- between each two positions of the primary in a course
abbrev pub CoursesLeaveOnlySeen : Partition → Course → Type 0
CoursesLeaveOnlySeen partition course =
    (partition.primary < partition.fallback) → (key : Key) → HappensTo partition key course
    → (later between position : Log) → later ++ (between ++ position) ≡ primary_of partition course
    → IsSeenWhereItLeft partition between position key

-- and at each fallback, by its own history
abbrev pub FallbacksLeaveOnlySeen : Partition → Course → Type 0
FallbacksLeaveOnlySeen partition course =
    Happens partition course → (n : ℕ) (later between position : History) → later ++ (between ++ position) ≡ fallback_of course n
    → (key : Key) (number : ℕ) → IsTrue (is_among (siblings position key) number) → content_of position key number ≢ None
    → IsTrue (is_among (siblings (between ++ position) key) number) ⊎ IsTrue (is_seen_in between key number)

-- What is claimed of two moments, after some steps of a schedule and after all: how logs go on from the one to the other, and what
-- leaves a partition's siblings in between.
use Rattle.std.specs.Prelude.{◌≡◌, ◌≢◌, ◌⊎◌, ◌<◌, ◌++◌, List, ℕ, None, IsTrue}
use Rattle.riak_msgs.specs.declared.Key.{Key}
use Rattle.sibling_register.specs.History.{content_of}
use Rattle.sibling_register.specs.Siblings.{siblings, is_among}
use Rattle.sibling_register.specs.Leaving.{is_seen_in}
use Rattle.vnode_machine.specs.Replay.{History}
use Rattle.copy_laws.specs.Sides.{Partition, siblings_at}
use Rattle.copy_laws.specs.Joining.{Log}
use Rattle.copy_laws.specs.Leaving.{IsSeenWhereItLeft}
use Rattle.copy_laws.specs.Diversions.{Course, diversions_of, fallback_of}
use Rattle.node_steps.specs.World.{World, log_at}
use Rattle.node_steps.specs.Steps.{Step}
use Rattle.node_steps.specs.Schedules.{Start, IsStart, world_after, Begins}
use Rattle.node_steps.specs.Courses.{GivesShownThere}
use Rattle.node_steps.specs.HandOffs.{HandsOff, HandsOffKey}

-- the log at a site begins the one at each later moment
abbrev pub LogsGrow : Type 0
LogsGrow =
    (start : Start) → IsStart start → (later earlier : List Step) (site : ℕ)
    → Begins (log_at (world_after start earlier) site) (log_at (world_after start (later ++ earlier)) site)

-- a history goes on; a write is a sibling no more only where a write or delete in between had seen it
pub record GoesOnSeen (old new : History) : Type 0 where
  pub between : History
  pub is : between ++ old ≡ new
  pub leaves : (key : Key) (number : ℕ) → IsTrue (is_among (siblings old key) number) → content_of old key number ≢ None
      → IsTrue (is_among (siblings new key) number) ⊎ IsTrue (is_seen_in between key number)

-- the partition with so many diversions: as it was when it had been diverted so often
abbrev pub with_diversions : Partition → (diversions : ℕ) → Partition
with_diversions partition diversions = record partition { diversions = diversions }

-- from one moment to a later one a partition's course goes on, and so do its logs
pub record GoesOn (partition : Partition) (run : ℕ) (old new : World) (index : ℕ) (course happened : Course) : Type 0 where
  pub was : HandsOff (with_diversions partition (diversions_of course)) run old index course
  pub is : HandsOff partition run new index (happened ++ course)
  pub between : Log
  pub grown : between ++ log_at old index ≡ log_at new index
  -- the siblings at the primary, its own and those that came, are the same by the partition as it is later
  pub same : (key : Key) → siblings_at (with_diversions partition (diversions_of course)) (log_at old index) key ≡ siblings_at partition (log_at old index) key
  -- a value leaves those at a fallback only where a write or delete that had seen it was accepted in between
  pub leaves_there : (n : ℕ) → GoesOnSeen (fallback_of course n) (fallback_of (happened ++ course) n)

-- and so does a key, with these entries in between: a value leaves its siblings at the primary only where a write or delete that had seen
-- it was accepted, or brought, in between
pub record GoesOnFor (partition : Partition) (old new : World) (index : ℕ) (course happened : Course) (between : Log) (key : Key) : Type 0 where
  pub was : HandsOffKey (with_diversions partition (diversions_of course)) old index course key
  pub is : HandsOffKey partition new index (happened ++ course) key
  pub leaves : IsSeenWhereItLeft partition between (log_at old index) key

-- so it is for each moment of a run and its end: what happened to the partition is one course, and until the moment a beginning of it had.
-- Of a key it is so where each context that was given for it had been shown
abbrev pub PartitionsGoOn : Type 0
PartitionsGoOn =
    (start : Start) → IsStart start → (schedule : List Step) (index : ℕ) → index < start.vnodes
    → (partition : Partition) × (course : Course)
    × ((later earlier : List Step) → later ++ earlier ≡ schedule
    → (before : Course) × (happened : Course) × (happened ++ before ≡ course)
    × ((on : GoesOn partition start.run (world_after start earlier) (world_after start schedule) index before happened)
    × ((key : Key) → GivesShownThere start index key schedule
    → GoesOnFor partition (world_after start earlier) (world_after start schedule) index before happened on.between key)))

-- What a copy back says across two gates.
use Rattle.std.specs.Prelude.{◌≡◌, ◌≤◌, ◌+◌, ◌-◌, ◌^◌, ◌⊎◌, ℕ, min, List, [], ◌∷◌, ◌++◌, length, All, Option, Some, None, IsSome, IsTrue, MatchOption, slice_get}
use mathlib.Core.List.{IsPrefix}
use Rattle.riak_msgs.specs.Contents.{Content}
use Rattle.rw_gate.specs.Views.{GateId}
use Rattle.vnode_machine.specs.Machine.{State, Stored, stored}
use Rattle.vnode_machine.specs.Copying.{is_stuck}
use Rattle.vnode_core.specs.KeyCopies.{KeyCopyView}
use Rattle.vnode_core.specs.declared.entry.Entry.{Entry}
use Rattle.vnode_core.specs.declared.entry.Entry.TheVariants as entries
use Rattle.vnode_core.specs.Events.{commands_of}
use Rattle.vnode_core.specs.Left.{count_left}
use Rattle.vnode_core.specs.Plans.{View}
use Rattle.handoff.specs.declared.copying.Copied.{Copied}
use Rattle.handoff.specs.declared.fault.HandoffFault.{HandoffFault}
use Rattle.handoff.specs.declared.fault.HandoffFault.TheVariants as faults
use Rattle.handoff.specs.declared.gates.Fallback.{Fallback}
use Rattle.handoff.specs.Partitions.{HandoffView}
use Rattle.handoff.specs.Sights.{Sight, LeadsVnodeTo, ShowsState, ShowsClosed}

-- an entry copies what the fallback held of a key at the end of some prefix of what its pass has seen: the key's clock there, with the
-- diversion's number and the commands of that prefix
pub record IsCopyOf (diversion : ℕ) (theirs : Sight) (entry : Entry) : Type 0 where
  pub copy : KeyCopyView
  pub is : entry ≡ entries.Copied copy
  pub number : copy.diversion ≡ diversion
  pub prefix : List Entry
  pub begins : IsPrefix prefix theirs.prefix
  pub commands : copy.prefix ≡ commands_of prefix
  pub state : State Content
  pub leads : LeadsVnodeTo theirs.gate prefix state
  pub unclosed : state.closed ≡ None
  pub there : Stored Content
  pub held : stored state copy.key ≡ Some there
  pub clock : copy.clock ≡ there.clock

-- what the primary's pass has seen has such an entry at a position
pub record HasCopyAt (diversion : ℕ) (mine theirs : Sight) (position : ℕ) : Type 0 where
  pub entry : Entry
  pub stands : slice_get mine.prefix position ≡ Some entry
  pub copy : IsCopyOf diversion theirs entry

-- and at each of these
abbrev pub AreCopies : ℕ → Sight → Sight → List ℕ → Type 0
AreCopies diversion mine theirs = All (HasCopyAt diversion mine theirs)

-- these positions rise from one on, and all are below another
abbrev pub RiseBetween : (from : ℕ) → List ℕ → (below : ℕ) → Type 0
RiseBetween from [] below = from ≤ below
RiseBetween from (position ∷ positions) below = (from ≤ position) × RiseBetween (position + 1) positions below

-- one key more was copied: the history of the primary has one entry more of the pass's own
pub record CopiesOne (diversion : ℕ) (old mine theirs : Sight) : Type 0 where
  pub position : List Entry
  pub entry : Entry
  pub begins : IsPrefix old.prefix position
  pub seen : mine.prefix ≡ position ++ entry ∷ []
  pub own : mine.own ≡ old.own ++ length position ∷ []
  pub copy : IsCopyOf diversion theirs entry

-- the primary took no copy of a key of the fallback, at the ends of some prefixes of what both passes have seen: with it the key would have too many
-- siblings or actors, or the primary was closed
pub record IsStuckOf (diversion : ℕ) (mine theirs : Sight) (copy : KeyCopyView) : Type 0 where
  pub of_fallback : IsCopyOf diversion theirs (entries.Copied copy)
  pub prefix : List Entry
  pub begins : IsPrefix prefix mine.prefix
  pub state : State Content
  pub leads : LeadsVnodeTo mine.gate prefix state
  pub stuck : IsTrue (is_stuck state copy.key copy.clock) ⊎ IsSome state.closed

-- so many keys were tried, of which so many were copied, and each other one was stuck
pub record WereTried (diversion : ℕ) (mine theirs : Sight) (copied tried : ℕ) : Type 0 where
  pub copies : List KeyCopyView
  pub counted : copied + length copies ≡ tried
  pub stuck : All (IsStuckOf diversion mine theirs) copies

-- at the ends of what both passes have seen so many keys of the fallback aren't copied as they are now
pub record CountsLeft (mine theirs : Sight) (left : ℕ) : Type 0 where
  pub primary : State Content
  pub fallback : State Content
  pub shows : ShowsState mine primary
  pub shows_there : ShowsState theirs fallback
  pub unclosed : fallback.closed ≡ None
  pub is : left ≡ min (count_left primary fallback.keys) (2 ^ 32 - 1)

-- keys were copied from this fallback to this primary, by these passes: each entry that was published at the primary is a copy, behind so many
-- entries that had been seen of it before, and nothing was published at the fallback; each other key that was tried was stuck
pub record CopiesBack (primary : GateId View) (fallback : Fallback) (budget : ℕ) (copied : Copied) : Type 0 where
  pub gate : copied.primary.gate ≡ primary
  pub gate_there : copied.fallback.gate ≡ fallback.gate
  pub copies : AreCopies fallback.diversion copied.primary copied.fallback copied.primary.own
  pub none : copied.fallback.own ≡ []
  pub keys : copied.keys ≡ length copied.primary.own
  pub rise : RiseBetween copied.began copied.primary.own (length copied.primary.prefix)
  pub tried : copied.keys + copied.stuck ≤ budget
  pub stuck : WereTried fallback.diversion copied.primary copied.fallback copied.keys (copied.keys + copied.stuck)
  pub left : CountsLeft copied.primary copied.fallback copied.left

-- so at the partition of an index, whose fallback stands there
pub record IsCopiedBack (handoff : HandoffView) (index budget : ℕ) (copied : Copied) : Type 0 where
  pub primary : GateId View
  pub fallback : Fallback
  pub stands : slice_get handoff.gates index ≡ Some primary
  pub diverted : slice_get handoff.fallbacks index ≡ Some (Some fallback)
  pub copies : CopiesBack primary fallback budget copied

-- a pass of this fallback has seen it closed
abbrev pub SawClosed : Fallback → Sight → Type 0
SawClosed fallback pass = (pass.gate ≡ fallback.gate) × ShowsClosed pass

-- no fallback stands at an index; or this pass of it has seen it closed
abbrev pub IsUndiverted : HandoffView → (index : ℕ) → Option Sight → Type 0
IsUndiverted handoff index seen =
    MatchOption seen (slice_get handoff.fallbacks index ≡ Some None)
    (λ pass. (fallback : Fallback) × (slice_get handoff.fallbacks index ≡ Some (Some fallback)) × SawClosed fallback pass)

-- a fallback stands there
abbrev pub HasFallback : HandoffView → (index : ℕ) → Type 0
HasFallback handoff index = (fallback : Fallback) × (slice_get handoff.fallbacks index ≡ Some (Some fallback))

-- why keys weren't copied back, or no further ones
abbrev pub IsCopyFault : HandoffView → (index : ℕ) → HandoffFault → Type 0
IsCopyFault handoff index faults.AlreadyDiverted = ⊥
IsCopyFault handoff index (faults.NotDiverted seen) = IsUndiverted handoff index seen
IsCopyFault handoff index (faults.LeftOver passes) = ⊥
IsCopyFault handoff index faults.NoMemory = HasFallback handoff index
IsCopyFault handoff index faults.GateStopped = HasFallback handoff index

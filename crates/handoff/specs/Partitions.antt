-- The partitions of a run: the gate of each, and the fallbacks of those that are diverted.
use Rattle.std.specs.Prelude.{◌≡◌, ◌<◌, ◌≤◌, ◌+◌, ◌^◌, ◌⊎◌, ℕ, List, [], ◌∷◌, length, Option, Some, None, IfSome, MatchOption, slice_get, slice_set}
use Rattle.ring_map.specs.Ring.{id_of}
pub use Rattle.rw_gate.specs.Views.{GateId}
use Rattle.vnode_machine.specs.Replay.{IsWithinLimits}
pub use Rattle.vnode_core.specs.Plans.{View}
use Rattle.vnode_core.specs.Events.{IsMadeNew}
use Rattle.handoff.specs.declared.fault.HandoffFault.{HandoffFault}
use Rattle.handoff.specs.declared.fault.HandoffFault.TheVariants.{AlreadyDiverted, NoMemory}
use Rattle.handoff.specs.declared.gates.Fallback.{Fallback}
use Rattle.handoff.specs.Sights.{Sight, ClosedBehind}
use Rattle.handoff.specs.Started.{IsStartOf}

-- how many bits number the partitions, which run it is, the primaries' gates in the partitions' order, and the fallback of
-- each partition that is diverted
pub record HandoffView : Type 0 where
  pub index_bits : ℕ
  pub run : ℕ
  pub gates : List (GateId View)
  pub fallbacks : List (Option Fallback)

-- these gates were made round the new vnodes of a run, from this index on
abbrev pub AreMadeNew : (run index : ℕ) → List (GateId View) → Type 0
AreMadeNew run index [] = Unit {0}
AreMadeNew run index (gate ∷ gates) = IsMadeNew (id_of run index) 0 gate × AreMadeNew run (index + 1) gates

-- the gates of a new run: its number fits into 32 bits, there are at most 1,024, and each was made round the new vnode of its
-- index
pub record AreOfNewRun (run : ℕ) (gates : List (GateId View)) : Type 0 where
  pub made_new : AreMadeNew run 0 gates
  pub fits : run < 2 ^ 32
  pub few : length gates ≤ 1024

-- the id of the vnode of a partition's fallback
abbrev pub fallback_id : (run index : ℕ) → ℕ
fallback_id run index = id_of run index + 32768

-- A fallback's gate was made round a new vnode with that id, one that a vnode can have, behind some last epoch: behind none, where
-- the diversion is the partition's first; else behind the last one of the fallback before it, as the pass that is kept has seen that closed.
pub record IsFallback (run index : ℕ) (fallback : Fallback) : Type 0 where
  pub numbered : 1 ≤ fallback.diversion
  pub last_epoch : ℕ
  pub first : fallback.diversion ≡ 1 → last_epoch ≡ 0
  pub begins : MatchOption fallback.before (last_epoch ≡ 0) (λ pass. ClosedBehind pass last_epoch)
  pub made_new : IsMadeNew (fallback_id run index) last_epoch fallback.gate
  pub limits : IsWithinLimits (fallback_id run index) last_epoch

-- each is the fallback of its index, from this index on
abbrev pub AreFallbacks : (run index : ℕ) → List (Option Fallback) → Type 0
AreFallbacks run index [] = Unit {0}
AreFallbacks run index (fallback ∷ fallbacks) = IfSome fallback (IsFallback run index) × AreFallbacks run (index + 1) fallbacks

-- nothing stands at any of these places
abbrev pub AreNone : {A : Type 0} → List (Option A) → Type 0
AreNone [] = Unit {0}
AreNone (place ∷ places) = (place ≡ None) × AreNone places

-- the number of a partition's last diversion, 0 where there was none
abbrev pub number_of : Option Fallback → ℕ
number_of None = 0
number_of (Some fallback) = fallback.diversion

abbrev pub number_in : Option (Option Fallback) → ℕ
number_in None = 0
number_in (Some fallback) = number_of fallback

abbrev pub diversion_at : HandoffView → (index : ℕ) → ℕ
diversion_at handoff index = number_in (slice_get handoff.fallbacks index)

-- a partition's next fallback begins its epochs behind the last one that the fallback before it gave, as a pass of that one has seen it closed;
-- the first begins at none, and there is no such pass
abbrev pub BeginsBehind : (before : Option Fallback) (seen : Option Sight) (last_epoch : ℕ) → Type 0
BeginsBehind None seen last_epoch = (seen ≡ None) × (last_epoch ≡ 0)
BeginsBehind (Some before) seen last_epoch = (pass : Sight) × (seen ≡ Some pass) × (pass.gate ≡ before.gate) × ClosedBehind pass last_epoch

-- a partition that had no fallback, or a closed one, has a new one of the next number, which keeps what the primary had; and all else is as
-- it was
pub record IsDiverted (index : ℕ) (old new : HandoffView) : Type 0 where
  pub before : Option Fallback
  pub stood : slice_get old.fallbacks index ≡ Some before
  pub fallback : Fallback
  pub next : fallback.diversion ≡ diversion_at old index + 1
  pub is_new : IsFallback old.run index fallback
  pub begins : BeginsBehind before fallback.before is_new.last_epoch
  pub start : (primary : GateId View) → slice_get old.gates index ≡ Some primary → IfSome fallback.start (IsStartOf primary)
  pub is : new ≡ record old { fallbacks = slice_set old.fallbacks index (Some fallback) }

-- why a partition isn't diverted: memory was refused, or it has a fallback
abbrev pub IsDivertRefused : HandoffView → (index : ℕ) → HandoffFault → Type 0
IsDivertRefused old index fault = (fault ≡ NoMemory)
    ⊎ ((fault ≡ AlreadyDiverted) × (fallback : Fallback) × (slice_get old.fallbacks index ≡ Some (Some fallback)))

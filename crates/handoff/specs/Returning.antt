-- What the end of a diversion says across two gates.
use Rattle.std.specs.Prelude.{◌≡◌, ℕ, List, [], ◌∷◌, ◌++◌, length, Option, Some, None, slice_get}
use Rattle.riak_msgs.specs.declared.Key.{Key}
use Rattle.riak_msgs.specs.Contents.{Content}
use Rattle.rw_gate.specs.Views.{GateId}
use Rattle.vnode_machine.specs.Machine.{State, Stored}
use Rattle.vnode_core.specs.declared.entry.Entry.{Entry}
use Rattle.vnode_core.specs.declared.entry.Entry.TheVariants.{Closed}
use Rattle.vnode_core.specs.declared.event.VnodeEvent.{VnodeEvent}
use Rattle.vnode_core.specs.Events.{all_commands}
use Rattle.vnode_core.specs.Plans.{View}
use Rattle.handoff.specs.declared.fault.HandoffFault.{HandoffFault}
use Rattle.handoff.specs.declared.fault.HandoffFault.TheVariants as faults
use Rattle.handoff.specs.declared.fault.Returned.{Returned}
use Rattle.handoff.specs.declared.gates.Fallback.{Fallback}
use Rattle.handoff.specs.Copying.{IsUndiverted, HasFallback}
use Rattle.handoff.specs.Left.{AreCopied, IsFirstLeft}
use Rattle.handoff.specs.Partitions.{HandoffView}
use Rattle.handoff.specs.declared.gates.Start.{Start}
use Rattle.handoff.specs.Sights.{Sight, LeadsVnodeTo, ShowsState}
use Rattle.handoff.specs.Started.{EachIs, IsUpdate, TookCopiesAlone}

-- the history of the fallback is one of writes and deletes, and ends with a close, at a position where each of its keys was copied as it was
-- then, by what the pass of the primary has seen, which isn't closed; the close has the length of that, and nothing was published at the primary
pub record EndsDiversion (mine theirs : Sight) : Type 0 where
  pub before : List Entry
  pub primary : State Content
  pub fallback : State Content
  pub shows : ShowsState mine primary
  pub leads : LeadsVnodeTo theirs.gate before fallback
  pub unclosed : fallback.closed ≡ None
  pub open_still : primary.closed ≡ None
  pub events : List VnodeEvent
  pub plain : before ≡ all_commands events
  pub updates : EachIs IsUpdate events
  pub copied : AreCopied primary fallback.keys
  pub seen : theirs.prefix ≡ before ++ Closed (length mine.prefix) ∷ []
  pub own : theirs.own ≡ length before ∷ []
  pub own_here : mine.own ≡ []

-- and only copies came to the primary since it was diverted
pub record EndsFrom (start : Option Start) (mine theirs : Sight) : Type 0 where
  pub ended : EndsDiversion mine theirs
  pub since : TookCopiesAlone start mine

-- a key of the fallback isn't copied at the ends of what the passes have seen, the first of these in their order, and nothing was
-- published
pub record HasLeft (mine theirs : Sight) : Type 0 where
  pub primary : State Content
  pub fallback : State Content
  pub shows : ShowsState mine primary
  pub shows_there : ShowsState theirs fallback
  pub unclosed : fallback.closed ≡ None
  pub key : Key
  pub there : Stored Content
  pub left : IsFirstLeft primary fallback.keys (key, there)
  pub own : theirs.own ≡ []
  pub own_here : mine.own ≡ []

-- these passes are of these gates, and such is what they have seen
pub record OfGates (primary : GateId View) (fallback : Fallback) (passes : Returned) (Sees : Sight → Sight → Type 0) : Type 0 where
  pub gate : passes.primary.gate ≡ primary
  pub gate_there : passes.fallback.gate ≡ fallback.gate
  pub sees : Sees passes.primary passes.fallback

-- of the gates of the partition at an index, whose fallback stands there
pub record GatesAtPartition (handoff : HandoffView) (index : ℕ) (passes : Returned) (Sees : Fallback → Sight → Sight → Type 0) : Type 0 where
  pub primary : GateId View
  pub fallback : Fallback
  pub stands : slice_get handoff.gates index ≡ Some primary
  pub diverted : slice_get handoff.fallbacks index ≡ Some (Some fallback)
  pub of_gates : OfGates primary fallback passes (Sees fallback)

-- the diversion of the partition at an index has ended
abbrev pub HasReturned : HandoffView → (index : ℕ) → Returned → Type 0
HasReturned handoff index passes = GatesAtPartition handoff index passes (λ fallback. EndsFrom fallback.start)

-- why it hasn't
abbrev pub IsReturnFault : HandoffView → (index : ℕ) → HandoffFault → Type 0
IsReturnFault handoff index faults.AlreadyDiverted = ⊥
IsReturnFault handoff index (faults.NotDiverted seen) = IsUndiverted handoff index seen
IsReturnFault handoff index (faults.LeftOver passes) = GatesAtPartition handoff index passes (λ fallback. HasLeft)
IsReturnFault handoff index faults.NoMemory = HasFallback handoff index
IsReturnFault handoff index faults.GateStopped = HasFallback handoff index

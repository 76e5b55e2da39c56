-- What became of one key more, and why no further one could be tried.
use Rattle.std.specs.Prelude.{◌≡◌, ℕ, Some}
use Rattle.handoff.specs.declared.copy_step.Step.{Step}
use Rattle.handoff.specs.declared.copy_step.Step.TheVariants.{End, Passed, Made, Stuck}
use Rattle.handoff.specs.declared.fault.Stop.{Stop}
use Rattle.handoff.specs.declared.fault.Stop.TheVariants as stops
use Rattle.handoff.specs.declared.fault.HandoffFault.{HandoffFault}
use Rattle.handoff.specs.declared.fault.HandoffFault.TheVariants as faults
use Rattle.handoff.specs.Copying.{CopiesOne, IsStuckOf}
use Rattle.vnode_core.specs.KeyCopies.{KeyCopyView}
use Rattle.handoff.specs.Sights.{Sight, ShowsClosed}

-- where it was copied, the history of the primary has that copy, and else nothing was published; where it was stuck, the primary took no copy of it
abbrev pub CopiesOrStays : ℕ → (old mine theirs : Sight) → Step → Type 0
CopiesOrStays diversion old mine theirs End = mine.own ≡ old.own
CopiesOrStays diversion old mine theirs (Passed key) = mine.own ≡ old.own
CopiesOrStays diversion old mine theirs (Made key) = CopiesOne diversion old mine theirs
CopiesOrStays diversion old mine theirs (Stuck key) = (mine.own ≡ old.own) × (copy : KeyCopyView) × IsStuckOf diversion mine theirs copy

-- where the fallback was found closed, its pass has seen it so
abbrev pub IsStopOf : (theirs : Sight) → Stop → Type 0
IsStopOf theirs stops.NotDiverted = ShowsClosed theirs
IsStopOf theirs stops.NoMemory = Unit {0}
IsStopOf theirs stops.GateStopped = Unit {0}

-- the fault that a stop is told as, with the pass of the fallback
abbrev pub fault_of : Stop → Sight → HandoffFault
fault_of stops.NotDiverted theirs = faults.NotDiverted (Some theirs)
fault_of stops.NoMemory theirs = faults.NoMemory
fault_of stops.GateStopped theirs = faults.GateStopped

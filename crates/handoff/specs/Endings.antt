-- How an attempt to end a diversion comes out, by the passes that made it.
use Rattle.std.specs.Prelude.{◌≡◌, ◌⊎◌, ◌-◌, ◌^◌, ℕ, [], ◌∷◌, ◌++◌, length, MatchOption, Option}
use Rattle.riak_msgs.specs.Contents.{Content}
use Rattle.rw_gate.specs.Histories.{IsLonger}
use Rattle.rw_gate.specs.Views.{GateId, RightView}
use Rattle.vnode_machine.specs.Machine.{State}
use Rattle.vnode_core.specs.declared.entry.Entry.{Entry}
use Rattle.vnode_core.specs.declared.entry.Entry.TheVariants as entries
use Rattle.vnode_core.specs.Plans.{View}
use Rattle.handoff.specs.declared.fault.HandoffFault.{HandoffFault}
use Rattle.handoff.specs.declared.fault.HandoffFault.TheVariants as faults
use Rattle.handoff.specs.declared.fault.Stop.{Stop}
use Rattle.handoff.specs.declared.fault.Stop.TheVariants as stops
use Rattle.handoff.specs.declared.gates.Fallback.{Fallback}
use Rattle.handoff.specs.declared.returning.Ending.{Ending}
use Rattle.handoff.specs.declared.returning.Ending.TheVariants.{Closed, LeftOver}
use Rattle.handoff.specs.Copying.{SawClosed}
use Rattle.handoff.specs.declared.gates.Start.{Start}
use Rattle.handoff.specs.Returning.{EndsFrom, HasLeft, OfGates}
use Rattle.handoff.specs.Sights.{Sight, ShowsClosed, ShowsState}
use Rattle.handoff.specs.Started.{HasStayed, updates_counted}

-- the pass's next entry is the close with this number
pub record ClosesWith (number : ℕ) (old new : Sight) : Type 0 where
  pub seen : new.prefix ≡ old.prefix ++ entries.Closed number ∷ []
  pub own : new.own ≡ old.own ++ length old.prefix ∷ []

-- why keys weren't copied back from this fallback, or no further ones
abbrev pub IsCopyStop : Fallback → HandoffFault → Type 0
IsCopyStop fallback faults.AlreadyDiverted = ⊥
IsCopyStop fallback (faults.NotDiverted seen) = MatchOption seen ⊥ (SawClosed fallback)
IsCopyStop fallback (faults.LeftOver passes) = ⊥
IsCopyStop fallback faults.NoMemory = Unit {0}
IsCopyStop fallback faults.GateStopped = Unit {0}

abbrev pub EndsSo : (start : Option Start) (mine theirs : Sight) → Ending → Type 0
EndsSo start mine theirs Closed = EndsFrom start mine theirs
EndsSo start mine theirs LeftOver = HasLeft mine theirs

-- the history of a gate had gone on past what stood under a right, as this pass has seen
abbrev pub WentOn : RightView View Entry → Sight → Type 0
WentOn right pass = IsLonger right.history pass.prefix (length pass.prefix)

-- it can have no further event
abbrev pub IsHistoryFull : Sight → Type 0
IsHistoryFull pass = length pass.prefix ≡ 2 ^ 64 - 1

-- why a fallback wasn't closed under a right to write there
abbrev pub IsCloseStop : (writer : RightView View Entry) (theirs : Sight) → Stop → Type 0
IsCloseStop writer theirs stops.NotDiverted = ShowsClosed theirs
IsCloseStop writer theirs stops.NoMemory = Unit {0}
IsCloseStop writer theirs stops.GateStopped = WentOn writer theirs ⊎ IsHistoryFull theirs

-- at the end of what its pass has seen, a primary isn't as it was when it was diverted, or what it had then wasn't seen
pub record HasChanged (start : Option Start) (mine : Sight) : Type 0 where
  pub state : State Content
  pub shows : ShowsState mine state
  pub changed : HasStayed start state mine → ⊥

-- at the end of what its pass has seen, a fallback counts fewer writes and deletes than it took entries, or more
pub record TookOthers (theirs : Sight) : Type 0 where
  pub state : State Content
  pub shows : ShowsState theirs state
  pub others : updates_counted state ≡ length theirs.prefix → ⊥

-- why a diversion didn't end under a right to read at the primary and one to write at the fallback
abbrev pub IsEndStop : (start : Option Start) (reader writer : RightView View Entry) (mine theirs : Sight) → Stop → Type 0
IsEndStop start reader writer mine theirs stops.NotDiverted = ShowsClosed theirs
IsEndStop start reader writer mine theirs stops.NoMemory = Unit {0}
IsEndStop start reader writer mine theirs stops.GateStopped =
    WentOn reader mine ⊎ HasChanged start mine ⊎ WentOn writer theirs ⊎ IsHistoryFull theirs ⊎ TookOthers theirs

-- why a diversion between these gates didn't end: where it had ended, a pass of the fallback has seen it closed
abbrev pub IsEndFault : GateId View → Fallback → HandoffFault → Type 0
IsEndFault primary fallback faults.AlreadyDiverted = ⊥
IsEndFault primary fallback (faults.NotDiverted seen) = MatchOption seen ⊥ (SawClosed fallback)
IsEndFault primary fallback (faults.LeftOver passes) = OfGates primary fallback passes HasLeft
IsEndFault primary fallback faults.NoMemory = Unit {0}
IsEndFault primary fallback faults.GateStopped = Unit {0}

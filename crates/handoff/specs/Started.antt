-- What a partition's primary had when it was diverted, and how that shows in the end that only copies came since then.
use Rattle.std.specs.Prelude.{◌≡◌, ◌+◌, ◌<◌, ◌-◌, ◌^◌, ◌++◌, ℕ, List, [], ◌∷◌, map, Option, Some, None, IfSome}
use mathlib.Core.List.{IsPrefix}
use Rattle.riak_msgs.specs.Contents.{Content}
use Rattle.vnode_machine.specs.Machine.{State}
use Rattle.rw_gate.specs.Views.{GateId}
use Rattle.vnode_core.specs.declared.entry.Entry.{Entry}
use Rattle.vnode_core.specs.declared.entry.Entry.TheVariants.{Copied}
use Rattle.vnode_core.specs.declared.event.VnodeEvent.{VnodeEvent}
use Rattle.vnode_core.specs.declared.event.VnodeEvent.TheVariants.{Put, Del, Reap}
use Rattle.vnode_core.specs.declared.vnode.tally.Tally.{Tally}
use Rattle.vnode_core.specs.KeyCopies.{KeyCopyView}
use Rattle.vnode_core.specs.Plans.{View}
use Rattle.handoff.specs.declared.gates.Fallback.{Fallback}
use Rattle.handoff.specs.declared.gates.Start.{Start}
use Rattle.handoff.specs.Sights.{Sight, ShowsState}

-- the tally is that of a state in which a vnode is at the end of what a pass has seen
pub record IsTallied (pass : Sight) (tally : Tally) : Type 0 where
  pub state : State Content
  pub shows : ShowsState pass state
  pub writes : tally.writes ≡ state.writes
  pub tombstones : tally.tombstones ≡ state.tombstones
  pub reaps : tally.reaps ≡ state.reaps

-- a pass of this primary has seen so much
pub record IsStartOf (primary : GateId View) (start : Start) : Type 0 where
  pub of_gate : start.pass.gate ≡ primary
  pub tallied : IsTallied start.pass start.tally

-- so it is with each of these primaries whose partition has a fallback that began at a look
abbrev pub AreStarts : List (GateId View) → List (Option Fallback) → Type 0
AreStarts [] fallbacks = Unit {0}
AreStarts (gate ∷ gates) [] = Unit {0}
AreStarts (gate ∷ gates) (fallback ∷ fallbacks) = IfSome fallback (λ one. IfSome one.start (IsStartOf gate)) × AreStarts gates fallbacks

-- these are copies
abbrev pub all_copies : List KeyCopyView → List Entry
all_copies copies = map (λ copy. Copied copy) copies

-- since its partition was diverted only copies came to a primary, of which this pass has seen all
pub record TookCopiesAlone (start : Option Start) (mine : Sight) : Type 0 where
  pub from : Start
  pub is : start ≡ Some from
  pub of_gate : from.pass.gate ≡ mine.gate
  pub tallied : IsTallied from.pass from.tally
  pub copies : List KeyCopyView
  pub seen : mine.prefix ≡ from.pass.prefix ++ all_copies copies

-- how many commands a vnode counts, and how many writes and deletes among them
abbrev pub commands_counted : State Content → ℕ
commands_counted state = state.writes + state.tombstones + state.reaps

abbrev pub updates_counted : State Content → ℕ
updates_counted state = state.writes + state.tombstones

-- two tallies are the same, and no count of them is at its stop
pub record IsSameBelow (first last : Tally) : Type 0 where
  pub writes : first.writes ≡ last.writes
  pub tombstones : first.tombstones ≡ last.tombstones
  pub reaps : first.reaps ≡ last.reaps
  pub below_writes : last.writes < 2 ^ 64 - 1
  pub below_tombstones : last.tombstones < 2 ^ 64 - 1
  pub below_reaps : last.reaps < 2 ^ 64 - 1

-- a primary isn't closed, and counts in this state what it did when it was diverted, as a pass has seen that has seen no less
pub record HasStayed (start : Option Start) (state : State Content) (mine : Sight) : Type 0 where
  pub from : Start
  pub is : start ≡ Some from
  pub begins : IsPrefix from.pass.prefix mine.prefix
  pub open_still : state.closed ≡ None
  pub tally : Tally
  pub writes : tally.writes ≡ state.writes
  pub tombstones : tally.tombstones ≡ state.tombstones
  pub reaps : tally.reaps ≡ state.reaps
  pub same : IsSameBelow from.tally tally

-- a write or a delete
abbrev pub IsUpdate : VnodeEvent → Type 0
IsUpdate (Put put reply) = Unit {0}
IsUpdate (Del del) = Unit {0}
IsUpdate (Reap key) = ⊥

-- each of these events is of a kind
abbrev pub EachIs : (VnodeEvent → Type 0) → List VnodeEvent → Type 0
EachIs Is [] = Unit {0}
EachIs Is (event ∷ events) = Is event × EachIs Is events

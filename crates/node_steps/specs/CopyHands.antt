-- What contracts see of a copier's clock, and of a copy that is planned.
use Rattle.std.specs.Prelude.{◌≡◌, true, false, Option, Some, None, []}
use Rattle.std.specs.Global.{Box}
use Rattle.riak_msgs.specs.declared.Key.{Key}
use Rattle.riak_msgs.specs.Contents.{Content}
use Rattle.dvv_set.specs.Clocks.{DotState}
use Rattle.vnode_machine.specs.Copying.{is_stuck, apply_copy}
use Rattle.vnode_machine.specs.Machine.{State, clock_of, is_held}
use Rattle.vnode_core.specs.KeyCopies.{KeyCopyView}
use Rattle.vnode_core.specs.declared.ask.Ask.{Ask}
use Rattle.vnode_core.specs.declared.ask.Ask.TheVariants.{Put, Del, Reap, ReapFirst, Copy, Close}
use Rattle.node_steps.specs.declared.copied_clock.CopiedClock.{CopiedClock}
use Rattle.node_steps.specs.declared.planned_copy.PlannedCopy.TheInside.{Inside}

-- the clock that a state has for a key, where it is held
abbrev pub FindsClock : State Content → Key → Option (Box CopiedClock) → Type 0
FindsClock state key None = is_held state key ≡ false
FindsClock state key (Some found) = (found.value ≡ clock_of state key) × (is_held state key ≡ true)

-- what a change copies, and the state after it
abbrev pub clock_in : Ask → DotState (Option Content)
clock_in (Put put) = record { known = []; live = [] }
clock_in (Del del) = record { known = []; live = [] }
clock_in (Reap key) = record { known = []; live = [] }
clock_in (ReapFirst from) = record { known = []; live = [] }
clock_in (Copy copy) = copy.clock
clock_in (Close number) = record { known = []; live = [] }

abbrev pub copied_by : State Content → Ask → State Content
copied_by state (Put put) = state
copied_by state (Del del) = state
copied_by state (Reap key) = state
copied_by state (ReapFirst from) = state
copied_by state (Copy copy) = apply_copy state copy.key copy.clock
copied_by state (Close number) = state

abbrev pub IsCopy : Ask → Type 0
IsCopy (Put put) = ⊥
IsCopy (Del del) = ⊥
IsCopy (Reap key) = ⊥
IsCopy (ReapFirst from) = ⊥
IsCopy (Copy copy) = Unit {0}
IsCopy (Close number) = ⊥

-- the change is the copy of a key and its clock, and is what is prepared; without one the copy is stuck, or the vnode closed
pub record PlansTo (state : State Content) (prepared : Option Ask) (key : Key) (clock : DotState (Option Content)) (change : Ask) : Type 0 where
  pub copy : KeyCopyView
  pub is : change ≡ Copy copy
  pub key_is : copy.key ≡ key
  pub clock_is : copy.clock ≡ clock
  pub prepared_is : prepared ≡ Some change
  pub unstuck : is_stuck state key clock ≡ false

abbrev pub PlansCopy : State Content → (prepared : Option Ask) → Key → DotState (Option Content) → Option Ask → Type 0
PlansCopy state prepared key clock None = state.closed ≡ None → is_stuck state key clock ≡ true
PlansCopy state prepared key clock (Some change) = PlansTo state prepared key clock change

-- the primary's state in a copier's hand, the clock that is copied, and the state after it
pub record CopyView : Type 0 where
  pub state : State Content
  pub clock : DotState (Option Content)
  pub next : State Content

abbrev pub copy_view : Inside → CopyView
copy_view p = record { state = p.hand.value.state; clock = clock_in p.change; next = copied_by p.hand.value.state p.change }

-- the change is a copy, and what the vnode prepared last
pub record IsPlannedCopy (p : Inside) : Type 0 where
  pub prepared : p.hand.value.prepared ≡ Some p.change
  pub copy : IsCopy p.change

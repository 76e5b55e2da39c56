-- What contracts see of a close that is planned.
use Rattle.std.specs.Prelude.{◌≡◌, ℕ, None}
use Rattle.riak_msgs.specs.Contents.{Content}
use Rattle.vnode_machine.specs.Machine.{State}
use Rattle.node_steps.specs.declared.planned_close.PlannedClose.TheInside.{Inside}

-- the fallback's state in a closer's hand, and the number that its close is to carry
pub record CloseView : Type 0 where
  pub state : State Content
  pub number : ℕ

abbrev pub close_view : Inside → CloseView
close_view p = record { state = p.hand.value.state; number = p.number }

-- the vnode isn't closed
pub record IsPlannedClose (p : Inside) : Type 0 where
  pub opened : p.hand.value.state.closed ≡ None

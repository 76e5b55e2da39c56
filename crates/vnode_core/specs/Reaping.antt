-- What a reap comes to at a vnode, and what the reap of the first dead key leaves.
use Rattle.std.specs.Prelude.{◌≡◌, drop, Option}
use Rattle.riak_msgs.specs.declared.Key.{Key}
use Rattle.riak_msgs.specs.Contents.{Content}
use Rattle.sibling_register.specs.History.{Reap}
use Rattle.vnode_machine.specs.Machine.{State}
use Rattle.vnode_machine.specs.Dead.{dead_keys}
use Rattle.vnode_machine.specs.Step.{ReapDone, ReapKept, MachineOutcome, Answered, Accepted}
pub use Rattle.clock_store.specs.declared.store.Reaped.{Reaped}
pub use Rattle.clock_store.specs.declared.store.Reaped.TheVariants.{Gone, Kept, Absent}
pub use Rattle.clock_store.specs.Forgetting.{key_given, reap_result, after_reap, after_first_reap}

-- what comes of a reap, by its result and the state after it
abbrev pub reap_outcome : Reaped → State Content → MachineOutcome
reap_outcome Gone next = Accepted Reap ReapDone next
reap_outcome Kept next = Answered ReapKept
reap_outcome Absent next = Answered ReapKept

-- of the dead keys at or after one the least is gone, and no other
abbrev pub LosesFirstDead : State Content → Option Key → State Content → Type 0
LosesFirstDead old from new = dead_keys new from ≡ drop 1 (dead_keys old from)

-- What callers see of a copy of a key.
use Rattle.std.specs.Prelude.{ℕ, List, Option}
use Rattle.riak_msgs.specs.declared.Key.{Key}
use Rattle.riak_msgs.specs.Contents.{Content}
use Rattle.dvv_set.specs.Clocks.{DotState}
use Rattle.vnode_core.specs.declared.event.VnodeEvent.{VnodeEvent}

-- the key, what its clock meant at the fallback, the number of the diversion, and the commands that the fallback had accepted by
-- then, oldest first
pub record KeyCopyView : Type 0 where
  pub key : Key
  pub clock : DotState (Option Content)
  pub diversion : ℕ
  pub prefix : List VnodeEvent

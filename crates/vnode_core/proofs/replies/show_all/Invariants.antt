use Rattle.std.proofs.Common.{◌≡◌, ◌++◌, map}
use Rattle.riak_msgs.specs.Contents.{shown}
use Rattle.vnode_core.proofs.replies.show_all.Given as goal

abbrev pub invariant-loop-sibling : goal.invariant-loop-sibling
invariant-loop-sibling l = l.all ++ map (shown l.is_bare) l.sibling-iterator ≡ map (shown l.is_bare) l.initial.sibling-iterator

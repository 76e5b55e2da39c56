use Rattle.std.proofs.Common.{◌≡◌, ◌++◌, map}
use Rattle.riak_msgs.specs.Contents.{shown}
use Rattle.vnode_core.specs.Replies.{filled}
use Rattle.vnode_core.proofs.replies.show_after.Given as goal

abbrev pub invariant-loop-sibling : goal.invariant-loop-sibling
invariant-loop-sibling l =
    l.all ++ map (λ sibling. shown l.is_bare (filled l.content sibling)) l.sibling-iterator
    ≡ map (λ sibling. shown l.is_bare (filled l.content sibling)) l.initial.sibling-iterator

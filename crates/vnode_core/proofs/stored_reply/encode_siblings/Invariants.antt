use Rattle.std.proofs.Common.{map}
use Rattle.riak_msgs.specs.Encoding.{repeated_field}
use Rattle.riak_msgs.specs.Contents.{shown}
use Rattle.riak_msgs.specs.Encoding.{shown_message}
use Rattle.vnode_core.proofs.Appending.{Leads}
use Rattle.vnode_core.proofs.stored_reply.encode_siblings.Given as goal

abbrev pub invariant-loop-sibling : goal.invariant-loop-sibling
invariant-loop-sibling g l =
    Leads g.O.Output.appends l.initial.out (repeated_field shown_message 1 (map (shown l.is_bare) l.initial.sibling-iterator))
    l.out (repeated_field shown_message 1 (map (shown l.is_bare) l.sibling-iterator))

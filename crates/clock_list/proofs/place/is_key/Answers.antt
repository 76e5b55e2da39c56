use Rattle.std.proofs.Common.{◌∙◌, sym, ap}
use Rattle.std.specs.Ordering.{is_eq, ordering_reverse}
use Rattle.riak_msgs.specs.KeyOrder.{key_cmp}
use Rattle.vnode_machine.proofs.Keys.{key_cmp_total}
use Rattle.clock_list.proofs.place.is_key.Goals as goal

pub returns : goal.returns
returns c =
    c.is_eq.ensures ∙ ap is_eq (c.reverse.ensures ∙ ap ordering_reverse c.compare_key.ensures ∙ sym (key_cmp_total.antisymm c.args.short c.args.key.now))

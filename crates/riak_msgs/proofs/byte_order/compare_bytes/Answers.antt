use Rattle.std.proofs.Common.{◌∙◌, sym, arith}
use Rattle.riak_msgs.proofs.ByteOrder.{lengths_cmp}
use Rattle.riak_msgs.proofs.byte_order.compare_bytes.Goals as goal

pub returns : goal.returns
returns c = c.cmp-2.ensures ∙ sym (c.loop-at.invariant ∙ lengths_cmp c.loop-at.at c.args.left.now c.args.right.now (omega (arith, c.min-at-end.ensures, c.loop-at.auto.at-end, c.loop-at-test.false)))

use Rattle.std.proofs.Common.{arith, length, ◌-◌}
use Rattle.riak_msgs.proofs.ByteOrder.{AreBytes, tail_cmp}
use Rattle.riak_msgs.proofs.byte_order.compare_last_four.Goals as goal

pub returns : goal.returns
returns c =
    let left : AreBytes c.args.left.now = λ k. let fits = c.type_inv.left k in omega arith in
    let right : AreBytes c.args.right.now = λ k. let fits = c.type_inv.right k in omega arith in
    let at = length c.args.left.now - 4 in
    let one = c.requires.one in
    let few = c.requires.few in
    let long = c.requires.long in
    tail_cmp 4 at c.args.left.now c.args.right.now c.compare_four.result (omega arith) (omega arith) (omega arith) left right c.requires.equal c.compare_four.ensures.order

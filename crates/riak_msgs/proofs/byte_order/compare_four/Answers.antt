use Rattle.std.proofs.Common.{arith, drop, sym, ap, ◌∙◌}
use Rattle.std.specs.declared.cmp.Ordering.{Ordering}
use Rattle.std.specs.Ordering.{nat_cmp, ordering_then}
use Rattle.std.specs.Cmp.Lexicographic.{slice_cmp}
use Rattle.riak_msgs.proofs.ByteOrder.{AreBytes, numbers_cmp}
use Rattle.riak_msgs.proofs.byte_order.compare_four.Goals as goal

pub returns-clause-number : goal.returns-clause-number
returns-clause-number c = c.cmp.ensures ∙ λ i. nat_cmp (c.read_u32.ensures i) (c.read_u32-2.ensures i)

pub returns-clause-order : goal.returns-clause-order
returns-clause-order c =
    let left : AreBytes c.args.left.now = λ k. let fits = c.type_inv.left k in omega arith in
    let right : AreBytes c.args.right.now = λ k. let fits = c.type_inv.right k in omega arith in
    let rest = slice_cmp nat_cmp (drop 4 c.args.left.now) (drop 4 c.args.right.now) in
    numbers_cmp 4 c.args.left.now c.args.right.now c.requires.left c.requires.right left right
    ∙ ap (λ (o : Ordering). ordering_then o rest) (sym (c.cmp.ensures ∙ λ i. nat_cmp (c.read_u32.ensures i) (c.read_u32-2.ensures i)))

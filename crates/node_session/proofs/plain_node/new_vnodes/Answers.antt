use Rattle.std.proofs.Common.{◌≡◌, ◌+◌, List, ℕ, sym, ap, subst, arith}
use Rattle.vnode_core.specs.Plans.{View}
use Rattle.riak_msgs.specs.Contents.{Content}
use Rattle.vnode_machine.specs.Machine.{State}
use Rattle.node_session.specs.PlainNodes.{AreNew, AreOpen, states_of}
use Rattle.node_session.proofs.Opens.{open-push}
use Rattle.node_session.proofs.Vnodes.{none_new, one_more_new}
use Rattle.node_session.proofs.plain_node.new_vnodes.Goals as goal

pub loop-index-init : goal.loop-index-init
loop-index-init c = subst (λ (vnodes : List View). AreNew c.args.run 0 (states_of vnodes) × AreOpen vnodes) (sym c.in_ok-vnodes.ensures.items) (none_new c.args.run, tt)

pub loop-index-preserved : goal.loop-index-preserved
loop-index-preserved c =
    let more = one_more_new c.args.run c.loop-index.index c.vnode_id.result c.loop-index.vnodes.items c.new.result c.loop-index.invariant.0 c.vnode_id.ensures c.new.ensures.state in
    let opened = open-push c.loop-index.vnodes.items c.new.result c.loop-index.invariant.1 (ap (λ (s : State Content). s.closed) c.new.ensures.state) in
    subst (λ (vnodes : List View). AreNew c.args.run (c.loop-index.index + 1) (states_of vnodes) × AreOpen vnodes) (sym c.in_ok-push.ensures.items) (more, opened)

pub returns-clause-new : goal.returns-clause-new
returns-clause-new c =
    let all : c.loop-index.index ≡ c.args.size = omega (arith, c.loop-index.auto.index-end, c.loop-index-test.false) in
    subst (λ (size : ℕ). AreNew c.args.run size (states_of c.loop-index.vnodes.items)) all c.loop-index.invariant.0

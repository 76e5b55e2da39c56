use Rattle.std.proofs.Common.{sym, subst}
use Rattle.riak_msgs.specs.declared.Request.{Request}
use Rattle.riak_msgs.specs.declared.Reply.{Reply}
use Rattle.vnode_core.specs.declared.ask.Ask.TheVariants as asks
use Rattle.gate_node.specs.Asked.{Gets, GetsOpen, Changes, ChangesOpen}
use Rattle.gate_node.specs.GateStep.{GateNodeStep, AnswersAtPartition}
use Rattle.node_session.specs.PlainNodes.{partition_of}
use Rattle.gate_node.proofs.requests.GateNodeNode.answer_into.Goals as goal

pub returns-in-Get-clause-step : goal.returns-in-Get-clause-step
returns-in-Get-clause-step g c =
    let reply = c.get.result.framed.reply in
    let at = subst (λ n. AnswersAtPartition n c.args.self.now reply c.get.new.self (Gets c.in-Get.get) (GetsOpen c.in-Get.get)) c.index-index.ensures.index c.get.ensures.answers in
    subst (λ (r : Request). GateNodeStep c.args.self.now r reply c.get.new.self) (sym c.in-Get.is) at

pub returns-in-Put-clause-step : goal.returns-in-Put-clause-step
returns-in-Put-clause-step g c =
    let at = subst (λ n. AnswersAtPartition n c.args.self.now c.change-reply.result c.change-reply.new.self (Changes (asks.Put c.in-Put.put)) (ChangesOpen (asks.Put c.in-Put.put))) c.index-index-in-Put.ensures.index c.change-reply.ensures in
    let told = subst (λ (reply : Reply). AnswersAtPartition (partition_of c.args.self.now.shared.index_bits c.in-Put.put.key) c.args.self.now reply c.change-reply.new.self (Changes (asks.Put c.in-Put.put)) (ChangesOpen (asks.Put c.in-Put.put))) (sym c.put_whole-in-Put.ensures.reply) at in
    subst (λ (r : Request). GateNodeStep c.args.self.now r c.put_whole-in-Put.result.reply c.change-reply.new.self) (sym c.in-Put.is) told

pub returns-in-Del-clause-step : goal.returns-in-Del-clause-step
returns-in-Del-clause-step g c =
    let at = subst (λ n. AnswersAtPartition n c.args.self.now c.change-reply-in-Del.result c.change-reply-in-Del.new.self (Changes (asks.Del c.in-Del.del)) (ChangesOpen (asks.Del c.in-Del.del))) c.index-index-in-Del.ensures.index c.change-reply-in-Del.ensures in
    let told = subst (λ (reply : Reply). AnswersAtPartition (partition_of c.args.self.now.shared.index_bits c.in-Del.del.key) c.args.self.now reply c.change-reply-in-Del.new.self (Changes (asks.Del c.in-Del.del)) (ChangesOpen (asks.Del c.in-Del.del))) (sym c.put_whole-in-Del.ensures.reply) at in
    subst (λ (r : Request). GateNodeStep c.args.self.now r c.put_whole-in-Del.result.reply c.change-reply-in-Del.new.self) (sym c.in-Del.is) told

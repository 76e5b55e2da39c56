use Rattle.std.proofs.Common.{sym, subst}
use Rattle.riak_msgs.specs.declared.Request.{Request}
use Rattle.vnode_core.specs.declared.ask.Ask.TheVariants as asks
use Rattle.gate_node.specs.Asked.{Gets, GetsOpen, Changes, ChangesOpen}
use Rattle.gate_node.specs.GateStep.{GateNodeStep, AnswersAtPartition}
use Rattle.gate_node.proofs.requests.GateNodeNode.answer.Goals as goal

pub returns-in-Get : goal.returns-in-Get
returns-in-Get g c =
    let at = subst (λ n. AnswersAtPartition n c.args.self.now c.get.result c.get.new.self (Gets c.in-Get.get) (GetsOpen c.in-Get.get)) c.index-index.ensures.index c.get.ensures.answers in
    subst (λ (r : Request). GateNodeStep c.args.self.now r c.get.result c.get.new.self) (sym c.in-Get.is) at

pub returns-in-Put : goal.returns-in-Put
returns-in-Put g c =
    let at = subst (λ n. AnswersAtPartition n c.args.self.now c.change.result c.change.new.self (Changes (asks.Put c.in-Put.put)) (ChangesOpen (asks.Put c.in-Put.put))) c.index-index-in-Put.ensures.index c.change.ensures in
    subst (λ (r : Request). GateNodeStep c.args.self.now r c.change.result c.change.new.self) (sym c.in-Put.is) at

pub returns-in-Del : goal.returns-in-Del
returns-in-Del g c =
    let at = subst (λ n. AnswersAtPartition n c.args.self.now c.change-in-Del.result c.change-in-Del.new.self (Changes (asks.Del c.in-Del.del)) (ChangesOpen (asks.Del c.in-Del.del))) c.index-index-in-Del.ensures.index c.change-in-Del.ensures in
    subst (λ (r : Request). GateNodeStep c.args.self.now r c.change-in-Del.result c.change-in-Del.new.self) (sym c.in-Del.is) at

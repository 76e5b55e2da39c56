use Rattle.std.proofs.Common.{◌∙◌, subst}
use Rattle.gate_node.specs.Asked.{ReapsUpTo}
use Rattle.gate_node.specs.Gates.{Gates}
use Rattle.gate_node.proofs.gated_vnode.change_and_reap.Goals as goal

pub returns-clause-gate : goal.returns-clause-gate
returns-clause-gate g c = c.reap_allowed-reaps.ensures.gate ∙ c.answer_change-reply.ensures.gate

pub returns-clause-steps : goal.returns-clause-steps
returns-clause-steps g c =
    record {
      answered = c.answer_change-reply.new.pass;
      gate = c.answer_change-reply.ensures.gate;
      more = c.answer_change-reply.ensures.more;
      answers = c.answer_change-reply.ensures.answers;
      reaps = subst (λ (gates : Gates). ReapsUpTo gates.budget c.reap_allowed-reaps.result c.answer_change-reply.new.pass c.reap_allowed-reaps.new.pass) c.shared.view_is c.reap_allowed-reaps.ensures.reaps;
    }

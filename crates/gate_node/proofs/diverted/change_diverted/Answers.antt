use Rattle.std.proofs.Common.{subst}
use Rattle.std.specs.Prelude.{Option}
use Rattle.gate_node.specs.declared.passes.FallbackPass.{FallbackPass}
use Rattle.gate_node.specs.Asked.{ChangesOpen}
use Rattle.gate_node.specs.Passes.{IsRenewed}
use Rattle.gate_node.proofs.Fitting.{answers_at_where}
use Rattle.gate_node.proofs.diverted.change_diverted.Goals as goal

pub returns-clause-answers : goal.returns-clause-answers
returns-clause-answers g c =
    let renewed = subst (λ (o : Option FallbackPass). IsRenewed c.args.fallback.now c.args.kept.now o) c.in-Some.is c.renew.ensures in
    answers_at_where c.args.fallback.now c.args.kept.now c.in-Some.kept c.change_by.new.kept c.change_by.result (λ a p q. ChangesOpen c.args.change p q a.0 a.1) renewed c.change_by.ensures.answers

use Rattle.std.proofs.Common.{◌∙◌, sym}
use Rattle.gate_node.proofs.Fitting.{kept_is}
use Rattle.gate_node.proofs.passes.renew.Goals as goal

pub returns-then-is_pass_of : goal.returns-then-is_pass_of
returns-then-is_pass_of c = kept_is c.args.fallback.now c.args.kept.now c.requires (sym c.is_pass_of.ensures ∙ c.if-is_pass_of.true)

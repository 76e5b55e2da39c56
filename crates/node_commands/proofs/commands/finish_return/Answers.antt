use Rattle.std.proofs.Common.{refl}
use Rattle.node_commands.proofs.commands.finish_return.Goals as goal

pub returns-in-Ok-clause-answers : goal.returns-in-Ok-clause-answers
returns-in-Ok-clause-answers g c = (refl, c.in-Ok.ensures.ok.0, c.in-Ok.ensures.ok.1)

use Rattle.std.proofs.Common.{refl}
use Rattle.node_steps.proofs.acts.lay.Goals as goal

pub returns : goal.returns
returns c = refl

use Rattle.copy_laws.proofs.LastBrought.{last_dot_brings_all}
use Rattle.copy_laws.proofs.laws.last_dot_brings_all.Goals as goal

pub returns : goal.returns
returns c = last_dot_brings_all

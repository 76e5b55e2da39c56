use Rattle.sibling_register.proofs.Counts.{counting}
use Rattle.sibling_register.proofs.laws.counting_is_a_naming.Goals as goal

pub returns : goal.returns
returns g c = record { naming = λ history. counting history }

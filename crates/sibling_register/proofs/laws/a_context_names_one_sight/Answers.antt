use Rattle.sibling_register.proofs.NamingLaw.{names_one_sight}
use Rattle.sibling_register.proofs.laws.a_context_names_one_sight.Goals as goal

pub returns : goal.returns
returns g c = record { sight = λ naming later position. names_one_sight naming later position }

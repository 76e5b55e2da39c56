use Rattle.sibling_register.proofs.Lawful.{stays_legal}
use Rattle.sibling_register.proofs.laws.answers_stay_legal.Goals as goal

pub returns : goal.returns
returns g c = record { legal = λ old command told new. stays_legal old command told new }

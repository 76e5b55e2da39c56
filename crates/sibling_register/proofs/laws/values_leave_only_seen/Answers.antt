use Rattle.sibling_register.proofs.LeavingLaw.{leaves_only_seen}
use Rattle.sibling_register.proofs.laws.values_leave_only_seen.Goals as goal

pub returns : goal.returns
returns g c = record { leaving = λ naming between position. leaves_only_seen naming between position }

use Rattle.dvv_set.proofs.Discards.{discard-all}
use Rattle.dvv_set.proofs.laws.discard_of_all_leaves_no_value.Goals as goal

pub returns : goal.returns
returns g c = discard-all

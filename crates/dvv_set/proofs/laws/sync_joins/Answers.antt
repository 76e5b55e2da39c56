use Rattle.dvv_set.proofs.SetLaws.{sync_idempotent, sync_commutative, sync_associative, sync_above}
use Rattle.dvv_set.proofs.ClockLaws.{discard-sync}
use Rattle.dvv_set.proofs.laws.sync_joins.Goals as goal

pub returns-clause-idempotent : goal.returns-clause-idempotent
returns-clause-idempotent g c = sync_idempotent

pub returns-clause-commutative : goal.returns-clause-commutative
returns-clause-commutative g c = sync_commutative

pub returns-clause-associative : goal.returns-clause-associative
returns-clause-associative g c = sync_associative

pub returns-clause-above : goal.returns-clause-above
returns-clause-above g c = sync_above

pub returns-clause-discards : goal.returns-clause-discards
returns-clause-discards g c = discard-sync

use Rattle.dvv_set.proofs.SetLaws.{sync_knows, sync_keeps, discard_knows, discard_keeps, event_knows, event_keeps}
use Rattle.dvv_set.proofs.laws.calls_are_set_operations.Goals as goal

pub returns-clause-sync_knows : goal.returns-clause-sync_knows
returns-clause-sync_knows g c = sync_knows

pub returns-clause-sync_keeps : goal.returns-clause-sync_keeps
returns-clause-sync_keeps g c = sync_keeps

pub returns-clause-discard_knows : goal.returns-clause-discard_knows
returns-clause-discard_knows g c = discard_knows

pub returns-clause-discard_keeps : goal.returns-clause-discard_keeps
returns-clause-discard_keeps g c = discard_keeps

pub returns-clause-event_knows : goal.returns-clause-event_knows
returns-clause-event_knows g c = event_knows

pub returns-clause-event_keeps : goal.returns-clause-event_keeps
returns-clause-event_keeps g c = event_keeps

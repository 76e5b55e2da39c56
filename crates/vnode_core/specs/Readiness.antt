-- The plan of a command that isn't refused.
use Rattle.vnode_core.specs.declared.ask.Ask.{Ask}
use Rattle.vnode_core.specs.declared.ask.Answer.{Answer}
use Rattle.vnode_core.specs.declared.ask.Answer.TheVariants as answers
use Rattle.rw_gate.specs.declared.kept.Plan.{Plan}
use Rattle.rw_gate.specs.declared.kept.Plan.TheVariants.{Change, Nothing}
use Rattle.vnode_core.specs.declared.ready.Readiness.{Readiness}
use Rattle.vnode_core.specs.declared.ready.Readiness.TheVariants.{Ready, NothingToDelete, NothingToReap, Stuck, Closed}

abbrev pub plan_in : Readiness → Ask → Plan Ask Answer
plan_in Ready ask = Change ask
plan_in NothingToDelete ask = Nothing answers.Del
plan_in (NothingToReap reaped) ask = Nothing (answers.Reaped reaped)
plan_in Stuck ask = Nothing answers.Stuck
plan_in Closed ask = Nothing answers.Closed

use Rattle.std.proofs.Common.{◌≡◌, ◌∙◌, refl, subst}
use Rattle.std.specs.Prelude.{⊤, Option, Result, MatchResult, MatchOption}
use Rattle.job_pool.specs.declared.jobs.JobFault.{JobFault}
use Rattle.worker_pool.specs.declared.job.Job.{Job}
use Rattle.worker_pool.specs.JobEnds.{IsForGates}
use Rattle.worker_pool.proofs.Sources.{gives_only}
use Rattle.worker_tests.specs.declared.workers.script.Script.{Script}
use Rattle.worker_tests.specs.declared.workers.streams.Input.{Input}
use Rattle.worker_tests.specs.declared.workers.streams.Output.{Output}
use Rattle.worker_tests.proofs.workers.script.play.Goals as goal

abbrev Gives : Script → Result (Option (Job Input Output)) JobFault → Script → Type 0
Gives first given last = (last.shared ≡ first.shared) × MatchResult given (λ next. MatchOption next ⊤ (IsForGates first.shared.now)) (λ fault. ⊤)

pub run-requires-clause-jobs : goal.run-requires-clause-jobs
run-requires-clause-jobs g c κs within =
    gives_only Gives (λ s. s.shared ≡ c.args.script.shared) (IsForGates c.args.script.shared.now) (λ first given last h gives. gives.0 ∙ h)
    (λ first job last h gives. subst (λ shared. IsForGates shared.now job) h gives.1) _ refl

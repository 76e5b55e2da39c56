use Rattle.std.proofs.Common.{◌≡◌, subst, sym}
use Rattle.std.proofs.lemmas.Result.{IfOk-weaker}
use Rattle.std.specs.Prelude.{⊤, Option, Result, MatchResult, MatchOption}
use Rattle.job_pool.specs.Lists.{Every}
use Rattle.job_pool.specs.declared.jobs.JobFault.{JobFault}
use Rattle.worker_pool.specs.PausedSessions.{PausedSessionView, CanGoOn}
use Rattle.worker_pool.proofs.Sources.{gives_only}
use Rattle.worker_tests.specs.declared.workers.sessions.Sessions.{Sessions}
use Rattle.worker_tests.specs.declared.workers.streams.Input.{Input}
use Rattle.worker_tests.specs.declared.workers.streams.Output.{Output}
use Rattle.worker_tests.proofs.Sessions.{rest_goes_on}
use Rattle.worker_tests.proofs.workers.sessions.play.Goals as goal

abbrev Gives : Sessions → Result (Option (PausedSessionView Input Output)) JobFault → Sessions → Type 0
Gives first given last = (last.shared ≡ first.shared) × (Every (CanGoOn first.shared.now) first.resting.items → Every (CanGoOn first.shared.now) last.resting.items
    × MatchResult given (λ next. MatchOption next ⊤ (CanGoOn first.shared.now)) (λ fault. ⊤))

pub serve-requires-clause-sessions : goal.serve-requires-clause-sessions
serve-requires-clause-sessions g c κs within =
    let gates = c.args.shared.now in
    gives_only Gives (λ s. (s.shared.now ≡ gates) × Every (CanGoOn gates) s.resting.items) (CanGoOn gates)
    (λ first given last h gives. (subst (λ shared. shared.now ≡ gates) (sym gives.0) h.0, subst (λ g. Every (CanGoOn g) last.resting.items) h.0 (gives.1 (subst (λ g. Every (CanGoOn g) first.resting.items) (sym h.0) h.1)).0))
    (λ first session last h gives. subst (λ g. CanGoOn g session) h.0 (gives.1 (subst (λ g. Every (CanGoOn g) first.resting.items) (sym h.0) h.1)).1)
    _ (c.requires.of_gates, c.requires.rest)

pub returns-clause-resting : goal.returns-clause-resting
returns-clause-resting g c =
    IfOk-weaker c.serve.result _ _ (λ served tells. rest_goes_on _ _ _ _ _ _ _ served _ tells.2) c.serve.ensures.served

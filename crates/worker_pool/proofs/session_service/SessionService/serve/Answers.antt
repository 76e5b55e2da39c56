use Rattle.std.proofs.Common.{arith, ◌≡◌, ◌∙◌, [], length, map, ap, inl, refl, sym, subst}
use Rattle.std.proofs.lemmas.List.{length-map}
use Rattle.std.proofs.lemmas.Result.{IfOk-weaker, IfErr-weaker}
use Rattle.job_pool.specs.Workers.{worker_of}
use Rattle.stats_book.specs.Counting.{zeros}
use Rattle.stats_book.specs.declared.totals.Totals.{Totals}
use Rattle.gate_node.specs.Gates.{Gates}
use Rattle.gate_node.specs.declared.fault.PoolFault.{PoolFault}
use Rattle.worker_pool.specs.Settling.{IsFaultAfterTold, Settles}
use Rattle.worker_pool.specs.EndReporters.{sink_of}
use Rattle.worker_pool.specs.Telling.{LeavesTold}
use Rattle.worker_pool.proofs.EndReporters.{seen_same}
use Rattle.worker_pool.proofs.Told.{every_map, leaves_by, leaves_told, tells_source, end_reporters_count}
use Rattle.worker_pool.proofs.session_service.SessionService.serve.Goals as goal

pub returns-in_default-clause-fault : goal.returns-in_default-clause-fault
returns-in_default-clause-fault g c = ([], inl (inl refl))

pub returns-in_default-clause-more : goal.returns-in_default-clause-more
returns-in_default-clause-more g c = seen_same c.args.seen.now.primaries

pub returns-in_default-worker_setups_of-clause-fault : goal.returns-in_default-worker_setups_of-clause-fault
returns-in_default-worker_setups_of-clause-fault g c = ([], inl (inl refl))

pub returns-in_default-worker_setups_of-clause-more : goal.returns-in_default-worker_setups_of-clause-more
returns-in_default-worker_setups_of-clause-more g c = seen_same c.args.seen.now.primaries

pub returns-in-Err-clause-more : goal.returns-in-Err-clause-more
returns-in-Err-clause-more g c = seen_same c.args.seen.now.primaries

pub settle-requires-clause-sinks : goal.settle-requires-clause-sinks
settle-requires-clause-sinks g c =
    let once = c.in-Ok-run_at.ensures.told in
    let told = c.in-Ok-run_at.told in
    let worker_setups = c.in-Ok-worker_setups_of.worker_setups.items in
    let many = end_reporters_count g.J.Jobs.gives g.Q.Pause.can_be_raised g.R.Source.source g.W.Target.target g.K.EndSink.told c.args.shared.now c.args.sessions.now c.run_at.new.jobs once.0 once.1 (map worker_of worker_setups) told.workers.items told.sinks.items told.given told.refused once.2 in
    let mapped = length-map worker_setups worker_of in
    let count = c.in-Ok-worker_setups_of.ensures.count in
    let room = c.in-Ok.ensures.room in
    let here = room.0 in
    let len = c.len.ensures in
    let ok = c.args.serving_setups.ok.0 in
    omega (arith, many, mapped, count, here, len, ok)

pub settle-requires-clause-resting : goal.settle-requires-clause-resting
settle-requires-clause-resting g c =
    let once = c.in-Ok-run_at.ensures.told in
    let told = c.in-Ok-run_at.told in
    let worker_setups = c.in-Ok-worker_setups_of.worker_setups.items in
    let many = end_reporters_count g.J.Jobs.gives g.Q.Pause.can_be_raised g.R.Source.source g.W.Target.target g.K.EndSink.told c.args.shared.now c.args.sessions.now c.run_at.new.jobs once.0 once.1 (map worker_of worker_setups) told.workers.items told.sinks.items told.given told.refused once.2 in
    let mapped = length-map worker_setups worker_of in
    let count = c.in-Ok-worker_setups_of.ensures.count in
    let room = c.in-Ok.ensures.room in
    let here = room.1 in
    let len = c.len.ensures in
    let ok = c.args.serving_setups.ok.0 in
    omega (arith, many, mapped, count, here, len, ok)

pub returns-in-Ok-run_at-clause-served : goal.returns-in-Ok-run_at-clause-served
returns-in-Ok-run_at-clause-served g c =
    let once = c.in-Ok-run_at.ensures.told in
    let told = c.in-Ok-run_at.told in
    let worker_setups = c.in-Ok-worker_setups_of.worker_setups.items in
    let zero = every_map worker_of (λ (t : Totals). t ≡ zeros) worker_setups c.in-Ok-worker_setups_of.ensures.zeros in
    IfOk-weaker c.settle.result _ _ (λ served left. tells_source g.J.Jobs.gives g.Q.Pause.can_be_raised g.R.Source.source g.W.Target.target g.K.EndSink.told c.args.shared.now c.args.sessions.now c.run_at.new.jobs
    once.0 once.1 (map worker_of worker_setups) told.workers.items told.sinks.items told.given told.refused once.2 c.args.seen.now c.settle.new.seen c.settle.ensures.more zero served
    (subst (λ (gates : Gates). Settles g.K.EndSink.told gates told.workers.items told.sinks.items told.given told.refused c.settle.new.seen served) (sym c.requires.of_run) left)) c.settle.ensures.served

pub returns-in-Ok-run_at-clause-sinks : goal.returns-in-Ok-run_at-clause-sinks
returns-in-Ok-run_at-clause-sinks g c =
    let once = c.in-Ok-run_at.ensures.told in
    let told = c.in-Ok-run_at.told in
    let worker_setups = c.in-Ok-worker_setups_of.worker_setups.items in
    IfOk-weaker c.settle.result _ _ (λ served left. ap length left.sinks ∙ length-map told.sinks.items sink_of
    ∙ end_reporters_count g.J.Jobs.gives g.Q.Pause.can_be_raised g.R.Source.source g.W.Target.target g.K.EndSink.told c.args.shared.now c.args.sessions.now c.run_at.new.jobs once.0 once.1 (map worker_of worker_setups) told.workers.items told.sinks.items told.given told.refused once.2
    ∙ length-map worker_setups worker_of ∙ c.in-Ok-worker_setups_of.ensures.count) c.settle.ensures.served

pub returns-in-Ok-run_at-clause-fault : goal.returns-in-Ok-run_at-clause-fault
returns-in-Ok-run_at-clause-fault g c =
    let once = c.in-Ok-run_at.ensures.told in
    let told = c.in-Ok-run_at.told in
    let worker_setups = c.in-Ok-worker_setups_of.worker_setups.items in
    let zero = every_map worker_of (λ (t : Totals). t ≡ zeros) worker_setups c.in-Ok-worker_setups_of.ensures.zeros in
    IfErr-weaker c.settle.result _ _ (λ fault is. leaves_told g.J.Jobs.gives g.Q.Pause.can_be_raised g.R.Source.source g.W.Target.target g.K.EndSink.told c.args.shared.now c.args.sessions.now c.run_at.new.jobs
    once.0 once.1 (map worker_of worker_setups) told.workers.items told.sinks.items told.given told.refused once.2 zero c.settle.new.seen fault
    (subst (λ (gates : Gates). IsFaultAfterTold g.K.EndSink.told gates told.workers.items told.sinks.items c.settle.new.seen fault) (sym c.requires.of_run) is)) c.settle.ensures.fault

pub returns-in-Err-clause-fault : goal.returns-in-Err-clause-fault
returns-in-Err-clause-fault g c =
    let left = leaves_by g.J.Jobs.gives g.Q.Pause.can_be_raised g.R.Source.source g.W.Target.target g.K.EndSink.told c.args.shared.now c.args.sessions.now c.run_at.new.jobs c.in-Err.fault c.in-Err.ensures.fault in
    subst (λ (fault : PoolFault). LeavesTold g.J.Jobs.gives g.Q.Pause.can_be_raised g.R.Source.source g.W.Target.target c.args.shared.now fault c.args.sessions.now c.run_at.new.jobs) (sym c.pool_fault.ensures) left

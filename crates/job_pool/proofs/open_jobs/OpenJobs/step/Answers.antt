use Rattle.std.proofs.Common.{◌≡◌, Some, sym, subst}
use Rattle.slab.specs.Slab.{get}
use Rattle.job_pool.proofs.OpenJobs.{same_len, jobs_stepped}
use Rattle.job_pool.proofs.open_jobs.OpenJobs.step.Goals as goal

pub invariant_of-self-in-Going : goal.invariant_of-self-in-Going
invariant_of-self-in-Going g c =
    let was = c.self.inside in
    let found : get was.jobs c.args.slot ≡ Some c.in-Some.open_job.now = sym c.in-Some.ensures.value in
    let Serves = g.S.Service.serves was.service.now in (
      jobs_stepped Serves was.service.now was.taken (g.K.Sink.told was.sink) was.refused was.first.value was.worker c.step.new.worker was.jobs c.args.slot c.in-Some.open_job.now c.step.new.self found c.step.ensures.open_job c.self.invariant.0 c.step.ensures.worker,
      subst (g.K.Sink.has_room was.sink) (sym (same_len Serves was.service.now was.taken (g.K.Sink.told was.sink) was.refused was.first.value was.worker c.step.new.worker was.jobs c.args.slot c.in-Some.open_job.now c.step.new.self found c.step.ensures.open_job c.self.invariant.0)) c.self.invariant.1,
      c.self.invariant.2,
      c.self.invariant.3,
    )

pub invariant_of-self-in-Waits : goal.invariant_of-self-in-Waits
invariant_of-self-in-Waits g c =
    let was = c.self.inside in
    let found : get was.jobs c.args.slot ≡ Some c.in-Some.open_job.now = sym c.in-Some.ensures.value in
    let Serves = g.S.Service.serves was.service.now in (
      jobs_stepped Serves was.service.now was.taken (g.K.Sink.told was.sink) was.refused was.first.value was.worker c.step.new.worker was.jobs c.args.slot c.in-Some.open_job.now c.step.new.self found c.step.ensures.open_job c.self.invariant.0 c.step.ensures.worker,
      subst (g.K.Sink.has_room was.sink) (sym (same_len Serves was.service.now was.taken (g.K.Sink.told was.sink) was.refused was.first.value was.worker c.step.new.worker was.jobs c.args.slot c.in-Some.open_job.now c.step.new.self found c.step.ensures.open_job c.self.invariant.0)) c.self.invariant.1,
      c.self.invariant.2,
      c.self.invariant.3,
    )

-- where it is over, its end stands behind that
pub invariant_of-self-2 : goal.invariant_of-self-2
invariant_of-self-2 g c =
    let was = c.self.inside in
    let found : get was.jobs c.args.slot ≡ Some c.in-Some.open_job.now = sym c.in-Some.ensures.value in
    let Serves = g.S.Service.serves was.service.now in (
      jobs_stepped Serves was.service.now was.taken (g.K.Sink.told was.sink) was.refused was.first.value was.worker c.step.new.worker was.jobs c.args.slot c.in-Some.open_job.now c.step.new.self found c.step.ensures.open_job c.self.invariant.0 c.step.ensures.worker,
      subst (g.K.Sink.has_room was.sink) (sym (same_len Serves was.service.now was.taken (g.K.Sink.told was.sink) was.refused was.first.value was.worker c.step.new.worker was.jobs c.args.slot c.in-Some.open_job.now c.step.new.self found c.step.ensures.open_job c.self.invariant.0)) c.self.invariant.1,
      c.self.invariant.2,
      c.self.invariant.3,
    )

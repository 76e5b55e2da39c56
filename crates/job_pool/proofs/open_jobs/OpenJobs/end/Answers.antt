use Rattle.std.proofs.Common.{refl}
use Rattle.job_pool.proofs.OpenJobs.{jobs_ended, rewritten}
use Rattle.slab.specs.Slab.{slab_len}
use Rattle.job_pool.proofs.open_jobs.OpenJobs.end.Goals as goal

pub invariant_of-self : goal.invariant_of-self
invariant_of-self g c =
    let was = c.self.inside in
    let slot = c.args.slot in
    let open_job = c.remove-open_job.result in
    let after = c.remove-open_job.new.self in (
      jobs_ended (g.S.Service.serves was.service.now) was.service.now was.taken (g.K.Sink.told was.sink) was.refused was.first.value was.worker c.close-number.new.worker was.jobs slot open_job open_job
          c.remove-open_job.ensures.value refl c.self.invariant.0
          was.worker after (g.K.Sink.told c.tell.new.self) (record { number = c.close-number.result.0; end = c.close-number.result.2 }) refl
          c.close-number.ensures.serves c.close-number.ensures.number c.tell.ensures.told (rewritten was.jobs after slot open_job c.remove-open_job.ensures.updates),
      c.tell.ensures.room (slab_len after) (rw c.remove-open_job.ensures.len c.self.invariant.1),
      c.self.invariant.2,
      c.self.invariant.3,
    )

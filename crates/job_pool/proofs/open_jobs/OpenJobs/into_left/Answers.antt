use Rattle.std.proofs.Common.{◌∙◌, ap, subst}
use Rattle.slab.specs.Slab.{slab_len}
use Rattle.job_pool.specs.OpenJobs.{OpenJobsView}
use Rattle.job_pool.specs.Ends.{HasWorked}
use Rattle.job_pool.proofs.OpenJobs.{jobs_done}
use Rattle.job_pool.proofs.open_jobs.OpenJobs.into_left.Goals as goal

pub returns : goal.returns
returns g c =
    let was = c.self.inside in
    let told = g.K.Sink.told was.sink in
    let empty = ap (λ (v : OpenJobsView g.row.S.Denot g.row.S-Worker.Denot g.row.S-Job.Denot g.row.K.Denot). slab_len v.jobs) c.self.view_is ∙ c.requires in
    subst (λ (v : OpenJobsView g.row.S.Denot g.row.S-Worker.Denot g.row.S-Job.Denot g.row.K.Denot). HasWorked (g.S.Service.serves v.service) v.taken told was.took was.away v.first was.worker) c.self.view_is
    (jobs_done (g.S.Service.serves was.service.now) was.service.now was.taken told was.refused was.first.value was.worker was.jobs was.took was.away c.self.invariant.0 empty c.self.invariant.2 c.self.invariant.3)

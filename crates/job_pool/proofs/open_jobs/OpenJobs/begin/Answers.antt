use Rattle.std.proofs.Common.{arith, ◌+◌, refl, sym, ap, subst, ◌∙◌}
use Rattle.slab.specs.Slab.{slab_len}
use Rattle.job_pool.specs.OpenJobs.{OpenJobView, OpenJobsView}
use Rattle.job_pool.proofs.Counts.{one_counted}
use Rattle.job_pool.proofs.OpenJobs.{jobs_refused, jobs_opened}
use Rattle.job_pool.proofs.open_jobs.OpenJobs.begin.Goals as goal

pub invariant_of-self : goal.invariant_of-self
invariant_of-self g c =
    let was = c.self.inside in (
      jobs_refused (g.S.Service.serves was.service.now) was.service.now was.taken c.push.new.self (g.K.Sink.told was.sink) (g.K.Sink.told c.refuse.new.self) was.refused c.push-then-not-has_room.new.self was.first.value was.worker was.worker was.jobs was.jobs c.args.next
          c.push.ensures c.refuse.ensures.told refl c.self.invariant.0 c.args.next.number refl c.push-then-not-has_room.ensures refl,
      c.refuse.ensures.kept _ c.self.invariant.1,
      one_counted was.taken c.push.new.self c.args.next was.took _ c.push.ensures c.self.invariant.2 (λ small. omega (arith, c.saturating_add-self-inside.ensures, small)),
      one_counted was.refused c.push-then-not-has_room.new.self c.args.next.number was.away _ c.push-then-not-has_room.ensures c.self.invariant.3 (λ small. omega (arith, c.saturating_add-self-inside-then-not-has_room.ensures, small)),
    )

pub invariant_of-self-in-Ok : goal.invariant_of-self-in-Ok
invariant_of-self-in-Ok g c =
    let was = c.self.inside in
    let open_job = c.new-open_job.result in
    let is = c.new-open_job.ensures in
    let room = subst (λ (v : OpenJobsView g.row.S.Denot g.row.S-Worker.Denot g.row.S-Job.Denot g.row.K.Denot). g.K.Sink.has_room v.sink (slab_len v.jobs + 1)) (sym c.self.view_is) (c.requires.room c.if-not-has_room.false).1 in (
      jobs_opened (g.S.Service.serves was.service.now) was.service.now was.taken c.push.new.self (g.K.Sink.told was.sink) (g.K.Sink.told was.sink) was.refused was.refused was.first.value was.worker c.open.new.worker was.jobs c.insert_reserved.new.self c.args.next
          c.push.ensures refl c.open.ensures.worker c.self.invariant.0 c.insert_reserved.result open_job refl
          (ap (λ (v : OpenJobView g.row.S.Denot g.row.S-Job.Denot). v.service) is) (ap (λ (v : OpenJobView g.row.S.Denot g.row.S-Job.Denot). v.number) is) (ap (λ (v : OpenJobView g.row.S.Denot g.row.S-Job.Denot). v.job) is ∙ c.of-asked.ensures)
          c.insert_reserved.ensures.was_vacant c.insert_reserved.ensures.updates,
      subst (g.K.Sink.has_room was.sink) (sym c.insert_reserved.ensures.len) room,
      one_counted was.taken c.push.new.self c.args.next was.took _ c.push.ensures c.self.invariant.2 (λ small. omega (arith, c.saturating_add-self-inside.ensures, small)),
      c.self.invariant.3,
    )

pub invariant_of-self-in-Err-1 : goal.invariant_of-self-in-Err-1
invariant_of-self-in-Err-1 g c =
    let was = c.self.inside in (
      jobs_refused (g.S.Service.serves was.service.now) was.service.now was.taken c.push.new.self (g.K.Sink.told was.sink) (g.K.Sink.told c.refuse-in-Err.new.self) was.refused c.push-in-Err.new.self was.first.value was.worker c.open.new.worker was.jobs was.jobs c.args.next
          c.push.ensures c.refuse-in-Err.ensures.told c.open.ensures.worker c.self.invariant.0 c.args.next.number refl c.push-in-Err.ensures refl,
      c.refuse-in-Err.ensures.kept _ c.self.invariant.1,
      one_counted was.taken c.push.new.self c.args.next was.took _ c.push.ensures c.self.invariant.2 (λ small. omega (arith, c.saturating_add-self-inside.ensures, small)),
      one_counted was.refused c.push-in-Err.new.self c.args.next.number was.away _ c.push-in-Err.ensures c.self.invariant.3 (λ small. omega (arith, c.saturating_add-self-inside-in-Err.ensures, small)),
    )

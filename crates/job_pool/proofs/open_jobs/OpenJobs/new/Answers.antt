use Rattle.std.proofs.Common.{◌≡◌, sym, ap, subst, count_by, length, is_some}
use Rattle.slab.specs.Slab.{slab_len}
use Rattle.job_pool.proofs.OpenJobs.{jobs_new}
use Rattle.job_pool.proofs.open_jobs.OpenJobs.new.Goals as goal

pub invariant_of-result : goal.invariant_of-result
invariant_of-result g c =
    let none : slab_len c.new.result ≡ 0 = ap (λ l. count_by is_some l) c.new.ensures.empty in (
      jobs_new (g.S.Service.serves c.args.service.now) c.args.service.now c.new-2.result (g.K.Sink.told c.args.sink) c.new-3.result c.of.result.value c.args.worker c.new.result c.new-2.ensures c.requires.none c.new-3.ensures (sym c.of.ensures) c.new.ensures.empty,
      subst (g.K.Sink.has_room c.args.sink) (sym none) c.requires.room,
      λ _. sym (ap length c.new-2.ensures),
      λ _. sym (ap length c.new-3.ensures),
    )

use Rattle.std.proofs.Common.{◌≡◌, ◌∙◌, ◌+◌, ◌∷◌, ◌++◌, [], refl, ap, sym, subst, arith, length, length-append, inl}
use Rattle.std.specs.Prelude.{Ok}
use Rattle.crossbeam_queue.specs.Passes.{view}
use Rattle.job_pool.specs.Giving.{Gave}
use Rattle.job_pool.proofs.Giving.{gave_more}
use Rattle.job_pool.proofs.submit.submit_all.Goals as goal

pub loop-preserved : goal.loop-preserved
loop-preserved g c =
    let was = c.loop.invariant in
    let step = c.submit.ensures.pushed in
    let grown : length (view c.submit.new.pass).given ≡ length (view c.loop.pass).given + 1 = ap (λ v. length v.given) step ∙ length-append (view c.loop.pass).given (c.in-Ok-Some.job ∷ []) in
    let more = subst (λ o. g.G.Jobs.gives c.loop.jobs o c.next-in-loop.new.self) (c.in-Ok-Some.is ∙ ap Ok c.in-Ok-Some.field-0-is) c.next-in-loop.ensures in (
      tt,
      tt,
      c.submit.ensures.queue,
      ap (λ v. v.leads) step ∙ was.3,
      omega (arith, c.in-Some-checked_add.ensures, was.4, grown),
      subst (λ js. Gave g.G.Jobs.gives c.args.jobs.now js c.next-in-loop.new.self) (sym (ap (λ v. v.given) step)) (gave_more g.G.Jobs.gives c.args.jobs.now (view c.loop.pass).given c.loop.jobs c.in-Ok-Some.job c.next-in-loop.new.self was.5 more),
      ap (λ v. v.taken) step ∙ was.6,
    )

pub returns-in_default-clause-fault : goal.returns-in_default-clause-fault
returns-in_default-clause-fault g c =
    let was = c.loop.invariant in
    let jobs = (view c.loop.pass).given in
    let more = subst (λ o. g.G.Jobs.gives c.loop.jobs o c.next-in-loop.new.self) (c.in-Ok-Some.is ∙ ap Ok c.in-Ok-Some.field-0-is) c.next-in-loop.ensures in
    (jobs ++ c.in-Ok-Some.job ∷ [], inl (inl (gave_more g.G.Jobs.gives c.args.jobs.now jobs c.loop.jobs c.in-Ok-Some.job c.next-in-loop.new.self was.5 more)))

pub loop-init : goal.loop-init
loop-init g c =
    let none = ap (λ v. v.given) c.requires.queue.1 in
    let begun = subst (λ js. Gave g.G.Jobs.gives c.args.jobs.now js c.args.jobs.now) (sym none) refl in
    (tt, tt, c.requires.queue.0, ap (λ v. v.leads) c.requires.queue.1, sym (ap length none), begun, ap (λ v. v.taken) c.requires.queue.1)

pub returns-in_default-clause-queue : goal.returns-in_default-clause-queue
returns-in_default-clause-queue g c = (c.loop.invariant.2, c.loop.invariant.3)

pub submit-requires-clause-queue : goal.submit-requires-clause-queue
submit-requires-clause-queue g c = c.loop.invariant.2

pub submit-requires-clause-leads : goal.submit-requires-clause-leads
submit-requires-clause-leads g c = c.loop.invariant.3

pub returns-in-Ok-None-clause-queue : goal.returns-in-Ok-None-clause-queue
returns-in-Ok-None-clause-queue g c = (c.loop.invariant.2, c.loop.invariant.3)

pub returns-in-Ok-None-clause-count : goal.returns-in-Ok-None-clause-count
returns-in-Ok-None-clause-count g c = c.loop.invariant.4

pub returns-in-Err-clause-queue : goal.returns-in-Err-clause-queue
returns-in-Err-clause-queue g c = (c.loop.invariant.2, c.loop.invariant.3)

pub returns-in-Err-clause-fault : goal.returns-in-Err-clause-fault
returns-in-Err-clause-fault g c =
    let more = subst (λ o. g.G.Jobs.gives c.loop.jobs o c.next-in-loop.new.self) c.in-Err.is c.next-in-loop.ensures in
    (c.loop.jobs, _, c.loop.invariant.5, more)

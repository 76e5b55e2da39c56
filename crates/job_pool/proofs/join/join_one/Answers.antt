use Rattle.std.proofs.Common.{◌∙◌, ap, subst}
use Rattle.crossbeam_queue.specs.Passes.{view}
use Rattle.job_pool.specs.Queue.{IsNumbered}
use Rattle.job_pool.specs.Lists.{Every}
use Rattle.job_pool.proofs.Lists.{all_right}
use Rattle.job_pool.proofs.Rule.{merges, learns}
use Rattle.job_pool.proofs.join.join_one.Goals as goal

pub absorb-requires-clause-rule : goal.absorb-requires-clause-rule
absorb-requires-clause-rule g c = merges g.H.Accepts.accepts _ _ _ _

pub learn_as-requires-clause-rule : goal.learn_as-requires-clause-rule
learn_as-requires-clause-rule g c = learns g.H.Accepts.accepts _ _ (ap (λ v. v.leads) c.absorb.ensures.rule ∙ c.requires.queue.1)

pub returns-clause-joined : goal.returns-clause-joined
returns-clause-joined g c =
    let old = view c.args.pass.now in
    let theirs = view c.join-theirs.result.pass in
    let fact = c.learn_as.ensures.rule.1 in
    let gone = ap (λ v. v.given) c.absorb.ensures.rule in
    let taken = ap (λ v. v.taken) c.absorb.ensures.rule in
    let jobs = (view c.absorb.new.pass).given in (
      theirs.taken,
      ap (λ v. v.taken) c.learn_as.ensures.queue.1 ∙ taken,
      subst (λ js. Every (IsNumbered js) theirs.taken) gone (all_right (IsNumbered jobs) old.taken theirs.taken (subst (λ t. Every (IsNumbered jobs) t) taken fact.numbered)),
      c.join-theirs.ensures.1,
    )

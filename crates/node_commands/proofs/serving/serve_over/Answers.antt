use Rattle.std.proofs.Common.{◌∙◌, Some, ap}
use Rattle.node_commands.proofs.Sources.{gives_for, new_for, gave_just}
use Rattle.node_commands.proofs.serving.serve_over.Goals as goal

pub run_with-requires-clause-jobs : goal.run_with-requires-clause-jobs
run_with-requires-clause-jobs g c κs within = gives_for c.in-Ok-new.arrivals c.args.shared.now (ap (λ v. v.gates) c.in-Ok-new.ensures)

pub returns-in-Ok-run_with : goal.returns-in-Ok-run_with
returns-in-Ok-run_with g c =
    let first = c.in-Ok-new.arrivals in
    let is = c.in-Ok-new.ensures in
    let all = c.in-Ok-run_with.ensures.served in
    let last = c.run_with.new.jobs in
    record {
      jobs = all.0;
      count = gave_just first all.0 last c.args.connections (ap (λ v. v.limit) is ∙ ap Some c.from.ensures) (ap (λ v. v.counts_refused) is) (ap (λ v. v.can_stop) is) (ap (λ v. v.given) is) all.1;
      new = new_for first c.args.shared.now 0 (ap (λ v. v.gates) is) (ap (λ v. v.before) is) (ap (λ v. v.given) is) all.0 last all.1;
      served = all.2;
    }

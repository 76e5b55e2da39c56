use Rattle.job_pool.specs.Sinks.{kept}
use Rattle.job_pool.proofs.Joining.{all_ordered}
use Rattle.job_pool.proofs.order.ends_in_order.Goals as goal

pub returns : goal.returns
returns g c = λ jobs firsts told.
    let left = c.args.left in
    all_ordered (g.S.Service.serves c.args.service.now) kept jobs firsts left.workers.items left.sinks.items left.given left.refused c.in_ok-ends.ends.items told c.in_ok-ends.ensures

use Rattle.node_commands.proofs.Periods.{serves_on}
use Rattle.node_commands.proofs.controlled.serve_periods.Goals as goal

pub returns-then-is_over-clause-serves : goal.returns-then-is_over-clause-serves
returns-then-is_over-clause-serves g c =
    let came = c.in_ok-left.ensures in
    serves_on c.args.settings.now c.loop.paused c.in_ok-left.field-0.paused c.loop.invariant.2 came.shared came.served came.ready came.limit

pub heed-paused-requires-clause-serves : goal.heed-paused-requires-clause-serves
heed-paused-requires-clause-serves g c =
    let came = c.in_ok-left.ensures in
    serves_on c.args.settings.now c.loop.paused c.in_ok-left.field-0.paused c.loop.invariant.2 came.shared came.served came.ready came.limit

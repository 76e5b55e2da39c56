use Rattle.node_steps.specs.Running.{world_of}
use Rattle.node_steps.proofs.Opening.{opening_is, opening_kept}
use Rattle.node_steps.proofs.world.World.new.Goals as goal

pub invariant_of-result : goal.invariant_of-result
invariant_of-result c =
    let sites = c.in_ok-new_sites.field-0.items in
    let routes = c.in_ok-new_routes.field-0.items in
    let epochs = c.in_ok-new_epochs.field-0.items in
    let workers = c.in_ok-new_workers.field-0.items in
    opening_kept c.args.run c.args.workers c.args.vnodes (world_of sites routes epochs workers) c.ranges.run.fits c.ranges.workers.fits c.ranges.vnodes.fits
    (opening_is sites routes epochs workers c.args.run c.args.workers c.args.vnodes c.in_ok-new_sites.ensures c.in_ok-new_routes.ensures c.in_ok-new_epochs.ensures
    c.in_ok-new_workers.ensures)

pub returns : goal.returns
returns c =
    opening_is c.in_ok-new_sites.field-0.items c.in_ok-new_routes.field-0.items c.in_ok-new_epochs.field-0.items c.in_ok-new_workers.field-0.items c.args.run c.args.workers
    c.args.vnodes c.in_ok-new_sites.ensures c.in_ok-new_routes.ensures c.in_ok-new_epochs.ensures c.in_ok-new_workers.ensures

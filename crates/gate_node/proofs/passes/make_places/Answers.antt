use Rattle.std.proofs.Common.{rules, ◌≡◌, length}
use Rattle.gate_node.proofs.Fitting.{made_same}
use Rattle.gate_node.proofs.passes.make_places.Goals as goal

pub returns-in-Ok-clause-same : goal.returns-in-Ok-clause-same
returns-in-Ok-clause-same c =
    let unmade : length c.args.places.now.items ≡ 0 = search rules in
    made_same c.args.size c.in-Ok.made.items c.args.places.now.items c.in-Ok.ensures.none c.in-Ok.ensures.size unmade

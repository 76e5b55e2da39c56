use Rattle.riak_node.proofs.conclusion.write_left.Goals as goal

pub returns : goal.returns
returns g c = c.writeln.ensures.bytes

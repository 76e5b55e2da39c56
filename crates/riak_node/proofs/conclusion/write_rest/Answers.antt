use Rattle.std.proofs.lemmas.Bool.{ne_eqb}
use Rattle.riak_node.proofs.conclusion.write_rest.Goals as goal

pub returns : goal.returns
returns g c = rw (ne_eqb c.args.ended.rest 0 c.if-ended-eq0.false) c.write_left.ensures

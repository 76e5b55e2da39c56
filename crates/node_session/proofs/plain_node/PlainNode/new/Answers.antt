use Rattle.std.proofs.Common.{refl, subst, arith, ℕ}
use Rattle.std.specs.Prelude.{IfOk}
use Rattle.std.proofs.lemmas.Bool.{false≢true}
use Rattle.node_session.specs.PlainNodes.{IsNewNode}
use Rattle.node_session.proofs.Vnodes.{no_bits}
use Rattle.node_session.proofs.plain_node.PlainNode.new.Goals as goal

pub unreachable-requires : goal.unreachable-requires
unfolding lib.Count.ones
unreachable-requires c = false≢true (c.in_default.ensures.some.1 (refl, omega arith))

pub returns : goal.returns
returns c = subst (λ (bits : ℕ). IfOk c.on_ring.result (λ n. IsNewNode c.args.run bits 0 n)) (no_bits c.in-Some.ring c.in-Some.ensures.size) c.on_ring.ensures

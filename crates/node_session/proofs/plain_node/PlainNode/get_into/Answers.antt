use Rattle.std.proofs.Common.{◌≡◌, ◌∙◌, ◌<◌, ◌^◌, ap, sym, subst, arith, set, length}
use Rattle.sibling_register.specs.Answers.{AskGet}
use Rattle.vnode_machine.specs.Asks.{get_command}
use Rattle.node_session.specs.PlainNodes.{NodeState, AnswersByKey, partition_of, states_of}
use Rattle.std.proofs.lemmas.List.{length-set}
use Rattle.node_session.proofs.Asking.{asked}
use Rattle.node_session.proofs.Opens.{open-at, open-set}
use Rattle.node_session.proofs.plain_node.PlainNode.get_into.Goals as goal

pub returns-clause-answers : goal.returns-clause-answers
returns-clause-answers g c =
    let get = g.G.Lookup.get c.args.get.now in
    let ask = AskGet (get_command get) in
    let bits : c.self.inside.ring ≡ c.args.self.now.index_bits = ap (λ (node : NodeState). node.index_bits) c.self.view_is in
    let is : c.from-index.result ≡ partition_of c.self.inside.ring get.key = c.from-index.ensures ∙ c.requires.index ∙ ap (λ bits. partition_of bits get.key) (sym bits) in
    let below : c.args.index < 2 ^ c.self.inside.ring = subst (λ bits. c.args.index < 2 ^ bits) (sym bits) c.requires.below in
    let after : NodeState = record {
      index_bits = c.self.inside.ring;
      budget = c.self.inside.budget;
      vnodes = states_of (set c.self.inside.vnodes.items c.from-index.result c.show_and_sweep.new.vnode);
    } in
    subst (λ (node : NodeState). AnswersByKey node ask c.show_and_sweep.result.reply after) c.self.view_is
    (asked c.self.inside.ring c.self.inside.budget c.self.inside.vnodes.items ask c.show_and_sweep.result.reply c.from-index.result _ c.index_mut.result.now c.show_and_sweep.new.vnode
    is c.index_mut.ensures.value (omega (arith, c.from-index.ensures, below, c.self.invariant.0)) c.show_and_sweep.ensures.steps)

pub invariant_of-self : goal.invariant_of-self
invariant_of-self g c =
    let bits : c.self.inside.ring ≡ c.args.self.now.index_bits = ap (λ (node : NodeState). node.index_bits) c.self.view_is in
    let below : c.args.index < 2 ^ c.self.inside.ring = subst (λ bits. c.args.index < 2 ^ bits) (sym bits) c.requires.below in
    let was = open-at c.self.inside.vnodes.items c.from-index.result c.index_mut.result.now c.self.invariant.1
    (omega (arith, c.from-index.ensures, below, c.self.invariant.0)) c.index_mut.ensures.value in (
      length-set c.self.inside.vnodes.items c.from-index.result c.show_and_sweep.new.vnode ∙ c.self.invariant.0,
      open-set c.self.inside.vnodes.items c.from-index.result c.show_and_sweep.new.vnode c.self.invariant.1 (c.show_and_sweep.ensures.closed ∙ was),
    )

-- A vnode of the list that a node keeps is asked.
use Rattle.std.proofs.Common.{◌≡◌, ℕ, ◌<◌, List, refl, ap, subst, ◌∙◌, set, get_or, length}
use Rattle.std.specs.Option.{option_map}
use Rattle.std.proofs.lemmas.List.{map-set}
use Rattle.std.proofs.lemmas.Option.{slice_get-map, slice_get_read}
use Rattle.riak_msgs.specs.Contents.{Content}
use Rattle.riak_msgs.specs.declared.Reply.{Reply}
use Rattle.sibling_register.specs.Answers.{RegisterAsk}
use Rattle.vnode_machine.specs.Asks.{Context}
use Rattle.vnode_machine.specs.Machine.{State}
use Rattle.vnode_machine.specs.Step.{outcome}
use Rattle.vnode_core.specs.Plans.{View}
use Rattle.node_session.specs.PlainNodes.{NodeState, AnswersAndSweeps, AnswersAt, states_of}

module _ (bits budget : ℕ) (vnodes : List View) (ask : RegisterAsk Content Context) (reply : Reply) where
  -- the node with these vnodes
  abbrev node_of : List View → NodeState
  node_of views = record { index_bits = bits; budget = budget; vnodes = states_of views }

  -- what the vnode at an index does, the node does
  pub asked : (i index : ℕ) (vnode after : View) → i ≡ index → vnode ≡ get_or vnodes i vnode → i < length vnodes
      → AnswersAndSweeps budget vnode.state (outcome vnode.state ask) reply after.state → AnswersAt index (node_of vnodes) ask reply (node_of (set vnodes i after))
  asked i index vnode after same is inside steps =
      subst (λ (n : ℕ). AnswersAt n (node_of vnodes) ask reply (node_of (set vnodes i after))) same (record {
        before = vnode.state;
        after = after.state;
        stands = slice_get-map (λ (v : View). v.state) vnodes i ∙ ap (option_map (λ (v : View). v.state)) (slice_get_read vnodes (length vnodes) i vnode refl inside is);
        steps = steps;
        new = ap (λ (states : List (State Content)). record { index_bits = bits; budget = budget; vnodes = states }) (map-set (λ (v : View). v.state) vnodes i after);
      })

-- What a session over a new node says of the register.
use Rattle.std.proofs.Common.{◌≡◌, ℕ, List, Option, Result, Ok, Err, refl, sym, subst, inr}
use Rattle.std.specs.Prelude.{◌⊎◌, IfOk, IfErr}
use Rattle.node_session.specs.declared.ended.Ended.{Ended}
use Rattle.node_session.specs.declared.fault.SessionFault.{SessionFault}
use Rattle.node_session.specs.Session.{Given, EndsInput, StopsInput}
use Rattle.node_session.specs.Streams.{SourceView, input_of}
use Rattle.node_session.specs.PlainNodes.{NodeState, PlainStep, IsNewNode}
use Rattle.node_session.specs.SessionLaws.{IsRunNumber}
use Rattle.node_session.specs.Pipes.{PipeEnds, PipeStops, IsNotBegun}
use Rattle.node_session.proofs.RegisterLaw.{ends_are_registers, stops_are_registers}
use Rattle.node_session.proofs.Streaming.{given_as}

module _ (run index_bits budget : ℕ) (is : IsRunNumber run) (source source' : SourceView) (held held' : Option (List ℕ)) (reads : ℕ) (first node : NodeState) (new : IsNewNode run index_bits budget first) where
  pub pipe_ended : (r : Result Ended SessionFault) → IfOk r (λ e. Given source source' reads (EndsInput PlainStep first node held held' e)) → IfOk r (λ e. Given source source' reads (PipeEnds run index_bits budget held held' e))
  pipe_ended (Ok e) p =
      given_as source source' reads _ _ (λ noted h. ((node, ends_are_registers run index_bits budget is first node new (input_of noted) held held' e.replies e.rest h.0), h.1)) p
  pipe_ended (Err fault) p = tt

  pub pipe_stopped : (r : Result Ended SessionFault) → IfErr r (λ fault. Given source source' reads (StopsInput PlainStep first node held held' reads fault))
      → IfErr r (λ fault. IsNotBegun source.unread source'.unread held held' fault ⊎ Given source source' reads (PipeStops run index_bits budget held held' reads fault))
  pipe_stopped (Ok e) p = tt
  pipe_stopped (Err fault) p = inr (given_as source source' reads _ _ (λ noted h. ((node, stops_are_registers run index_bits budget is first node new (input_of noted) held held' fault h.0), h.1)) p)

-- a new node is as new with another budget
pub with_sweeps : (run index_bits budget : ℕ) (first node : NodeState) → IsNewNode run index_bits 0 first → node ≡ record first { budget = budget } → IsNewNode run index_bits budget node
with_sweeps run index_bits budget first node new is =
    subst (IsNewNode run index_bits budget) (sym is) (record { bits = new.bits; sweeps = refl; vnodes = new.vnodes; bound = new.bound })

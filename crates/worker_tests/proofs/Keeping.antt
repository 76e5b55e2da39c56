-- A session keeps the gates of its node.
use Rattle.std.proofs.Common.{◌≡◌, ℕ, List, refl}
use Rattle.std.specs.Io.KnownBytes.{IsAtEnd}
use Rattle.std.specs.Prelude.{Option, Result, Ok, Err, IfOk, IfErr}
use Rattle.node_session.specs.Session.{Given, EndsInput, StopsInput}
use Rattle.node_session.specs.Streams.{source_of, target_of}
use Rattle.node_session.specs.declared.ended.Ended.{Ended}
use Rattle.node_session.specs.declared.fault.SessionFault.{SessionFault}
use Rattle.gate_node.specs.GateStep.{NodeOverGates, GateNodeStep}
use Rattle.gate_node.proofs.Keeping.{step-keeps}
use Rattle.worker_pool.proofs.Keeping.{over_keeps}

module _ (old new : NodeOverGates) (unread unread' held held' : Option (List ℕ)) (reads : ℕ) where
  -- by what `serve` says of it
  pub session_keeps : (result : Result Ended SessionFault)
      → IfOk result (λ ended. Given (source_of unread) (source_of unread') reads (EndsInput GateNodeStep old new held held' ended))
      → IfOk result (λ _. IsAtEnd unread')
      → IfErr result (λ fault. Given (source_of unread) (source_of unread') reads (StopsInput GateNodeStep old new held held' reads fault)) → new.shared ≡ old.shared
  session_keeps (Ok ended) served all stopped = over_keeps GateNodeStep (λ node. node.shared) step-keeps old new (source_of unread) (source_of unread') (target_of held) (target_of held') reads (Ok ended) (served, all, refl, refl)
  session_keeps (Err fault) served all stopped = over_keeps GateNodeStep (λ node. node.shared) step-keeps old new (source_of unread) (source_of unread') (target_of held) (target_of held') reads (Err fault) (stopped, refl)

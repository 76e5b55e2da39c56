-- How a session of the program ends: a session over a new node on a ring, whose vnodes are lost with it.
use Rattle.std.specs.Prelude.{◌≡◌, List, [], ℕ, Option}
use Rattle.std.specs.Io.KnownBytes.{Keeps}
use Rattle.node_session.specs.declared.ended.Ended.{Ended}
use Rattle.node_session.specs.declared.fault.SessionFault.{SessionFault}
use Rattle.node_session.specs.declared.fault.SessionFault.TheVariants.{NoMemory}
use Rattle.node_session.specs.declared.source.ReadNote.{ReadNote}
use Rattle.node_session.specs.declared.source.ReadNote.TheVariants.{Bytes}
use Rattle.node_session.specs.PlainNodes.{NodeState}
use Rattle.node_session.specs.Session.{HasCause}
use Rattle.node_session.specs.SessionLaws.{RegisterEnds, RegisterStops}
use Rattle.node_session.specs.Streams.{IsLast, input_of}

-- it is a session over the register, to the end of the input
abbrev pub PipeEnds : (run index_bits budget : ℕ) (held held' : Option (List ℕ)) → Ended → List ReadNote → Type 0
PipeEnds run index_bits budget held held' ended noted = ((node : NodeState) × RegisterEnds run index_bits budget node (input_of noted) held held' ended.replies ended.rest) × IsLast (Bytes []) noted

-- or to a fault
abbrev pub PipeStops : (run index_bits budget : ℕ) (held held' : Option (List ℕ)) → ℕ → SessionFault → List ReadNote → Type 0
PipeStops run index_bits budget held held' most fault noted = ((node : NodeState) × RegisterStops run index_bits budget node (input_of noted) held held' fault) × HasCause most fault noted

-- no node was made, for want of memory, and nothing was read or written
pub record IsNotBegun (unread unread' held held' : Option (List ℕ)) (fault : SessionFault) : Type 0 where
  pub is : fault ≡ NoMemory 0
  pub nothing_read : Keeps unread unread'
  pub nothing_written : Keeps held held'

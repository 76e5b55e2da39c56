-- How far a session has come with an input.
use Rattle.std.specs.Prelude.{◌≡◌, ℕ, ◌⊎◌, ◌<◌, ◌≤◌, ◌++◌, List, [], Option, length, take}
use Rattle.std.specs.List.{flat_map, All}
use Rattle.std.specs.Io.KnownBytes.{Appends}
use Rattle.pb_frame.specs.declared.fault.FrameFault.{FrameFault}
use Rattle.pb_frame.specs.Limits.{max_request_len}
use Rattle.pb_frame.specs.Message.{CodedMessage, frame, FitsLimit, IsPartial, IsFaulty}
use Rattle.riak_msgs.specs.declared.request.Request.{Request}
use Rattle.riak_msgs.specs.declared.reply.Reply.{Reply}
use Rattle.riak_msgs.specs.declared.reply.Reply.TheVariants.{Error}
use Rattle.node_session.specs.Limits.{max_read_len}
use Rattle.node_session.specs.Answers.{Answers, AnswersInTurn, reply_frame, frame_fault_text, IsNoError}

-- The input begins with the frames of messages, each of them was answered in its turn, and so many whole replies were
-- written, and after them `last`. Ends says how it ended, with the node as it is after them and with what the input has after them.
pub record AnsweredInput {S : Type 0} (Step : S → Request → Reply → S → Type 0) (node : S) (input : List ℕ) (held held' : Option (List ℕ)) (count : ℕ) (Ends : S → List ℕ → List ℕ → Type 0) : Type 0 where
  pub messages : List CodedMessage
  pub replies : List Reply
  pub mid : S
  pub rest : List ℕ
  pub last : List ℕ
  pub stream : input ≡ flat_map frame messages ++ rest
  pub each : All (FitsLimit max_request_len) messages
  pub run : AnswersInTurn Step node messages replies mid
  pub counted : length messages ≡ count
  pub written : Appends held held' (flat_map reply_frame replies ++ last)
  pub ends : Ends mid rest last

-- no part of a reply was written, and the node and the rest are these
pub record StandsAt {S : Type 0} (node' : S) (rest' : List ℕ) (mid : S) (rest last : List ℕ) : Type 0 where
  pub node : node' ≡ mid
  pub left : rest' ≡ rest
  pub nothing : last ≡ []

-- each whole message was answered, and nothing is wrong with what is left
pub record AllAnswered {S : Type 0} (node' : S) (mid : S) (rest last : List ℕ) : Type 0 where
  pub node : node' ≡ mid
  pub partial : IsPartial max_request_len rest
  pub nothing : last ≡ []

-- the next message, its answer, and the node after it
pub record NextReply {S : Type 0} (Step : S → Request → Reply → S → Type 0) (mid : S) (rest : List ℕ) (next : List ℕ) (node' : S) : Type 0 where
  pub message : CodedMessage
  pub reply : Reply
  pub more : List ℕ
  pub front : rest ≡ frame message ++ more
  pub within : FitsLimit max_request_len message
  pub answers : Answers Step mid message reply node'
  pub is : next ≡ reply_frame reply

-- a bad length, and its error
pub record IsError {S : Type 0} (mid : S) (rest : List ℕ) (next : List ℕ) (node' : S) : Type 0 where
  pub fault : FrameFault
  pub faulty : IsFaulty max_request_len rest fault
  pub node : node' ≡ mid
  pub is : next ≡ reply_frame (Error (frame_fault_text fault))

-- the error for a bad length was written whole
abbrev pub IsBadLengthTold : {S : Type 0} (node' : S) → S → List ℕ → List ℕ → Type 0
IsBadLengthTold node' mid rest last = IsError mid rest last node'

-- what was written begins what was due next, and doesn't end it
pub record PartlyWritten {S : Type 0} (Step : S → Request → Reply → S → Type 0) (node' : S) (mid : S) (rest last : List ℕ) : Type 0 where
  pub next : List ℕ
  pub due : NextReply Step mid rest next node' ⊎ IsError mid rest next node'
  pub len : ℕ
  pub short : len < length next
  pub begins : last ≡ take len next

-- nothing of the next reply was written, which is no error, and the node stands behind its message
pub record ReplyNotWritten {S : Type 0} (Step : S → Request → Reply → S → Type 0) (node' : S) (mid : S) (rest last : List ℕ) : Type 0 where
  pub nothing : last ≡ []
  pub next : List ℕ
  pub due : NextReply Step mid rest next node'
  pub no_error : IsNoError due.reply

-- without its last bytes, as many as a read takes at most, nothing is wrong with what is left and no whole frame stands there
pub record CameInLastRead (rest : List ℕ) : Type 0 where
  pub before : List ℕ
  pub piece : List ℕ
  pub splits : rest ≡ before ++ piece
  pub some : 0 < length piece
  pub bound : length piece ≤ max_read_len
  pub partial : IsPartial max_request_len before

-- what ended it came with the bytes of the last read
abbrev pub AtLastRead : {S : Type 0} → (S → List ℕ → List ℕ → Type 0) → S → List ℕ → List ℕ → Type 0
AtLastRead Ends mid rest last = CameInLastRead rest × Ends mid rest last

-- a part of what was due next was written, or all was written and could not be flushed
abbrev pub WriteFailedAt : {S : Type 0} (Step : S → Request → Reply → S → Type 0) (node' : S) → S → List ℕ → List ℕ → Type 0
WriteFailedAt Step node' mid rest last = AtLastRead (PartlyWritten Step node') mid rest last ⊎ AllAnswered node' mid rest last

-- nothing of what is left was answered
pub record Unanswered {S : Type 0} (node' : S) (mid : S) (rest last : List ℕ) : Type 0 where
  pub node : node' ≡ mid
  pub nothing : last ≡ []

-- memory was refused for the next reply, or for the piece that was read last
abbrev pub IsMemoryRefused : {S : Type 0} (Step : S → Request → Reply → S → Type 0) (node' : S) → S → List ℕ → List ℕ → Type 0
IsMemoryRefused Step node' mid rest last = ReplyNotWritten Step node' mid rest last ⊎ Unanswered node' mid rest last

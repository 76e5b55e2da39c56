-- What callers see of a session.
use Rattle.std.specs.Prelude.{◌≡◌, ℕ, ◌+◌, ◌⊎◌, ◌≤◌, List, [], ◌++◌, Option, None, length, map}
use Rattle.std.specs.List.{flat_map, All}
use Rattle.pb_frame.specs.declared.fault.FrameFault.{FrameFault}
use Rattle.pb_frame.specs.Limits.{max_request_len}
use Rattle.node_session.specs.Limits.{max_read_len}
use Rattle.pb_frame.specs.Message.{CodedMessage, frame, given_length, FitsLimit, IsPartial}
use Rattle.riak_msgs.specs.declared.reply.Reply.{Reply}
use Rattle.node_session.specs.declared.exchange.Exchange.{Exchange}

abbrev pub message_of : Exchange → CodedMessage
message_of e = record { code = e.code; body = e.body }

abbrev pub messages_of : List Exchange → List CodedMessage
messages_of es = map message_of es

abbrev pub replies_of : List Exchange → List Reply
replies_of es = map (λ (e : Exchange). e.reply) es

-- what was read, the messages of it that were answered, with their replies, what is left of it behind these, the bad length
-- that was met, if there was one, and what was not yet sent of the replies' frames
pub record Transcript : Type 0 where
  pub input : List ℕ
  pub exchanges : List Exchange
  pub rest : List ℕ
  pub fault : Option FrameFault
  pub unsent : List ℕ

-- nothing was read yet
abbrev pub nothing_read : Transcript
nothing_read = record { input = []; exchanges = []; rest = []; fault = None; unsent = [] }

-- but for its last bytes, as many as a read takes at most, nothing is wrong with it and no whole frame stands there
pub record EndsInPiece (rest : List ℕ) : Type 0 where
  pub before : List ℕ
  pub piece : List ℕ
  pub splits : rest ≡ before ++ piece
  pub bound : length piece ≤ max_read_len
  pub partial : IsPartial max_request_len before

-- so many bytes may be read at once behind what is left: as many as a read takes at most, or no more than the message that stands there lacks
abbrev pub CanFollow : List ℕ → ℕ → Type 0
CanFollow rest len = (len ≤ max_read_len) ⊎ ((4 ≤ length rest) × (length rest + len ≤ given_length rest + 4))

-- the input is the frames of the messages that were answered, and then what is left
pub record IsRead (input : List ℕ) (exchanges : List Exchange) (rest : List ℕ) : Type 0 where
  pub stream : input ≡ flat_map frame (messages_of exchanges) ++ rest
  pub each : All (FitsLimit max_request_len) (messages_of exchanges)
  pub last : EndsInPiece rest

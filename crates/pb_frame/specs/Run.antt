-- What becomes of a framer that is fed and taken from, in any order.
use Rattle.std.specs.Prelude.{◌≡◌, ℕ, List, [], ◌∷◌, ◌++◌}
use Rattle.pb_frame.specs.Message.{CodedMessage}
use Rattle.pb_frame.specs.Stream.{Stream}
use Rattle.pb_frame.specs.Taking.{IsTaken}

-- a piece was fed, or a message was taken
pub data FramerEvent : Type 0 where
  fed : List ℕ → FramerEvent
  taken : CodedMessage → FramerEvent

-- the framer goes from old to new by these events, one after another
abbrev pub Ran : Stream → List FramerEvent → Stream → Type 0
Ran old [] new = new ≡ old
Ran old (fed piece ∷ events) new = Ran (record old { rest = old.rest ++ piece }) events new
Ran old (taken m ∷ events) new = (mid : Stream) × IsTaken old m mid × Ran mid events new

-- the pieces, one after another
abbrev pub fed_bytes : List FramerEvent → List ℕ
fed_bytes [] = []
fed_bytes (fed piece ∷ events) = piece ++ fed_bytes events
fed_bytes (taken m ∷ events) = fed_bytes events

-- the messages, one after another
abbrev pub taken_messages : List FramerEvent → List CodedMessage
taken_messages [] = []
taken_messages (fed piece ∷ events) = taken_messages events
taken_messages (taken m ∷ events) = m ∷ taken_messages events

-- The header at the front of a stream, and the frame that it begins.
use Rattle.std.specs.Prelude.{◌≡◌, ℕ, ◌-◌, ◌≤◌, List, ◌++◌, length, take, drop, slice_index}
use Rattle.pb_frame.specs.declared.decode.Header.{Header}
use Rattle.pb_frame.specs.declared.decode.Header.TheVariants.{Incomplete, Complete, Invalid}
use Rattle.pb_frame.specs.Message.{CodedMessage, frame, FitsLimit, IsPartial, IsFaulty}

-- the message of the frame that is the first `end` bytes
abbrev pub message_at : List ℕ → ℕ → CodedMessage
message_at bytes end = record { code = slice_index bytes 4; body = take (end - 5) (drop 5 bytes) }

-- the first `end` bytes are a frame
pub record IsWhole (limit : ℕ) (bytes : List ℕ) (end : ℕ) : Type 0 where
  pub begins : 5 ≤ end
  pub ends : end ≤ length bytes
  pub within : FitsLimit limit (message_at bytes end)
  pub front : bytes ≡ frame (message_at bytes end) ++ drop end bytes

-- what the header says of the bytes: less than a frame, a whole one, or a bad length
abbrev pub IsHeader : ℕ → List ℕ → Header → Type 0
IsHeader limit bytes Incomplete = IsPartial limit bytes
IsHeader limit bytes (Complete end) = IsWhole limit bytes end
IsHeader limit bytes (Invalid fault) = IsFaulty limit bytes fault

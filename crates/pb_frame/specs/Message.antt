-- Messages as frames, and what a stream of frames is.
use Rattle.std.specs.Prelude.{◌≡◌, ℕ, ◌+◌, ◌<◌, ◌≤◌, List, ◌∷◌, ◌++◌, length}
use Rattle.std.specs.List.{flat_map, All}
use Rattle.byteorder.specs.Endian.{big_bytes, big_number}
use Rattle.pb_frame.specs.declared.fault.FrameFault.{FrameFault}
use Rattle.pb_frame.specs.declared.fault.FrameFault.TheVariants.{Empty, TooLarge, NoMemory}

-- a message: its code and its body
pub record CodedMessage : Type 0 where
  pub code : ℕ
  pub body : List ℕ

-- a message as a frame: in four bytes, the highest first, how long code and body are, then the code and the body
unfoldable pub frame : CodedMessage → List ℕ
frame m = big_bytes 4 (length m.body + 1) ++ m.code ∷ m.body

-- the length with which a frame begins
unfoldable pub given_length : List ℕ → ℕ
given_length bytes = big_number 4 bytes

-- code and body are at most `limit` bytes
abbrev pub FitsLimit : ℕ → CodedMessage → Type 0
FitsLimit limit m = length m.body + 1 ≤ limit

-- no whole frame stands at the front
abbrev pub BeginsNoFrame : ℕ → List ℕ → Type 0
BeginsNoFrame limit rest = (m : CodedMessage) (more : List ℕ) → FitsLimit limit m → rest ≡ frame m ++ more → ⊥

-- the stream is the frames of these messages, and then a rest that begins no whole frame
pub record Splits (limit : ℕ) (stream : List ℕ) (messages : List CodedMessage) (rest : List ℕ) : Type 0 where
  pub whole : stream ≡ flat_map frame messages ++ rest
  pub each : All (FitsLimit limit) messages
  pub left : BeginsNoFrame limit rest

-- fewer bytes than a frame has, by the length that they begin with, if that has come
abbrev pub IsShort : ℕ → List ℕ → Type 0
IsShort limit rest = 4 ≤ length rest → (0 < given_length rest) × (given_length rest ≤ limit) × (length rest < given_length rest + 4)

-- four bytes stand at the front whose length no frame has: 0, or above the limit
abbrev pub IsBadLength : ℕ → List ℕ → FrameFault → Type 0
IsBadLength limit rest Empty = (4 ≤ length rest) × (given_length rest ≡ 0)
IsBadLength limit rest TooLarge = (4 ≤ length rest) × (limit < given_length rest)
IsBadLength limit rest NoMemory = ⊥

-- no whole frame has come, and nothing is wrong so far
pub record IsPartial (limit : ℕ) (rest : List ℕ) : Type 0 where
  pub left : BeginsNoFrame limit rest
  pub short : IsShort limit rest

-- no whole frame has come, and none will
pub record IsFaulty (limit : ℕ) (rest : List ℕ) (fault : FrameFault) : Type 0 where
  pub left : BeginsNoFrame limit rest
  pub length : IsBadLength limit rest fault

-- after some frames, the stream goes on with a length that no frame has
pub record IsFaultyStream (limit : ℕ) (stream : List ℕ) (fault : FrameFault) : Type 0 where
  pub messages : List CodedMessage
  pub rest : List ℕ
  pub splits : Splits limit stream messages rest
  pub faulty : IsBadLength limit rest fault

-- What clauses see of the streams of a session: what its reads gave, and what was written.
use Rattle.std.specs.Prelude.{◌≡◌, ℕ, ◌+◌, ◌<◌, ◌≤◌, List, [], ◌∷◌, ◌++◌, take, length, Option, None, Some, Result, Ok, Err, Bool, true, false, if◌then◌else◌}
use Rattle.std.specs.List.{flat_map}
use Rattle.std.specs.Int.{div_ceil}
use Rattle.std.specs.IoError.{error_kind}
use Rattle.std.specs.declared.io.Error.{Error}
use Rattle.std.specs.declared.io.ErrorKind.{ErrorKind}
use Rattle.std.specs.declared.io.ErrorKind.TheVariants.{WouldBlock, Interrupted}
use Rattle.std.specs.Io.KnownBytes.{Appends, Consumes, Keeps}
use Rattle.node_session.specs.Limits.{max_read_len}
use Rattle.node_session.specs.declared.source.ReadNote.{ReadNote}
use Rattle.node_session.specs.declared.source.ReadNote.TheVariants as notes
use Rattle.node_session.specs.declared.transport.Sent.{Sent}
use Rattle.node_session.specs.declared.transport.Sent.TheVariants as sends
use Rattle.node_session.specs.declared.transport.Flushed.{Flushed}
use Rattle.node_session.specs.declared.transport.Flushed.TheVariants as flushes

-- of a reader: the number of its connection, the bytes that it has left, and what its reads gave so far, each where that is known
pub record SourceView : Type 0 where
  pub number : Option ℕ
  pub unread : Option (List ℕ)
  pub heard : Option (List ReadNote)

-- of a writer: the number of its connection and all that it took, each where that is known, and what of that it wasn't seen to hand on
pub record TargetView : Type 0 where
  pub number : Option ℕ
  pub contents : Option (List ℕ)
  pub waiting : List ℕ

-- of a reader that notes nothing
abbrev pub source_of : Option (List ℕ) → SourceView
source_of unread = record { number = None; unread = unread; heard = None }

-- of a writer that holds nothing back
abbrev pub target_of : Option (List ℕ) → TargetView
target_of contents = record { number = None; contents = contents; waiting = [] }

-- what came of a read
abbrev pub note_of : Result ℕ Error → List ℕ → ReadNote
note_of (Ok n) buf = notes.Bytes (take n buf)
note_of (Err error) buf = notes.Failed (error_kind error)

-- it would have had to wait
abbrev pub blocked : ReadNote
blocked = notes.Failed WouldBlock

abbrev pub bytes_of : ReadNote → List ℕ
bytes_of (notes.Bytes bytes) = bytes
bytes_of (notes.Failed kind) = []

-- all that these reads gave
abbrev pub input_of : List ReadNote → List ℕ
input_of noted = flat_map bytes_of noted

abbrev pub is_interrupted : ErrorKind → Bool
is_interrupted Interrupted = true
is_interrupted kind = false

-- how many reads one counts for: one for each 4,096 bytes that it gave, begun or whole, and one where it was interrupted
abbrev pub weight_of : ReadNote → ℕ
weight_of (notes.Bytes bytes) = div_ceil (length bytes) max_read_len
weight_of (notes.Failed kind) = if is_interrupted kind then 1 else 0

-- how many these count for
abbrev pub reads_of : List ReadNote → ℕ
reads_of [] = 0
reads_of (note ∷ noted) = weight_of note + reads_of noted

-- the last of them is this one
abbrev pub IsLast : ReadNote → List ReadNote → Type 0
IsLast note noted = (before : List ReadNote) × (noted ≡ before ++ note ∷ [])

-- where it is known what was noted, these came behind it
abbrev pub Adds : Option (List ReadNote) → Option (List ReadNote) → List ReadNote → Type 0
Adds None new noted = Unit {0}
Adds (Some old) None noted = ⊥
Adds (Some old) (Some new) noted = new ≡ old ++ noted

-- the reads of a reader, from the one moment to the other
pub record Gave (old new : SourceView) (noted : List ReadNote) : Type 0 where
  pub number : new.number ≡ old.number
  pub read : Consumes old.unread new.unread (input_of noted)
  pub heard : Adds old.heard new.heard noted

-- a writer took nothing
pub record Holds (old new : TargetView) : Type 0 where
  pub number : new.number ≡ old.number
  pub contents : Keeps old.contents new.contents

-- it took these bytes
pub record Took (old new : TargetView) (bytes : List ℕ) : Type 0 where
  pub number : new.number ≡ old.number
  pub contents : Appends old.contents new.contents bytes

abbrev pub Takes : TargetView → TargetView → Result ℕ Error → List ℕ → Type 0
Takes old new (Ok n) bytes = Took old new (take n bytes)
Takes old new (Err error) bytes = Holds old new

-- what one call of a writer comes to
abbrev pub SendsSome : TargetView → TargetView → List ℕ → Sent → Type 0
SendsSome old new bytes (sends.Bytes n) = (0 < n) × (n ≤ length bytes) × Took old new (take n bytes)
SendsSome old new bytes sends.Blocked = Holds old new
SendsSome old new bytes sends.Failed = Holds old new

-- and a flush
abbrev pub Flushes : TargetView → Flushed → Type 0
Flushes new flushes.Done = new.waiting ≡ []
Flushes new flushes.Blocked = Unit {0}
Flushes new flushes.Failed = Unit {0}

-- How a session ends.
use Rattle.std.specs.Prelude.{◌≡◌, ℕ, ◌≤◌, false, List, [], Option, length}
use Rattle.std.specs.declared.io.ErrorKind.{ErrorKind}
use Rattle.riak_msgs.specs.declared.request.Request.{Request}
use Rattle.riak_msgs.specs.declared.reply.Reply.{Reply}
use Rattle.node_session.specs.declared.ended.Ended.{Ended}
use Rattle.node_session.specs.declared.fault.SessionFault.{SessionFault}
use Rattle.node_session.specs.declared.fault.SessionFault.TheVariants.{ReadFailed, WriteFailed, BadFrame, TooManyReads, NoMemory}
use Rattle.node_session.specs.declared.source.ReadNote.{ReadNote}
use Rattle.node_session.specs.declared.source.ReadNote.TheVariants.{Bytes, Failed}
use Rattle.node_session.specs.Answered.{AnsweredInput, AllAnswered, IsBadLengthTold, WriteFailedAt, IsMemoryRefused, AtLastRead}
use Rattle.node_session.specs.Streams.{SourceView, Gave, IsLast, input_of, is_interrupted, reads_of}

-- a reader was read, by reads that count for so many at most, and this holds of what they gave
pub record Given (old new : SourceView) (reads : ℕ) (Serves : List ReadNote → Type 0) : Type 0 where
  pub noted : List ReadNote
  pub gave : Gave old new noted
  pub within : reads_of noted ≤ reads
  pub serves : Serves noted

-- the end of the input was met, and this much is left of it
pub record IsInputEnd {S : Type 0} (node' : S) (len : ℕ) (mid : S) (rest last : List ℕ) : Type 0 where
  pub through : AllAnswered node' mid rest last
  pub left : length rest ≡ len

-- The fault, with how many whole replies were written.
abbrev pub Stops : {S : Type 0} → (S → Request → Reply → S → Type 0) → S → S → List ℕ → Option (List ℕ) → Option (List ℕ) → SessionFault → Type 0
Stops Step old new input held held' (ReadFailed count) = AnsweredInput Step old input held held' count (AllAnswered new)
Stops Step old new input held held' (WriteFailed count) = AnsweredInput Step old input held held' count (WriteFailedAt Step new)
Stops Step old new input held held' (BadFrame count) = AnsweredInput Step old input held held' count (AtLastRead (IsBadLengthTold new))
Stops Step old new input held held' (TooManyReads count) = AnsweredInput Step old input held held' count (AllAnswered new)
Stops Step old new input held held' (NoMemory count) = AnsweredInput Step old input held held' count (AtLastRead (IsMemoryRefused Step new))

-- a read failed that wasn't interrupted, and no further one was made
pub record LastFailed (noted : List ReadNote) : Type 0 where
  pub kind : ErrorKind
  pub for_good : is_interrupted kind ≡ false
  pub last : IsLast (Failed kind) noted

-- what the reads of a session show of its fault, of which so many may be made
abbrev pub HasCause : ℕ → SessionFault → List ReadNote → Type 0
HasCause most (ReadFailed count) noted = LastFailed noted
HasCause most (WriteFailed count) noted = Unit {0}
HasCause most (BadFrame count) noted = Unit {0}
HasCause most (TooManyReads count) noted = reads_of noted ≡ most
HasCause most (NoMemory count) noted = Unit {0}

module _ {S : Type 0} (Step : S → Request → Reply → S → Type 0) (old new : S) (held held' : Option (List ℕ)) where
  -- what these reads gave was answered to its end, which the last of them met
  abbrev pub EndsInput : Ended → List ReadNote → Type 0
  EndsInput ended noted = AnsweredInput Step old (input_of noted) held held' ended.replies (IsInputEnd new ended.rest) × IsLast (Bytes []) noted

  -- it was answered as far as the fault lets it come
  abbrev pub StopsInput : ℕ → SessionFault → List ReadNote → Type 0
  StopsInput most fault noted = Stops Step old new (input_of noted) held held' fault × HasCause most fault noted

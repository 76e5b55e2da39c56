-- How far a session has come, by what it does next.
use Rattle.std.specs.Prelude.{◌≡◌, ℕ, ◌+◌, ◌-◌, ◌*◌, ◌<◌, ◌≤◌, List, [], ◌∷◌, ◌++◌, Option, None, Result, Ok, Err, length}
use Rattle.std.specs.Io.KnownBytes.{Appends, IsAtEnd}
use Rattle.pb_frame.specs.Limits.{max_request_len}
use Rattle.pb_frame.specs.Message.{IsPartial}
use Rattle.riak_msgs.specs.declared.request.Request.{Request}
use Rattle.riak_msgs.specs.declared.reply.Reply.{Reply}
use Rattle.node_session.specs.Streams.{SourceView, TargetView, Gave, Holds, blocked, input_of, reads_of}
use Rattle.node_session.specs.Session.{Given, EndsInput, StopsInput}
use Rattle.node_session.specs.Sending.{IsSessionOpen, Stands}
use Rattle.node_session.specs.Nexts.{IsNextAnswered, IsBadNext}
use Rattle.node_session.specs.Views.{Transcript, IsRead}
use Rattle.node_session.specs.declared.ended.Ended.{Ended}
use Rattle.node_session.specs.declared.fault.SessionFault.{SessionFault}
use Rattle.node_session.specs.declared.source.ReadNote.{ReadNote}
use Rattle.node_session.specs.declared.stage.Stage.{Stage}
use Rattle.node_session.specs.declared.stage.Stage.TheVariants.{Answering, Sending, Telling, Flushing, Reading, Closing, Over}
use Rattle.node_session.specs.declared.session.Session.{Session}

-- some of what was to be sent was written, and the rest is to be sent
pub record SentSome (held held' : Option (List ℕ)) (old new : Transcript) : Type 0 where
  pub done : List ℕ
  pub splits : old.unsent ≡ done ++ new.unsent
  pub written : Appends held held' done
  pub same : new ≡ record old { unsent = new.unsent }

-- reads that gave this input were made, which count for so many, of which there are so many at most
pub record HasRead (source source' : SourceView) (input : List ℕ) (made most : ℕ) : Type 0 where
  pub noted : List ReadNote
  pub gave : Gave source source' noted
  pub is : input ≡ input_of noted
  pub counted : made ≡ reads_of noted
  pub within : made ≤ most
  pub few : most ≤ 4294967296

module _ {S : Type 0} (Step : S → Request → Reply → S → Type 0) (first now : S) (source source' : SourceView) (target target' : TargetView) where
  -- all messages so far were answered, by a run of the node from the first state to this one, and their replies were written
  pub record IsAnswering (s : Transcript) (replies made most : ℕ) : Type 0 where
    pub read : HasRead source source' s.input made most
    pub stands : Stands Step first now target.contents target'.contents s
    pub going : IsSessionOpen s replies
    pub same : target'.number ≡ target.number

  -- and none is left whole
  pub record IsIdle (s : Transcript) (replies made most : ℕ) : Type 0 where
    pub answering : IsAnswering s replies made most
    pub partial : IsPartial max_request_len s.rest

  -- and the writer handed on all of them
  pub record IsFlushed (s : Transcript) (replies made most : ℕ) : Type 0 where
    pub idle : IsIdle s replies made most
    pub flushed : target'.waiting ≡ []

  -- one message more was answered, and some of its reply was written
  pub record IsSending (s : Transcript) (replies made most : ℕ) : Type 0 where
    pub mid : S
    pub before : Transcript
    pub whole : Transcript
    pub written : Option (List ℕ)
    pub read : HasRead source source' before.input made most
    pub was_read : IsRead before.input before.exchanges before.rest
    pub stands : Stands Step first mid target.contents written before
    pub going : IsSessionOpen before replies
    pub one : IsNextAnswered Step mid now before whole
    pub part : SentSome written target'.contents whole s
    pub same : target'.number ≡ target.number

  -- a bad length stands next, and some of its error was written
  pub record IsTelling (s : Transcript) (replies made most : ℕ) : Type 0 where
    pub before : Transcript
    pub whole : Transcript
    pub written : Option (List ℕ)
    pub read : HasRead source source' before.input made most
    pub was_read : IsRead before.input before.exchanges before.rest
    pub stands : Stands Step first now target.contents written before
    pub going : IsSessionOpen before replies
    pub bad : IsBadNext before whole
    pub part : SentSome written target'.contents whole s
    pub same : target'.number ≡ target.number

  -- what `serve` promises of its result; at the end of the input the writer has handed on all
  abbrev pub IsOverBy : ℕ → Result Ended SessionFault → Type 0
  IsOverBy most (Ok e) =
      Given source source' most (EndsInput Step first now target.contents target'.contents e)
      × IsAtEnd source'.unread × (target'.waiting ≡ []) × (target'.number ≡ target.number)
  IsOverBy most (Err fault) =
      Given source source' most (StopsInput Step first now target.contents target'.contents most fault)
      × (target'.number ≡ target.number)

  abbrev pub Came : Stage → Session → Type 0
  Came Answering session = IsAnswering session.buffers session.replies session.made session.most
  Came Sending session = IsSending session.buffers session.replies session.made session.most
  Came Telling session = IsTelling session.buffers session.replies session.made session.most
  Came Flushing session = IsIdle session.buffers session.replies session.made session.most
  Came Reading session = IsFlushed session.buffers session.replies session.made session.most
  Came (Closing fault) session = IsOverBy session.most (Err fault)
  Came (Over result) session = IsOverBy session.most result

-- from wherever a session came to the one stage, it comes to the other
abbrev pub Goes : {S : Type 0} → (S → Request → Reply → S → Type 0) → (now now' : S) (source' source'' : SourceView) (target' target'' : TargetView) → Stage → Session → Stage → Session → Type 0
Goes {S} Step now now' source' source'' target' target'' stage old stage' new =
    (first : S) (source : SourceView) (target : TargetView) → Came Step first now source source' target target' stage old → Came Step first now' source source'' target target'' stage' new

-- a stream would have had to wait: the reader notes that, and the writer took nothing
abbrev pub Waits : Stage → (source source' : SourceView) (target target' : TargetView) → Type 0
Waits Answering source source' target target' = (source' ≡ source) × Holds target target'
Waits Sending source source' target target' = (source' ≡ source) × Holds target target'
Waits Telling source source' target target' = (source' ≡ source) × Holds target target'
Waits Flushing source source' target target' = (source' ≡ source) × Holds target target'
Waits Reading source source' target target' = Gave source source' (blocked ∷ []) × (target' ≡ target)
Waits (Closing fault) source source' target target' = (source' ≡ source) × Holds target target'
Waits (Over result) source source' target target' = (source' ≡ source) × Holds target target'

-- what a session has to be, so that it can do what it does next
abbrev pub Fits : Stage → Session → Type 0
Fits Answering session = (session.buffers.fault ≡ None) × (session.buffers.unsent ≡ [])
Fits Sending session = (session.buffers.fault ≡ None) × (0 < length session.buffers.unsent)
Fits Telling session = Unit {0}
Fits Flushing session = (session.buffers.fault ≡ None) × (session.buffers.unsent ≡ []) × IsPartial max_request_len session.buffers.rest
Fits Reading session = (session.buffers.fault ≡ None) × (session.buffers.unsent ≡ []) × IsPartial max_request_len session.buffers.rest × (session.made < session.most)
Fits (Closing fault) session = Unit {0}
Fits (Over result) session = Unit {0}

-- it may have to wait here for a stream
abbrev pub CanWait : Stage → Transcript → Type 0
CanWait Answering s = ⊥
CanWait Sending s = 0 < length s.unsent
CanWait Telling s = 0 < length s.unsent
CanWait Flushing s = Unit {0}
CanWait Reading s = Unit {0}
CanWait (Closing fault) s = Unit {0}
CanWait (Over result) s = ⊥

-- where it is between two reads: a message more outweighs any reply (2 ^ 40 for each byte that is left, a frame being below 2 ^ 33 bytes)
abbrev pub rank : Stage → ℕ
rank Answering = 137438953472
rank Sending = 274877906944
rank Telling = 4
rank Flushing = 3
rank Reading = 2
rank (Closing fault) = 1
rank (Over result) = 0

-- how much is still to be done at most: a read that is left counts for more than the 4,096 bytes that it may bring
abbrev pub weight : Stage → Session → ℕ
weight stage session = ((session.most - session.made) * 4097 + length session.buffers.rest) * 1099511627776 + length session.buffers.unsent * 8 + rank stage

-- it isn't over
abbrev pub IsGoing : Stage → Type 0
IsGoing Answering = Unit {0}
IsGoing Sending = Unit {0}
IsGoing Telling = Unit {0}
IsGoing Flushing = Unit {0}
IsGoing Reading = Unit {0}
IsGoing (Closing fault) = Unit {0}
IsGoing (Over result) = ⊥

-- it is
abbrev pub IsOver : Stage → Type 0
IsOver Answering = ⊥
IsOver Sending = ⊥
IsOver Telling = ⊥
IsOver Flushing = ⊥
IsOver Reading = ⊥
IsOver (Closing fault) = ⊥
IsOver (Over result) = Unit {0}

-- What `take` gives, and what it leaves once its frame is no longer borrowed.
use Rattle.std.specs.Prelude.{◌≡◌, ◌++◌, None, Some, ◌⊎◌, Option, Result, Ok, Err}
use Rattle.std.specs.Borrow.{Fml, MutBor}
use Rattle.std.specs.Io.BufRead.{Rests}
use Rattle.pb_frame.specs.declared.fault.FrameFault.{FrameFault}
use Rattle.pb_frame.specs.declared.frame.Frame.{Frame}
use Rattle.pb_frame.specs.contracts.framer.Framer.{the_row}
use Rattle.pb_frame.specs.Message.{CodedMessage, frame, FitsLimit, IsPartial, IsFaulty}
use Rattle.pb_frame.specs.Stream.{Stream}

-- the message of a frame that was taken
abbrev pub message_of : Frame → CodedMessage
message_of f = record { code = f.code; body = f.body.now }

-- a frame was taken off the front
pub record IsTaken (old : Stream) (m : CodedMessage) (new : Stream) : Type 0 where
  pub fault : old.fault ≡ None
  pub within : FitsLimit old.limit m
  pub front : old.rest ≡ frame m ++ new.rest
  pub stream : new ≡ record old { rest = new.rest }

-- no whole frame is left, and nothing is wrong so far
pub record IsOut (old new : Stream) : Type 0 where
  pub fault : old.fault ≡ None
  pub partial : IsPartial old.limit old.rest
  pub stream : new ≡ old

-- a bad length stands at the front: here, or at an earlier call
pub record IsRefused (old : Stream) (e : FrameFault) (new : Stream) : Type 0 where
  pub fault : (old.fault ≡ None) ⊎ (old.fault ≡ Some e)
  pub faulty : IsFaulty old.limit old.rest e
  pub stream : new ≡ record old { fault = Some e }

-- what `take` answers: a frame, none, or a bad length
abbrev pub Takes : Stream → Result (Option Frame) FrameFault → Stream → Type 0
Takes old (Ok (Some f)) new = IsTaken old (message_of f) new
Takes old (Ok None) new = IsOut old new
Takes old (Err e) new = IsRefused old e new

-- once the frame is no longer borrowed, the framer's new value is such
abbrev pub TakesOnce : MutBor Stream → Result (Option Frame) FrameFault → Fml
TakesOnce framer result = Rests the_row framer (Takes framer.now result)

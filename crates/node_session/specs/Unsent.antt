-- What is still to be sent.
use Rattle.std.specs.Prelude.{◌≡◌, ℕ, List, [], ◌∷◌, ◌++◌, Result, Ok, Err}
use Rattle.pb_frame.specs.declared.fault.FrameFault.{FrameFault}
use Rattle.riak_msgs.specs.declared.reply.Reply.{Reply}
use Rattle.riak_msgs.specs.declared.reply.Reply.TheVariants.{Ping}
use Rattle.node_session.specs.Answers.{reply_frame, HasNoFrame, IsFramed, IsNoError}

-- it is the front of these bytes, and there is one where there are any
pub record IsFront (front bytes : List ℕ) : Type 0 where
  pub more : List ℕ
  pub splits : bytes ≡ front ++ more
  pub some : front ≡ [] → bytes ≡ []

-- where nothing was to be sent, the frame of a reply is; or it was lost, and is no error: a frame can't hold it, or memory was refused
abbrev pub PutsReply : Reply → List ℕ → Result (Unit {0}) FrameFault → Type 0
PutsReply reply new (Ok u) = IsFramed reply × (new ≡ reply_frame reply)
PutsReply reply new (Err fault) = HasNoFrame reply fault × IsNoError reply × (new ≡ [])

-- the first of these replies; where there is none, that to a ping
abbrev pub first_reply : List Reply → Reply
first_reply [] = Ping
first_reply (reply ∷ replies) = reply

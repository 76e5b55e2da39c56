-- What a session does with its next message.
use Rattle.std.specs.Prelude.{◌≡◌, [], ◌∷◌, ◌++◌, None}
use Rattle.pb_frame.specs.declared.fault.FrameFault.{FrameFault}
use Rattle.pb_frame.specs.Limits.{max_request_len}
use Rattle.pb_frame.specs.Message.{frame, FitsLimit, IsPartial, IsFaulty}
use Rattle.riak_msgs.specs.declared.request.Request.{Request}
use Rattle.riak_msgs.specs.declared.reply.Reply.{Reply}
use Rattle.riak_msgs.specs.declared.reply.Reply.TheVariants.{Error}
use Rattle.node_session.specs.declared.exchange.Exchange.{Exchange}
use Rattle.node_session.specs.declared.buffers.Next.{Next}
use Rattle.node_session.specs.declared.buffers.Next.TheVariants.{Answered, Idle, BadFrame, Lost}
use Rattle.node_session.specs.Answers.{Answers, reply_frame, frame_fault_text, IsFramed, IsNoError}
use Rattle.node_session.specs.Views.{Transcript, message_of}

-- a bad length stands next, and its error is to be sent
pub record IsBadNext (old new : Transcript) : Type 0 where
  pub bad : FrameFault
  pub faulty : IsFaulty max_request_len old.rest bad
  pub input : new.input ≡ old.input
  pub exchanges : new.exchanges ≡ old.exchanges
  pub rest : new.rest ≡ old.rest
  pub framed : IsFramed (Error (frame_fault_text bad))
  pub unsent : new.unsent ≡ old.unsent ++ reply_frame (Error (frame_fault_text bad))

module _ {S : Type 0} (Step : S → Request → Reply → S → Type 0) where
  -- the next message was answered, and its reply is to be sent
  pub record IsNextAnswered (node node' : S) (old new : Transcript) : Type 0 where
    pub exchange : Exchange
    pub front : old.rest ≡ frame (message_of exchange) ++ new.rest
    pub within : FitsLimit max_request_len (message_of exchange)
    pub answers : Answers Step node (message_of exchange) exchange.reply node'
    pub input : new.input ≡ old.input
    pub exchanges : new.exchanges ≡ old.exchanges ++ exchange ∷ []
    pub fault : new.fault ≡ None
    pub framed : IsFramed exchange.reply
    pub unsent : new.unsent ≡ old.unsent ++ reply_frame exchange.reply

  -- the next message was answered, but its reply was lost, and is no error; what is to be sent stays
  pub record IsLost (node node' : S) (old new : Transcript) : Type 0 where
    pub exchange : Exchange
    pub front : old.rest ≡ frame (message_of exchange) ++ new.rest
    pub within : FitsLimit max_request_len (message_of exchange)
    pub answers : Answers Step node (message_of exchange) exchange.reply node'
    pub no_error : IsNoError exchange.reply
    pub input : new.input ≡ old.input
    pub exchanges : new.exchanges ≡ old.exchanges ++ exchange ∷ []
    pub unsent : new.unsent ≡ old.unsent

  abbrev pub AnswersNext : S → S → Transcript → Transcript → Next → Type 0
  AnswersNext node node' old new Answered = IsNextAnswered node node' old new
  AnswersNext node node' old new Idle = IsPartial max_request_len old.rest × (new ≡ old) × (node' ≡ node)
  AnswersNext node node' old new BadFrame = IsBadNext old new × (node' ≡ node)
  AnswersNext node node' old new Lost = IsLost node node' old new

-- A message that was taken and answered.
use Rattle.std.proofs.Common.{◌≡◌, ℕ, List, [], ◌∷◌, ◌++◌, Option, Some, Result, Ok, Err, sym, ap, subst, ◌∙◌, inr}
use Rattle.pb_frame.specs.declared.fault.FrameFault.{FrameFault}
use Rattle.pb_frame.specs.declared.frame.Frame.{Frame}
use Rattle.pb_frame.specs.Limits.{max_request_len}
use Rattle.pb_frame.specs.Message.{FitsLimit}
use Rattle.pb_frame.specs.Stream.{Stream}
use Rattle.pb_frame.specs.Taking.{message_of as frame_message, IsTaken, Takes}
use Rattle.riak_msgs.specs.declared.fault.MsgFault.{MsgFault}
use Rattle.riak_msgs.specs.declared.fault.MsgFault.TheVariants as faults
use Rattle.riak_msgs.specs.declared.request.Request.{Request}
use Rattle.riak_msgs.specs.declared.reply.Reply.{Reply}
use Rattle.riak_msgs.specs.declared.reply.Reply.TheVariants.{Error}
use Rattle.riak_msgs.specs.Reading.{Reads}
use Rattle.node_session.specs.declared.exchange.Exchange.{Exchange}
use Rattle.node_session.specs.Answers.{Answers, message_fault_text}
use Rattle.node_session.specs.Views.{IsRead, message_of}
use Rattle.node_session.proofs.Frames.{read_more}

-- what `take` did where it gave a frame, and where it refused
pub taken_at : (old new : Stream) (r : Result (Option Frame) FrameFault) (o : Option Frame) (f : Frame) → r ≡ Ok o → o ≡ Some f → Takes old r new → IsTaken old (frame_message f) new
taken_at old new r o f e d t = subst (λ (x : Option Frame). Takes old (Ok x) new) d (subst (λ (x : Result (Option Frame) FrameFault). Takes old x new) e t)

module _ {S : Type 0} (Step : S → Request → Reply → S → Type 0) where
  -- a message that was not read is answered by its error
  pub refused : (old new : S) (code : ℕ) (body : List ℕ) (fault : MsgFault) (reply : Reply) → reply ≡ Error (message_fault_text fault) → new ≡ old → Reads code body (Err fault) → Answers Step old (record { code = code; body = body }) reply new
  refused old new code body faults.UnknownCode reply is same reads = record { said = Err faults.UnknownCode; says = reads; answers = (is, same) }
  refused old new code body faults.BadMessage reply is same reads = record { said = Err faults.BadMessage; says = reads; answers = (is, same) }
  refused old new code body faults.MissingField reply is same reads = record { said = Err faults.MissingField; says = reads; answers = (is, same) }
  refused old new code body faults.EmptyName reply is same reads = record { said = Err faults.EmptyName; says = reads; answers = (is, same) }
  refused old new code body faults.NoKey reply is same reads = record { said = Err faults.NoKey; says = reads; answers = (is, same) }
  refused old new code body faults.NoMemory reply is same reads = record { said = Ok reads.0; says = reads.1; answers = inr (is, same) }

-- behind a message that was taken, answered and listed
module _ (framer framer' : Stream) (es es' : List Exchange) (exchange : Exchange) (input : List ℕ) (limit : framer.limit ≡ max_request_len) (taken : IsTaken framer (message_of exchange) framer') (listed : es' ≡ es ++ exchange ∷ []) where
  within : FitsLimit max_request_len (message_of exchange)
  within = subst (λ (n : ℕ). FitsLimit n (message_of exchange)) limit taken.within

  pub still_limit : framer'.limit ≡ max_request_len
  still_limit = ap (λ (s : Stream). s.limit) taken.stream ∙ limit

  pub still_read : IsRead input es framer.rest → IsRead input es' framer'.rest
  still_read p = subst (λ (l : List Exchange). IsRead input l framer'.rest) (sym listed) (read_more input framer.rest framer'.rest es exchange p within taken.front)

-- What holds of the last node of a session, and what each step hands back, holds after each of its steps.
use Rattle.std.proofs.Common.{◌≡◌, ℕ, List, [], ◌∷◌, Option, Result, Ok, Err, subst, inl, inr}
use Rattle.std.specs.Prelude.{◌⊎◌}
use Rattle.pb_frame.specs.Message.{CodedMessage}
use Rattle.riak_msgs.specs.declared.fault.MsgFault.{MsgFault}
use Rattle.riak_msgs.specs.declared.Request.{Request}
use Rattle.riak_msgs.specs.declared.Reply.{Reply}
use Rattle.node_session.specs.declared.fault.SessionFault.{SessionFault}
use Rattle.node_session.specs.declared.fault.SessionFault.TheVariants.{ReadFailed, WriteFailed, BadFrame, TooManyReads, NoMemory}
use Rattle.node_session.specs.Answers.{AnswersRead, AnswersInTurn}
use Rattle.node_session.specs.Answered.{AnsweredInput, AllAnswered, NextReply, IsError, IsBadLengthTold, WriteFailedAt, IsMemoryRefused, AtLastRead}
use Rattle.node_session.specs.Session.{IsInputEnd, Stops}

module _ {S : Type 0} (Step : S → Request → Reply → S → Type 0) (Holds : S → Type 0)
    (back : (old : S) (request : Request) (reply : Reply) (new : S) → Step old request reply new → Holds new → Holds old) where
  -- a step after which it holds
  abbrev pub Held : S → Request → Reply → S → Type 0
  Held old request reply new = Step old request reply new × Holds new

  same_held : (old new : S) → new ≡ old → Holds new → Holds old
  same_held old new is held = subst Holds is held

  read_held : (old : S) (said : Result Request MsgFault) (reply : Reply) (new : S) → AnswersRead Step old said reply new → Holds new → Holds old
  read_held old (Ok request) reply new (inl step) held = back old request reply new step held
  read_held old (Ok request) reply new (inr stays) held = same_held old new stays.1 held
  read_held old (Err fault) reply new stays held = same_held old new stays.1 held

  read_in : (old : S) (said : Result Request MsgFault) (reply : Reply) (new : S) → AnswersRead Step old said reply new → Holds new → AnswersRead Held old said reply new
  read_in old (Ok request) reply new (inl step) held = inl (step, held)
  read_in old (Ok request) reply new (inr stays) held = inr stays
  read_in old (Err fault) reply new stays held = stays

  run_held : (old : S) (messages : List CodedMessage) (replies : List Reply) (new : S) → AnswersInTurn Step old messages replies new → Holds new → Holds old
  run_held old [] [] new run held = same_held old new run held
  run_held old [] (reply ∷ replies) new run held = absurd run
  run_held old (message ∷ messages) [] new run held = absurd run
  run_held old (message ∷ messages) (reply ∷ replies) new run held = read_held old run.1.said reply run.0 run.1.answers (run_held run.0 messages replies new run.2 held)

  pub run_in : (old : S) (messages : List CodedMessage) (replies : List Reply) (new : S) → AnswersInTurn Step old messages replies new → Holds new → AnswersInTurn Held old messages replies new
  run_in old [] [] new run held = run
  run_in old [] (reply ∷ replies) new run held = absurd run
  run_in old (message ∷ messages) [] new run held = absurd run
  run_in old (message ∷ messages) (reply ∷ replies) new run held =
      let later = run_held run.0 messages replies new run.2 held in (
        run.0,
        record { said = run.1.said; says = run.1.says; answers = read_in old run.1.said reply run.0 run.1.answers later },
        run_in run.0 messages replies new run.2 held,
      )

  -- a session's last message, which may be answered and not written
  next_in : (mid : S) (rest next : List ℕ) (new : S) → NextReply Step mid rest next new → Holds new → NextReply Held mid rest next new
  next_in mid rest next new h held =
      record {
        message = h.message;
        reply = h.reply;
        more = h.more;
        front = h.front;
        within = h.within;
        answers = record { said = h.answers.said; says = h.answers.says; answers = read_in mid h.answers.said h.reply new h.answers.answers held };
        is = h.is;
      }

  next_held : (mid : S) (rest next : List ℕ) (new : S) → NextReply Step mid rest next new → Holds new → Holds mid
  next_held mid rest next new h held = read_held mid h.answers.said h.reply new h.answers.answers held

  due_in : (mid : S) (rest next : List ℕ) (new : S) → NextReply Step mid rest next new ⊎ IsError mid rest next new → Holds new → NextReply Held mid rest next new ⊎ IsError mid rest next new
  due_in mid rest next new (inl h) held = inl (next_in mid rest next new h held)
  due_in mid rest next new (inr h) held = inr h

  due_held : (mid : S) (rest next : List ℕ) (new : S) → NextReply Step mid rest next new ⊎ IsError mid rest next new → Holds new → Holds mid
  due_held mid rest next new (inl h) held = next_held mid rest next new h held
  due_held mid rest next new (inr h) held = same_held mid new h.node held

  write_in : (new mid : S) (rest last : List ℕ) → WriteFailedAt Step new mid rest last → Holds new → WriteFailedAt Held new mid rest last
  write_in new mid rest last (inl h) held = inl (h.0, record { next = h.1.next; due = due_in mid rest h.1.next new h.1.due held; len = h.1.len; short = h.1.short; begins = h.1.begins })
  write_in new mid rest last (inr h) held = inr h

  write_held : (new mid : S) (rest last : List ℕ) → WriteFailedAt Step new mid rest last → Holds new → Holds mid
  write_held new mid rest last (inl h) held = due_held mid rest h.1.next new h.1.due held
  write_held new mid rest last (inr h) held = same_held mid new h.node held

  memory_in : (new mid : S) (rest last : List ℕ) → IsMemoryRefused Step new mid rest last → Holds new → IsMemoryRefused Held new mid rest last
  unfolding next_in
  memory_in new mid rest last (inl h) held = inl (record { nothing = h.nothing; next = h.next; due = next_in mid rest h.next new h.due held; no_error = h.no_error })
  memory_in new mid rest last (inr h) held = inr h

  memory_held : (new mid : S) (rest last : List ℕ) → IsMemoryRefused Step new mid rest last → Holds new → Holds mid
  memory_held new mid rest last (inl h) held = next_held mid rest h.next new h.due held
  memory_held new mid rest last (inr h) held = same_held mid new h.node held

  -- the messages before it
  answered_in : (old : S) (input : List ℕ) (wrote wrote' : Option (List ℕ)) (count : ℕ) (Ends Ends' : S → List ℕ → List ℕ → Type 0) → (h : AnsweredInput Step old input wrote wrote' count Ends) → Holds h.mid → Ends' h.mid h.rest h.last
      → AnsweredInput Held old input wrote wrote' count Ends'
  answered_in old input wrote wrote' count Ends Ends' h held ends =
      record {
        messages = h.messages;
        replies = h.replies;
        mid = h.mid;
        rest = h.rest;
        last = h.last;
        stream = h.stream;
        each = h.each;
        run = run_in old h.messages h.replies h.mid h.run held;
        counted = h.counted;
        written = h.written;
        ends = ends;
      }

  pub end_in : (old new : S) (input : List ℕ) (wrote wrote' : Option (List ℕ)) (count len : ℕ) → AnsweredInput Step old input wrote wrote' count (IsInputEnd new len) → Holds new → AnsweredInput Held old input wrote wrote' count (IsInputEnd new len)
  end_in old new input wrote wrote' count len h held = answered_in old input wrote wrote' count (IsInputEnd new len) (IsInputEnd new len) h (same_held h.mid new h.ends.through.node held) h.ends

  pub stops_in : (old new : S) (input : List ℕ) (wrote wrote' : Option (List ℕ)) (fault : SessionFault) → Stops Step old new input wrote wrote' fault → Holds new → Stops Held old new input wrote wrote' fault
  stops_in old new input wrote wrote' (ReadFailed count) h held = answered_in old input wrote wrote' count (AllAnswered new) (AllAnswered new) h (same_held h.mid new h.ends.node held) h.ends
  stops_in old new input wrote wrote' (WriteFailed count) h held =
      answered_in old input wrote wrote' count (WriteFailedAt Step new) (WriteFailedAt Held new) h (write_held new h.mid h.rest h.last h.ends held) (write_in new h.mid h.rest h.last h.ends held)
  stops_in old new input wrote wrote' (BadFrame count) h held =
      answered_in old input wrote wrote' count (AtLastRead (IsBadLengthTold new)) (AtLastRead (IsBadLengthTold new)) h (same_held h.mid new h.ends.1.node held) h.ends
  stops_in old new input wrote wrote' (TooManyReads count) h held = answered_in old input wrote wrote' count (AllAnswered new) (AllAnswered new) h (same_held h.mid new h.ends.node held) h.ends
  stops_in old new input wrote wrote' (NoMemory count) h held =
      answered_in old input wrote wrote' count (AtLastRead (IsMemoryRefused Step new)) (AtLastRead (IsMemoryRefused Held new)) h (memory_held new h.mid h.rest h.last h.ends.1 held)
      (h.ends.0, memory_in new h.mid h.rest h.last h.ends.1 held)

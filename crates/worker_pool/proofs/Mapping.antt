-- A session by one step is a session by another one, where each step of the one becomes a step of the other.
use Rattle.std.proofs.Common.{◌≡◌, ℕ, List, [], ◌∷◌, Option, refl, sym, subst}
use Rattle.std.specs.Prelude.{Result, Ok, Err}
use Rattle.node_session.specs.Streams.{SourceView, TargetView, input_of}
use Rattle.node_session.specs.SessionLaws.{CodedMessage}
use Rattle.riak_msgs.specs.declared.Request.{Request}
use Rattle.riak_msgs.specs.declared.Reply.{Reply}
use Rattle.node_session.specs.Answers.{Answers, AnswersInTurn}
use Rattle.node_session.specs.Answered.{AnsweredInput}
use Rattle.node_session.specs.Stages.{Came, IsAnswering, IsFlushed, IsIdle, IsSending, IsTelling, IsOverBy}
use Rattle.node_session.specs.Nexts.{IsNextAnswered}
use Rattle.node_session.specs.Sending.{Stands}
use Rattle.node_session.specs.Session.{IsInputEnd, Stops}
use Rattle.node_session.specs.Views.{Transcript, messages_of, replies_of}
use Rattle.node_session.specs.declared.ended.Ended.{Ended}
use Rattle.node_session.specs.declared.fault.SessionFault.{SessionFault}
use Rattle.node_session.specs.declared.stage.Stage.{Stage}
use Rattle.node_session.specs.declared.stage.Stage.TheVariants.{Answering, Sending, Telling, Flushing, Reading, Closing, Over}
use Rattle.node_session.specs.declared.session.Session.{Session}
use Rattle.node_session.proofs.Simulating.{run_like, end_like, stops_like}
use Rattle.node_session.proofs.Streaming.{given_as}

module _ {S T : Type 0} (Step : S → Request → Reply → S → Type 0) (Step' : T → Request → Reply → T → Type 0) (f : S → T)
    (step : (old : S) (request : Request) (reply : Reply) (new : S) → Step old request reply new → Step' (f old) request reply (f new)) where
  abbrev Like : S → T → Type 0
  Like s t = t ≡ f s

  like_step : (s s' : S) (t : T) (request : Request) (reply : Reply) → Like s t → Step s request reply s' → (t' : T) × Like s' t' × Step' t request reply t'
  like_step s s' t request reply like made = (f s', refl, subst (λ (x : T). Step' x request reply (f s')) (sym like) (step s request reply s' made))

  run_by : (s s' : S) (ms : List CodedMessage) (rs : List Reply) → AnswersInTurn Step s ms rs s' → AnswersInTurn Step' (f s) ms rs (f s')
  run_by s s' ms rs run =
      let made = run_like Step Step' Like like_step s s' (f s) ms rs refl run in
      subst (λ (t : T). AnswersInTurn Step' (f s) ms rs t) made.1 made.2

  answers_by : (s s' : S) (m : CodedMessage) (reply : Reply) → Answers Step s m reply s' → Answers Step' (f s) m reply (f s')
  answers_by s s' m reply a =
      let made = run_by s s' (m ∷ []) (reply ∷ []) (s', a, refl) in
      subst (λ (t : T). Answers Step' (f s) m reply t) (sym made.2) made.1

  stands_by : (first now : S) (held held' : Option (List ℕ)) (s : Transcript) → Stands Step first now held held' s → Stands Step' (f first) (f now) held held' s
  stands_by first now held held' s h = record { run = run_by first now (messages_of s.exchanges) (replies_of s.exchanges) h.run; written = h.written }

  next_by : (node node' : S) (old new : Transcript) → IsNextAnswered Step node node' old new → IsNextAnswered Step' (f node) (f node') old new
  next_by node node' old new h = record {
    exchange = h.exchange;
    front = h.front;
    within = h.within;
    answers = answers_by node node' _ h.exchange.reply h.answers;
    input = h.input;
    exchanges = h.exchanges;
    fault = h.fault;
    framed = h.framed;
    unsent = h.unsent;
  }

  module _ (first now : S) (held held' : Option (List ℕ)) where
    pub end_by : (input : List ℕ) (count len : ℕ) → AnsweredInput Step first input held held' count (IsInputEnd now len) → AnsweredInput Step' (f first) input held held' count (IsInputEnd (f now) len)
    end_by input count len h =
        let made = end_like Step Step' Like like_step first now (f first) input held held' count len refl h in
        subst (λ (t : T). AnsweredInput Step' (f first) input held held' count (IsInputEnd t len)) made.1 made.2

    pub stops_by : (input : List ℕ) (fault : SessionFault) → Stops Step first now input held held' fault → Stops Step' (f first) (f now) input held held' fault
    stops_by input fault h =
        let made = stops_like Step Step' Like like_step first now (f first) input held held' fault refl h in
        subst (λ (t : T). Stops Step' (f first) t input held held' fault) made.1 made.2

  module _ (first now : S) (source source' : SourceView) (target target' : TargetView) where
    answering_by : (s : Transcript) (replies made most : ℕ) → IsAnswering Step first now source source' target target' s replies made most → IsAnswering Step' (f first) (f now) source source' target target' s replies made most
    answering_by s replies made most h = record { read = h.read; stands = stands_by first now target.contents target'.contents s h.stands; going = h.going; same = h.same }

    idle_by : (s : Transcript) (replies made most : ℕ) → IsIdle Step first now source source' target target' s replies made most → IsIdle Step' (f first) (f now) source source' target target' s replies made most
    idle_by s replies made most h = record { answering = answering_by s replies made most h.answering; partial = h.partial }

    flushed_by : (s : Transcript) (replies made most : ℕ) → IsFlushed Step first now source source' target target' s replies made most → IsFlushed Step' (f first) (f now) source source' target target' s replies made most
    flushed_by s replies made most h = record { idle = idle_by s replies made most h.idle; flushed = h.flushed }

    sending_by : (s : Transcript) (replies made most : ℕ) → IsSending Step first now source source' target target' s replies made most → IsSending Step' (f first) (f now) source source' target target' s replies made most
    sending_by s replies made most h = record {
      mid = f h.mid;
      before = h.before;
      whole = h.whole;
      written = h.written;
      read = h.read;
      was_read = h.was_read;
      stands = stands_by first h.mid target.contents h.written h.before h.stands;
      going = h.going;
      one = next_by h.mid now h.before h.whole h.one;
      part = h.part;
      same = h.same;
    }

    telling_by : (s : Transcript) (replies made most : ℕ) → IsTelling Step first now source source' target target' s replies made most → IsTelling Step' (f first) (f now) source source' target target' s replies made most
    telling_by s replies made most h = record {
      before = h.before;
      whole = h.whole;
      written = h.written;
      read = h.read;
      was_read = h.was_read;
      stands = stands_by first now target.contents h.written h.before h.stands;
      going = h.going;
      bad = h.bad;
      part = h.part;
      same = h.same;
    }

    pub over_by : (most : ℕ) (result : Result Ended SessionFault) → IsOverBy Step first now source source' target target' most result → IsOverBy Step' (f first) (f now) source source' target target' most result
    over_by most (Ok e) h =
        (given_as source source' most _ _ (λ noted served. (end_by first now target.contents target'.contents (input_of noted) e.replies e.rest served.0, served.1)) h.0, h.1, h.2, h.3)
    over_by most (Err fault) h =
        (given_as source source' most _ _ (λ noted served. (stops_by first now target.contents target'.contents (input_of noted) fault served.0, served.1)) h.0, h.1)

    pub came_by : (stage : Stage) (session : Session) → Came Step first now source source' target target' stage session → Came Step' (f first) (f now) source source' target target' stage session
    came_by Answering session h = answering_by session.buffers session.replies session.made session.most h
    came_by Sending session h = sending_by session.buffers session.replies session.made session.most h
    came_by Telling session h = telling_by session.buffers session.replies session.made session.most h
    came_by Flushing session h = idle_by session.buffers session.replies session.made session.most h
    came_by Reading session h = flushed_by session.buffers session.replies session.made session.most h
    came_by (Closing fault) session h = over_by session.most (Err fault) h
    came_by (Over result) session h = over_by session.most result h

-- Each step leaves less to be done.
use Rattle.std.proofs.Common.{◌≡◌, ℕ, ◌+◌, ◌*◌, ◌<◌, ◌≤◌, List, [], ◌++◌, length, ap, ◌∙◌, length-append, arith}
use Rattle.pb_frame.specs.Message.{frame}
use Rattle.pb_frame.proofs.Headers.{length-frame}
use Rattle.riak_msgs.specs.declared.request.Request.{Request}
use Rattle.riak_msgs.specs.declared.reply.Reply.{Reply}
use Rattle.riak_msgs.specs.declared.reply.Reply.TheVariants.{Error}
use Rattle.riak_msgs.specs.Replies.{reply_code, reply_body}
use Rattle.node_session.specs.Answers.{reply_frame, frame_fault_text, IsFramed}
use Rattle.node_session.specs.Nexts.{IsNextAnswered, IsBadNext}
use Rattle.node_session.specs.Stages.{CanWait, rank}
use Rattle.node_session.specs.declared.stage.Stage.{Stage}
use Rattle.node_session.specs.declared.stage.Stage.TheVariants.{Answering, Sending, Telling, Flushing, Reading, Closing, Over}
use Rattle.node_session.specs.Views.{Transcript, message_of}

-- a frame takes no more bytes than its four bytes of length can say, and one
frame_few : (r : Reply) → IsFramed r → length (reply_frame r) ≤ 4294967299
frame_few r framed =
    let fits : length (reply_body r) ≤ 4294967294 = framed in
    omega (arith, length-frame (record { code = reply_code r; body = reply_body r }), fits)

-- and no fewer than one
pub answered_some : {S : Type 0} (Step : S → Request → Reply → S → Type 0) (now now' : S) (s t : Transcript) → s.unsent ≡ [] → IsNextAnswered Step now now' s t → 0 < length t.unsent
answered_some Step now now' s t none one =
    let r = one.exchange.reply in
    let sent : t.unsent ≡ reply_frame r = one.unsent ∙ ap (λ (l : List ℕ). l ++ reply_frame r) none in
    let len : length t.unsent ≡ length (reply_frame r) = ap length sent in
    omega (arith, len, length-frame (record { code = reply_code r; body = reply_body r }))

sum_less : (left rest rest' unsent before : ℕ) → 5 + rest' ≤ rest → unsent ≤ 4294967299 → before ≡ 0
    → (left * 4097 + rest') * 1099511627776 + unsent * 8 + 274877906944 < (left * 4097 + rest) * 1099511627776 + before * 8 + 137438953472
sum_less left rest rest' unsent before is few none = omega (arith, is, few, none)

bad_sum_less : (left rest rest' unsent before : ℕ) → rest' ≡ rest → unsent ≤ 4294967299 → before ≡ 0
    → (left * 4097 + rest') * 1099511627776 + unsent * 8 + 4 < (left * 4097 + rest) * 1099511627776 + before * 8 + 137438953472
bad_sum_less left rest rest' unsent before is few none = omega (arith, is, few, none)

pub answered_less : {S : Type 0} (Step : S → Request → Reply → S → Type 0) (now now' : S) (s t : Transcript) (left : ℕ) → s.unsent ≡ [] → IsNextAnswered Step now now' s t
    → (left * 4097 + length t.rest) * 1099511627776 + length t.unsent * 8 + 274877906944 < (left * 4097 + length s.rest) * 1099511627776 + length s.unsent * 8 + 137438953472
answered_less Step now now' s t left none one =
    let r = one.exchange.reply in
    let sent : t.unsent ≡ reply_frame r = one.unsent ∙ ap (λ (l : List ℕ). l ++ reply_frame r) none in
    let len : length t.unsent ≡ length (reply_frame r) = ap length sent in
    let few = frame_few r one.framed in
    let front : length s.rest ≡ length (frame (message_of one.exchange)) + length t.rest = ap length one.front ∙ length-append (frame (message_of one.exchange)) t.rest in
    let five = length-frame (message_of one.exchange) in
    sum_less left (length s.rest) (length t.rest) (length t.unsent) (length s.unsent) (omega (arith, front, five)) (omega (arith, len, few)) (ap length none)

pub bad_less : (s t : Transcript) (left : ℕ) → s.unsent ≡ [] → IsBadNext s t
    → (left * 4097 + length t.rest) * 1099511627776 + length t.unsent * 8 + 4 < (left * 4097 + length s.rest) * 1099511627776 + length s.unsent * 8 + 137438953472
bad_less s t left none bad =
    let error = reply_frame (Error (frame_fault_text bad.bad)) in
    let sent : t.unsent ≡ error = bad.unsent ∙ ap (λ (l : List ℕ). l ++ error) none in
    let len : length t.unsent ≡ length error = ap length sent in
    let few = frame_few (Error (frame_fault_text bad.bad)) bad.framed in
    bad_sum_less left (length s.rest) (length t.rest) (length t.unsent) (length s.unsent) (ap length bad.rest) (omega (arith, len, few)) (ap length none)

-- a session that may have to wait still has something to do
pub ranked : (stage : Stage) (session : Transcript) → CanWait stage session → 0 < rank stage
ranked Answering session waits = absurd waits
ranked Sending session waits = omega arith
ranked Telling session waits = omega arith
ranked Flushing session waits = omega arith
ranked Reading session waits = omega arith
ranked (Closing fault) session waits = omega arith
ranked (Over result) session waits = absurd waits

-- How a session comes from one stage to the next.
use Rattle.std.proofs.Common.{◌≡◌, ℕ, ◌+◌, ◌*◌, ◌<◌, ◌≤◌, List, [], ◌∷◌, ◌++◌, length, take, drop, Option, Ok, Err, refl, sym, ap, subst, ◌∙◌, append-nil, length-append, arith}
use Rattle.std.specs.Prelude.{Bool, false, if◌then◌else◌, min}
use Rattle.std.specs.Io.KnownBytes.{Appends, IsAtEnd}
use Rattle.std.specs.declared.io.ErrorKind.{ErrorKind}
use Rattle.std.specs.declared.io.ErrorKind.TheVariants.{WouldBlock}
use Rattle.std.proofs.KnownBytes.{Appends-nil, Keeps-refl}
use Rattle.pb_frame.specs.Limits.{max_request_len}
use Rattle.pb_frame.specs.Message.{IsPartial}
use Rattle.riak_msgs.specs.declared.request.Request.{Request}
use Rattle.riak_msgs.specs.declared.reply.Reply.{Reply}
use Rattle.node_session.specs.declared.ended.Ended.{Ended}
use Rattle.node_session.specs.declared.fault.SessionFault.{SessionFault}
use Rattle.node_session.specs.declared.fault.SessionFault.TheVariants.{ReadFailed, WriteFailed, BadFrame, TooManyReads, NoMemory}
use Rattle.node_session.specs.declared.source.ReadNote.{ReadNote}
use Rattle.node_session.specs.declared.source.ReadNote.TheVariants.{Bytes, Failed}
use Rattle.node_session.specs.Answered.{AnsweredInput}
use Rattle.node_session.specs.Session.{EndsInput, HasCause, IsInputEnd, Stops, StopsInput}
use Rattle.node_session.specs.Streams.{SourceView, TargetView, Gave, Holds, Took, blocked, bytes_of, input_of, is_interrupted, weight_of}
use Rattle.node_session.specs.Sending.{Stands}
use Rattle.node_session.specs.Nexts.{IsNextAnswered, IsBadNext, IsLost}
use Rattle.node_session.specs.Unsent.{IsFront}
use Rattle.node_session.specs.Views.{Transcript, CanFollow, IsRead, nothing_read}
use Rattle.node_session.proofs.SentParts.{sent_none, sent_more, sent_kept, all_sent, sent_short}
use Rattle.node_session.proofs.Standing.{read_count, stands_none, stands_more, stands_kept, stands_same, cut_reply, cut_error, told_error, lost_reply, all_answered, none_flushed, at_end, unkept, answered_kept}
use Rattle.node_session.proofs.Streaming.{given, read_more, read_blocked, read_bound, read_nothing}
use Rattle.node_session.specs.Stages.{HasRead, IsAnswering, IsFlushed, IsIdle, IsSending, IsTelling, IsOverBy, Came, CanWait, Waits}
use Rattle.node_session.specs.declared.stage.Stage.{Stage}
use Rattle.node_session.specs.declared.stage.Stage.TheVariants.{Answering, Sending, Telling, Flushing, Reading, Closing, Over}
use Rattle.node_session.specs.declared.session.Session.{Session}

-- as many replies as messages, of which there are fewer than a number counts
counted_on : (replies made most n input k : ℕ) → n ≡ replies → n + k ≤ input → input ≤ 4096 * made → made ≤ most → most ≤ 4294967296 → min (replies + 1) 18446744073709551615 ≡ n + 1
counted_on replies made most n input k is few bound within most_few = omega (arith, is, few, bound, within, most_few)

module _ {S : Type 0} (Step : S → Request → Reply → S → Type 0) (first now : S) (u u' : SourceView) (h h' : TargetView) where
  -- it is over by this fault, where that much was read
  stopped : (input : List ℕ) (made most : ℕ) (fault : SessionFault) (p : HasRead u u' input made most) → Stops Step first now input h.contents h'.contents fault → HasCause most fault p.noted → h'.number ≡ h.number → IsOverBy Step first now u u' h h' most (Err fault)
  stopped input made most fault p stops cause same =
      (given u u' input made most (StopsInput Step first now h.contents h'.contents most fault) p (subst (λ (l : List ℕ). Stops Step first now l h.contents h'.contents fault) p.is stops, cause), same)

  module _ (s : Transcript) (replies made most : ℕ) where
    module _ (p : IsAnswering Step first now u u' h h' s replies made most) where
      module _ (is_read : IsRead s.input s.exchanges s.rest) (now' : S) (t : Transcript) where
        pub to_sending : IsNextAnswered Step now now' s t → IsSending Step first now' u u' h h' t replies made most
        to_sending one = record {
          mid = now;
          before = s;
          whole = t;
          written = h'.contents;
          read = p.read;
          was_read = is_read;
          stands = p.stands;
          going = p.going;
          one = one;
          part = sent_none h'.contents t;
          same = p.same;
        }

        pub to_telling : IsBadNext s t → now' ≡ now → IsTelling Step first now' u u' h h' t replies made most
        to_telling bad stays = record {
          before = s;
          whole = t;
          written = h'.contents;
          read = p.read;
          was_read = is_read;
          stands = subst (λ (x : S). Stands Step first x h.contents h'.contents s) (sym stays) p.stands;
          going = p.going;
          bad = bad;
          part = sent_none h'.contents t;
          same = p.same;
        }

      pub to_idle : (now' : S) (t : Transcript) → IsPartial max_request_len s.rest → t ≡ s → now' ≡ now → IsIdle Step first now' u u' h h' t replies made most
      to_idle now' t partial same stays =
          subst (λ (x : Transcript). IsIdle Step first now' u u' h h' x replies made most) (sym same)
          (subst (λ (x : S). IsIdle Step first x u u' h h' s replies made most) (sym stays) (record { answering = p; partial = partial }))

    -- the writer takes more, or keeps what it has
    module _ (h'' : TargetView) where
      module _ (p : IsSending Step first now u u' h h' s replies made most) where
        pub sending_more : (t : Transcript) (front : List ℕ) (n : ℕ) → IsFront front s.unsent → n ≤ length front → Took h' h'' (take n front) → t ≡ record s { unsent = drop n s.unsent } → IsSending Step first now u u' h h'' t replies made most
        sending_more t front n is le took e = record {
          mid = p.mid;
          before = p.before;
          whole = p.whole;
          written = p.written;
          read = p.read;
          was_read = p.was_read;
          stands = p.stands;
          going = p.going;
          one = p.one;
          part = sent_more p.written h'.contents h''.contents p.whole s t front n p.part is le took.contents e;
          same = took.number ∙ p.same;
        }

      module _ (p : IsTelling Step first now u u' h h' s replies made most) where
        pub telling_more : (t : Transcript) (front : List ℕ) (n : ℕ) → IsFront front s.unsent → n ≤ length front → Took h' h'' (take n front) → t ≡ record s { unsent = drop n s.unsent } → IsTelling Step first now u u' h h'' t replies made most
        telling_more t front n is le took e = record {
          before = p.before;
          whole = p.whole;
          written = p.written;
          read = p.read;
          was_read = p.was_read;
          stands = p.stands;
          going = p.going;
          bad = p.bad;
          part = sent_more p.written h'.contents h''.contents p.whole s t front n p.part is le took.contents e;
          same = took.number ∙ p.same;
        }

      pub answering_kept : Holds h' h'' → IsAnswering Step first now u u' h h' s replies made most → IsAnswering Step first now u u' h h'' s replies made most
      answering_kept holds p = record { read = p.read; stands = stands_kept Step first now h.contents h'.contents h''.contents s holds.contents p.stands; going = p.going; same = holds.number ∙ p.same }

      pub idle_kept : Holds h' h'' → IsIdle Step first now u u' h h' s replies made most → IsIdle Step first now u u' h h'' s replies made most
      idle_kept holds p = record { answering = answering_kept holds p.answering; partial = p.partial }

      pub idle_flushed : Holds h' h'' → h''.waiting ≡ [] → IsIdle Step first now u u' h h' s replies made most → IsFlushed Step first now u u' h h'' s replies made most
      idle_flushed holds flushed p = record { idle = idle_kept holds p; flushed = flushed }

    -- the whole reply was written
    pub sent_whole : IsSending Step first now u u' h h' s replies made most → s.unsent ≡ [] → (count : ℕ) → count ≡ min (replies + 1) 18446744073709551615 → IsAnswering Step first now u u' h h' s count made most
    sent_whole p empty count is =
        let all = all_sent p.written h'.contents p.whole s p.part empty in
        let b = p.before in
        let x = p.one.exchange in
        let input : s.input ≡ b.input = ap (λ (v : Transcript). v.input) all.1 ∙ p.one.input in
        let many : length s.exchanges ≡ length b.exchanges + 1 = ap (λ (v : Transcript). length v.exchanges) all.1 ∙ ap length p.one.exchanges ∙ length-append b.exchanges (x ∷ []) in
        let few = read_count b.input b.rest b.exchanges p.was_read in
        let on = counted_on replies made most (length b.exchanges) (length b.input) (length b.rest) p.going.counted few (read_bound u u' b.input made most p.read) p.read.within p.read.few in
        record {
          read = subst (λ (l : List ℕ). HasRead u u' l made most) (sym input) p.read;
          stands = stands_more Step first p.mid now h.contents p.written h'.contents b p.whole s p.going.sent p.one all.0 all.1 p.stands;
          going = record {
            counted = many ∙ sym (is ∙ on);
            fault = ap (λ (v : Transcript). v.fault) all.1 ∙ p.one.fault;
            sent = empty;
          };
          same = p.same;
        }

    -- the error was written whole
    pub told_whole : IsTelling Step first now u u' h h' s replies made most → s.unsent ≡ [] → IsOverBy Step first now u u' h h' most (Err (BadFrame replies))
    told_whole p empty =
        let all = all_sent p.written h'.contents p.whole s p.part empty in
        stopped p.before.input made most (BadFrame replies) p.read (told_error Step first now h.contents p.written h'.contents p.before replies p.stands p.was_read p.going.counted now p.whole p.going.sent p.bad refl all.0) tt p.same

    -- a session that is idle is over by a fault of the writer's, or by none left of its reads
    module _ (is_read : IsRead s.input s.exchanges s.rest) where
      pub too_many : IsIdle Step first now u u' h h' s replies made most → most ≤ made → IsOverBy Step first now u u' h h' most (Err (TooManyReads replies))
      too_many p all =
          let read = p.answering.read in
          stopped s.input made most (TooManyReads replies) read (all_answered Step first now h.contents h'.contents h'.contents s replies p.answering.stands is_read p.answering.going.counted (Keeps-refl h'.contents) p.partial)
          (omega (arith, all, read.within, read.counted)) p.answering.same

module _ {S : Type 0} (Step : S → Request → Reply → S → Type 0) (first now : S) (u u' : SourceView) (h h' h'' : TargetView) (s : Transcript) (replies made most : ℕ) where
  -- a reply was lost
  pub to_lost : IsAnswering Step first now u u' h h' s replies made most → IsRead s.input s.exchanges s.rest → (now' : S) (t : Transcript) → IsLost Step now now' s t → IsOverBy Step first now' u u' h h' most (Err (NoMemory replies))
  to_lost p is_read now' t lost =
      stopped Step first now' u u' h h' s.input made most (NoMemory replies) p.read
      (lost_reply Step first now h.contents h'.contents h'.contents s replies p.stands is_read p.going.counted now' t p.going.sent lost (Appends-nil h'.contents)) tt p.same

  -- the writer failed
  pub sending_failed : IsSending Step first now u u' h h' s replies made most → 0 < length s.unsent → Holds h' h'' → IsOverBy Step first now u u' h h'' most (Err (WriteFailed replies))
  sending_failed p some holds =
      stopped Step first now u u' h h'' p.before.input made most (WriteFailed replies) p.read
      (cut_reply Step first p.mid h.contents p.written h''.contents p.before replies p.stands p.was_read p.going.counted now p.whole p.going.sent p.one (sent_short p.written h'.contents h''.contents p.whole s p.part some holds.contents))
      tt (holds.number ∙ p.same)

  pub telling_failed : IsTelling Step first now u u' h h' s replies made most → 0 < length s.unsent → Holds h' h'' → IsOverBy Step first now u u' h h'' most (Err (WriteFailed replies))
  telling_failed p some holds =
      stopped Step first now u u' h h'' p.before.input made most (WriteFailed replies) p.read
      (cut_error Step first now h.contents p.written h''.contents p.before replies p.stands p.was_read p.going.counted now p.whole p.going.sent p.bad refl (sent_short p.written h'.contents h''.contents p.whole s p.part some holds.contents))
      tt (holds.number ∙ p.same)

  pub idle_failed : IsRead s.input s.exchanges s.rest → Holds h' h'' → IsIdle Step first now u u' h h' s replies made most → IsOverBy Step first now u u' h h'' most (Err (WriteFailed replies))
  idle_failed is_read holds p =
      stopped Step first now u u' h h'' s.input made most (WriteFailed replies) p.answering.read
      (none_flushed Step first now h.contents h'.contents h''.contents s replies p.answering.stands is_read p.answering.going.counted holds.contents p.partial) tt (holds.number ∙ p.answering.same)

-- what a read brings
module _ {S : Type 0} (Step : S → Request → Reply → S → Type 0) (first now : S) (u u' u'' : SourceView) (h h' : TargetView) (s : Transcript) (replies made most : ℕ) (is_read : IsRead s.input s.exchanges s.rest) (p : IsFlushed Step first now u u' h h' s replies made most) where
  -- a failure that was no interruption counts for nothing
  abbrev failed_read : (kind : ErrorKind) → is_interrupted kind ≡ false → Gave u' u'' (Failed kind ∷ []) → HasRead u u'' s.input made most
  failed_read kind for_good gave =
      let none : weight_of (Failed kind) ≡ 0 = ap (λ (b : Bool). if b then 1 else 0) for_good in
      read_more u u' u'' s.input s.input made made most (Failed kind) gave (sym (append-nil s.input)) (omega (arith, none)) p.idle.answering.read.within p.idle.answering.read

  pub read_failed : (kind : ErrorKind) → is_interrupted kind ≡ false → Gave u' u'' (Failed kind ∷ []) → IsOverBy Step first now u u'' h h' most (Err (ReadFailed replies))
  read_failed kind for_good gave =
      stopped Step first now u u'' h h' s.input made most (ReadFailed replies) (failed_read kind for_good gave)
      (all_answered Step first now h.contents h'.contents h'.contents s replies p.idle.answering.stands is_read p.idle.answering.going.counted (Keeps-refl h'.contents) p.idle.partial)
      (record { kind = kind; for_good = for_good; last = (p.idle.answering.read.noted, refl) }) p.idle.answering.same

  pub interrupted : (kind : ErrorKind) → weight_of (Failed kind) ≡ 1 → made < most → Gave u' u'' (Failed kind ∷ []) → IsIdle Step first now u u'' h h' s replies (made + 1) most
  interrupted kind one more gave = record {
    answering = record {
      read = read_more u u' u'' s.input s.input made (made + 1) most (Failed kind) gave (sym (append-nil s.input)) (omega (arith, one)) (omega (arith, more)) p.idle.answering.read;
      stands = p.idle.answering.stands;
      going = p.idle.answering.going;
      same = p.idle.answering.same;
    };
    partial = p.idle.partial;
  }

  pub ended_input : Gave u' u'' (Bytes [] ∷ []) → IsAtEnd u''.unread → (rest : ℕ) → rest ≡ length s.rest → IsOverBy Step first now u u'' h h' most (Ok (record { replies = replies; rest = rest }))
  ended_input gave end rest is =
      let read = read_more u u' u'' s.input s.input made made most (Bytes []) gave (sym (append-nil s.input)) (omega arith) p.idle.answering.read.within p.idle.answering.read in
      let served = at_end Step first now h.contents h'.contents h'.contents s replies p.idle.answering.stands is_read p.idle.answering.going.counted (Keeps-refl h'.contents) rest is p.idle.partial in (
        given u u'' s.input made most (EndsInput Step first now h.contents h'.contents (record { replies = replies; rest = rest })) read (subst (λ (l : List ℕ). AnsweredInput Step first l h.contents h'.contents replies (IsInputEnd now rest)) read.is served, (p.idle.answering.read.noted, refl)),
        end,
        p.flushed,
        p.idle.answering.same,
      )

  module _ (count : ℕ) (more : made + count ≤ most) (piece : List ℕ) (gave : Gave u' u'' (Bytes piece ∷ [])) (counts : count ≡ weight_of (Bytes piece)) (some : 0 < length piece) where
    abbrev piece_read : HasRead u u'' (s.input ++ piece) (made + count) most
    piece_read = read_more u u' u'' s.input (s.input ++ piece) made (made + count) most (Bytes piece) gave refl (omega (arith, counts)) more p.idle.answering.read

    pub piece_lost : CanFollow s.rest (length piece) → IsOverBy Step first now u u'' h h' most (Err (NoMemory replies))
    piece_lost follows =
        stopped Step first now u u'' h h' (s.input ++ piece) (made + count) most (NoMemory replies) piece_read
        (unkept Step first now h.contents h'.contents h'.contents s replies p.idle.answering.stands is_read p.idle.answering.going.counted (Keeps-refl h'.contents) piece some follows p.idle.partial) tt p.idle.answering.same

    pub piece_fed : (t : Transcript) → t ≡ record s { input = s.input ++ piece; rest = s.rest ++ piece } → IsAnswering Step first now u u'' h h' t replies (made + count) most
    piece_fed t e = subst (λ (x : Transcript). IsAnswering Step first now u u'' h h' x replies (made + count) most) (sym e) (record {
      read = piece_read;
      stands = stands_same Step first now h.contents h'.contents s (record s { input = s.input ++ piece; rest = s.rest ++ piece }) refl p.idle.answering.stands;
      going = record { counted = p.idle.answering.going.counted; fault = p.idle.answering.going.fault; sent = p.idle.answering.going.sent };
      same = p.idle.answering.same;
    })

module _ {S : Type 0} (Step : S → Request → Reply → S → Type 0) (first now : S) (u u' : SourceView) (h h' h'' : TargetView) (holds : Holds h' h'') where
  stops_on : (fault : SessionFault) (input : List ℕ) → Stops Step first now input h.contents h'.contents fault → Stops Step first now input h.contents h''.contents fault
  stops_on (ReadFailed count) input p = answered_kept Step first input h.contents h'.contents h''.contents count _ holds.contents p
  stops_on (WriteFailed count) input p = answered_kept Step first input h.contents h'.contents h''.contents count _ holds.contents p
  stops_on (BadFrame count) input p = answered_kept Step first input h.contents h'.contents h''.contents count _ holds.contents p
  stops_on (TooManyReads count) input p = answered_kept Step first input h.contents h'.contents h''.contents count _ holds.contents p
  stops_on (NoMemory count) input p = answered_kept Step first input h.contents h'.contents h''.contents count _ holds.contents p

  -- it is over, and the writer keeps what it has
  pub over_kept : (most : ℕ) (fault : SessionFault) → IsOverBy Step first now u u' h h' most (Err fault) → IsOverBy Step first now u u' h h'' most (Err fault)
  over_kept most fault p = (
    record { noted = p.0.noted; gave = p.0.gave; within = p.0.within; serves = (stops_on fault (input_of p.0.noted) p.0.serves.0, p.0.serves.1) },
    holds.number ∙ p.1,
  )

-- a session that has read nothing
pub begins : {S : Type 0} (Step : S → Request → Reply → S → Type 0) (node : S) (u : SourceView) (h : TargetView) (most : ℕ) → most ≤ 4294967296 → IsAnswering Step node node u u h h nothing_read 0 0 most
begins Step node u h most few = record {
  read = read_nothing u most few;
  stands = stands_none Step node h.contents nothing_read refl;
  going = record { counted = refl; fault = refl; sent = refl };
  same = refl;
}

-- a session that waits for its writer stays as it is
module _ {S : Type 0} (Step : S → Request → Reply → S → Type 0) (first : S) (u u' : SourceView) (h h' h'' : TargetView) (holds : Holds h' h'') where
  sending_left : (now : S) (s : Transcript) (replies made most : ℕ) → IsSending Step first now u u' h h' s replies made most → IsSending Step first now u u' h h'' s replies made most
  sending_left now s replies made most p = record {
    mid = p.mid;
    before = p.before;
    whole = p.whole;
    written = p.written;
    read = p.read;
    was_read = p.was_read;
    stands = p.stands;
    going = p.going;
    one = p.one;
    part = sent_kept p.written h'.contents h''.contents p.whole s holds.contents p.part;
    same = holds.number ∙ p.same;
  }

  telling_left : (now : S) (s : Transcript) (replies made most : ℕ) → IsTelling Step first now u u' h h' s replies made most → IsTelling Step first now u u' h h'' s replies made most
  telling_left now s replies made most p = record {
    before = p.before;
    whole = p.whole;
    written = p.written;
    read = p.read;
    was_read = p.was_read;
    stands = p.stands;
    going = p.going;
    bad = p.bad;
    part = sent_kept p.written h'.contents h''.contents p.whole s holds.contents p.part;
    same = holds.number ∙ p.same;
  }

module _ {S : Type 0} (Step : S → Request → Reply → S → Type 0) (first : S) (u u' u'' : SourceView) (h h' h'' : TargetView) where
  -- a read that would have had to wait changes nothing of it
  flushed_left : (now : S) (s : Transcript) (replies made most : ℕ) → Gave u' u'' (blocked ∷ []) → IsFlushed Step first now u u' h h' s replies made most → IsFlushed Step first now u u'' h h' s replies made most
  flushed_left now s replies made most gave p = record {
    idle = record {
      answering = record {
        read = read_blocked u u' u'' s.input made most gave p.idle.answering.read;
        stands = p.idle.answering.stands;
        going = p.idle.answering.going;
        same = p.idle.answering.same;
      };
      partial = p.idle.partial;
    };
    flushed = p.flushed;
  }

  came_stays : (now : S) (stage : Stage) (session : Session) → CanWait stage session.buffers → Waits stage u' u'' h' h'' → Came Step first now u u' h h' stage session → Came Step first now u u'' h h'' stage session
  came_stays now Answering session can waits p = absurd can
  came_stays now Sending session can waits p =
      subst (λ (x : SourceView). Came Step first now u x h h'' Sending session) (sym waits.0) (sending_left Step first u u' h h' h'' waits.1 now session.buffers session.replies session.made session.most p)
  came_stays now Telling session can waits p =
      subst (λ (x : SourceView). Came Step first now u x h h'' Telling session) (sym waits.0) (telling_left Step first u u' h h' h'' waits.1 now session.buffers session.replies session.made session.most p)
  came_stays now Flushing session can waits p =
      subst (λ (x : SourceView). Came Step first now u x h h'' Flushing session) (sym waits.0) (idle_kept Step first now u u' h h' session.buffers session.replies session.made session.most h'' waits.1 p)
  came_stays now Reading session can waits p =
      subst (λ (w : TargetView). Came Step first now u u'' h w Reading session) (sym waits.1) (flushed_left now session.buffers session.replies session.made session.most waits.0 p)
  came_stays now (Closing fault) session can waits p =
      subst (λ (x : SourceView). Came Step first now u x h h'' (Closing fault) session) (sym waits.0) (over_kept Step first now u u' h h' h'' waits.1 session.most fault p)
  came_stays now (Over result) session can waits p = absurd can

  pub came_kept : (now now' : S) (session session' : Session) → session' ≡ session → now' ≡ now → Waits session.stage u' u'' h' h'' → CanWait session.stage session'.buffers → Came Step first now u u' h h' session.stage session → Came Step first now' u u'' h h'' session'.stage session'
  came_kept now now' session session' same stays waits can p =
      subst (λ (x : Session). Came Step first now' u u'' h h'' x.stage x) (sym same)
      (subst (λ (x : S). Came Step first x u u'' h h'' session.stage session) (sym stays)
      (came_stays now session.stage session (subst (λ (x : Session). CanWait session.stage x.buffers) same can) waits p))

  -- where it may not wait, that counts as a failure of the stream
  module _ (now : S) (s : Transcript) (replies made most : ℕ) where
    pub blocked_sending : 0 < length s.unsent → (u'' ≡ u') × Holds h' h'' → IsSending Step first now u u' h h' s replies made most → IsOverBy Step first now u u'' h h'' most (Err (WriteFailed replies))
    blocked_sending some waits p = subst (λ (x : SourceView). IsOverBy Step first now u x h h'' most (Err (WriteFailed replies))) (sym waits.0) (sending_failed Step first now u u' h h' h'' s replies made most p some waits.1)

    pub blocked_telling : 0 < length s.unsent → (u'' ≡ u') × Holds h' h'' → IsTelling Step first now u u' h h' s replies made most → IsOverBy Step first now u u'' h h'' most (Err (WriteFailed replies))
    blocked_telling some waits p = subst (λ (x : SourceView). IsOverBy Step first now u x h h'' most (Err (WriteFailed replies))) (sym waits.0) (telling_failed Step first now u u' h h' h'' s replies made most p some waits.1)

    pub blocked_idle : IsRead s.input s.exchanges s.rest → (u'' ≡ u') × Holds h' h'' → IsIdle Step first now u u' h h' s replies made most → IsOverBy Step first now u u'' h h'' most (Err (WriteFailed replies))
    blocked_idle is_read waits p = subst (λ (x : SourceView). IsOverBy Step first now u x h h'' most (Err (WriteFailed replies))) (sym waits.0) (idle_failed Step first now u u' h h' h'' s replies made most is_read waits.1 p)

    pub blocked_reading : IsRead s.input s.exchanges s.rest → Gave u' u'' (blocked ∷ []) × (h'' ≡ h') → IsFlushed Step first now u u' h h' s replies made most → IsOverBy Step first now u u'' h h'' most (Err (ReadFailed replies))
    blocked_reading is_read waits p = subst (λ (w : TargetView). IsOverBy Step first now u u'' h w most (Err (ReadFailed replies))) (sym waits.1) (read_failed Step first now u u' u'' h h' s replies made most is_read p WouldBlock refl waits.0)

  pub blocked_over : (now : S) (most : ℕ) (fault : SessionFault) → (u'' ≡ u') × Holds h' h'' → IsOverBy Step first now u u' h h' most (Err fault) → IsOverBy Step first now u u'' h h'' most (Err fault)
  blocked_over now most fault waits p = subst (λ (x : SourceView). IsOverBy Step first now u x h h'' most (Err fault)) (sym waits.0) (over_kept Step first now u u' h h' h'' waits.1 most fault p)

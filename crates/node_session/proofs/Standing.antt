-- How far a session has come, and how it ends.
use Rattle.std.proofs.Common.{◌≡◌, ℕ, ◌+◌, ◌<◌, ◌≤◌, List, [], ◌∷◌, ◌++◌, length, take, Option, refl, sym, ap, subst, ◌∙◌, append_assoc, append-nil, length-append, inl, inr, arith}
use Rattle.std.specs.List.{flat_map}
use Rattle.std.specs.Io.KnownBytes.{Appends, Keeps}
use Rattle.std.proofs.KnownBytes.{Appends-trans, Appends-nil, Appends-kept}
use Rattle.std.proofs.lemmas.List.{map-append, length-map}
use Rattle.std.proofs.lemmas.List.Concat.{flat_map-append}
use Rattle.pb_frame.specs.declared.fault.FrameFault.{FrameFault}
use Rattle.pb_frame.specs.declared.fault.FrameFault.TheVariants as frames
use Rattle.pb_frame.specs.Limits.{max_request_len}
use Rattle.pb_frame.specs.Message.{CodedMessage, frame, IsPartial, IsFaulty}
use Rattle.riak_msgs.specs.declared.request.Request.{Request}
use Rattle.riak_msgs.specs.declared.reply.Reply.{Reply}
use Rattle.riak_msgs.specs.declared.reply.Reply.TheVariants.{Error}
use Rattle.node_session.specs.declared.exchange.Exchange.{Exchange}
use Rattle.node_session.specs.declared.fault.SessionFault.TheVariants.{BadFrame, NoMemory}
use Rattle.node_session.specs.Answers.{Answers, AnswersInTurn, reply_frame, frame_fault_text}
use Rattle.node_session.specs.Answered.{AllAnswered, AnsweredInput, NextReply, IsError, IsBadLengthTold, CameInLastRead, AtLastRead, WriteFailedAt, IsMemoryRefused}
use Rattle.node_session.specs.Session.{IsInputEnd, Stops}
use Rattle.node_session.specs.Sending.{IsWriteCutShort, Stands}
use Rattle.node_session.specs.Nexts.{IsNextAnswered, IsBadNext, IsLost}
use Rattle.node_session.specs.Views.{Transcript, CanFollow, EndsInPiece, IsRead, message_of, messages_of, replies_of}
use Rattle.node_session.proofs.Frames.{came_after}
pub use Rattle.node_session.proofs.Frames.{some_frame}

-- a piece with a byte
some_piece : (piece : List ℕ) → (piece ≡ [] → ⊥) → 0 < length piece
some_piece [] none = absurd (none refl)
some_piece (x ∷ xs) none = omega arith

-- what ends a session came with the last piece
pub came_in : (rest : List ℕ) → EndsInPiece rest → (IsPartial max_request_len rest → ⊥) → CameInLastRead rest
came_in rest last not_partial = record {
  before = last.before;
  piece = last.piece;
  splits = last.splits;
  some = some_piece last.piece (λ e. not_partial (subst (IsPartial max_request_len) (sym (last.splits ∙ ap (λ (t : List ℕ). last.before ++ t) e ∙ append-nil last.before)) last.partial));
  bound = last.bound;
  partial = last.partial;
}

-- a bad length is not partial
pub faulty_not : (rest : List ℕ) (fault : FrameFault) → IsFaulty max_request_len rest fault → IsPartial max_request_len rest → ⊥
faulty_not rest frames.Empty is p = let s = p.short is.length.0 in omega (arith, s.0, is.length.1)
faulty_not rest frames.TooLarge is p = let s = p.short is.length.0 in omega (arith, s.1, is.length.1)
faulty_not rest frames.NoMemory is p = absurd is.length

-- so many frames are at least so many bytes
frames_long : (ms : List CodedMessage) → length ms ≤ length (flat_map frame ms)
frames_long [] = omega arith
frames_long (m ∷ ms) =
    let ih = frames_long ms in
    let one = some_frame m in
    let len : length (flat_map frame (m ∷ ms)) ≡ length (frame m) + length (flat_map frame ms) = length-append (frame m) (flat_map frame ms) in
    omega (arith, ih, len, one)

pub read_count : (input rest : List ℕ) (es : List Exchange) → IsRead input es rest → length es + length rest ≤ length input
read_count input rest es p =
    let long = frames_long (messages_of es) in
    let same : length (messages_of es) ≡ length es = length-map es message_of in
    let len : length input ≡ length (flat_map frame (messages_of es)) + length rest = ap length p.stream ∙ length-append (flat_map frame (messages_of es)) rest in
    omega (arith, long, same, len)

module _ {S : Type 0} (Step : S → Request → Reply → S → Type 0) where
  -- one message more
  pub run_more : (a b c : S) (ms : List CodedMessage) (rs : List Reply) (m : CodedMessage) (r : Reply) → AnswersInTurn Step a ms rs b → Answers Step b m r c → AnswersInTurn Step a (ms ++ m ∷ []) (rs ++ r ∷ []) c
  run_more a b c [] [] m r p q = (c, subst (λ (x : S). Answers Step x m r c) p q, refl)
  run_more a b c (n ∷ ms) (t ∷ rs) m r p q = (p.0, p.1, run_more p.0 b c ms rs m r p.2 q)
  run_more a b c [] (t ∷ rs) m r p q = absurd p
  run_more a b c (n ∷ ms) [] m r p q = absurd p

  pub stands_none : (a : S) (h : Option (List ℕ)) (s : Transcript) → s.exchanges ≡ [] → Stands Step a a h h s
  stands_none a h s e = record {
    run = subst (λ (es : List Exchange). AnswersInTurn Step a (messages_of es) (replies_of es) a) (sym e) refl;
    written = subst (λ (es : List Exchange). Appends h h (flat_map reply_frame (replies_of es))) (sym e) (Appends-nil h);
  }

  -- the exchanges alone count
  pub stands_same : (a b : S) (h h' : Option (List ℕ)) (s t : Transcript) → t.exchanges ≡ s.exchanges → Stands Step a b h h' s → Stands Step a b h h' t
  stands_same a b h h' s t e p = record {
    run = subst (λ (es : List Exchange). AnswersInTurn Step a (messages_of es) (replies_of es) b) (sym e) p.run;
    written = subst (λ (es : List Exchange). Appends h h' (flat_map reply_frame (replies_of es))) (sym e) p.written;
  }

  -- one exchange more, whose reply was written
  pub stands_more : (a b c : S) (h h' h'' : Option (List ℕ)) (s t u : Transcript) → s.unsent ≡ [] → IsNextAnswered Step b c s t → Appends h' h'' t.unsent → u ≡ record t { unsent = [] }
      → Stands Step a b h h' s → Stands Step a c h h'' u
  stands_more a b c h h' h'' s t u none one wrote e p =
      let es = s.exchanges in
      let x = one.exchange in
      let r = x.reply in
      let sent : t.unsent ≡ reply_frame r = one.unsent ∙ ap (λ (l : List ℕ). l ++ reply_frame r) none in
      let all : u.exchanges ≡ es ++ x ∷ [] = ap (λ (v : Transcript). v.exchanges) e ∙ one.exchanges in
      let ms : messages_of (es ++ x ∷ []) ≡ messages_of es ++ message_of x ∷ [] = map-append message_of es (x ∷ []) in
      let rs : replies_of (es ++ x ∷ []) ≡ replies_of es ++ r ∷ [] = map-append (λ (y : Exchange). y.reply) es (x ∷ []) in
      let frames_are : flat_map reply_frame (replies_of (es ++ x ∷ [])) ≡ flat_map reply_frame (replies_of es) ++ reply_frame r =
      ap (flat_map reply_frame) rs ∙ flat_map-append reply_frame (replies_of es) (r ∷ []) ∙ ap (λ (l : List ℕ). flat_map reply_frame (replies_of es) ++ l) (append-nil (reply_frame r)) in
      record {
        run = subst (λ (l : List Exchange). AnswersInTurn Step a (messages_of l) (replies_of l) c) (sym all)
            (subst (λ (l : List CodedMessage). AnswersInTurn Step a l (replies_of (es ++ x ∷ [])) c) (sym ms)
            (subst (λ (l : List Reply). AnswersInTurn Step a (messages_of es ++ message_of x ∷ []) l c) (sym rs)
            (run_more a b c (messages_of es) (replies_of es) (message_of x) r p.run one.answers)));
        written = subst (λ (l : List Exchange). Appends h h'' (flat_map reply_frame (replies_of l))) (sym all)
            (subst (Appends h h'') (sym frames_are) (Appends-trans h h' h'' _ _ p.written (subst (Appends h' h'') sent wrote)));
      }

  module _ (a b : S) (h h' h'' : Option (List ℕ)) (s : Transcript) (count : ℕ) (p : Stands Step a b h h' s) (read : IsRead s.input s.exchanges s.rest) (counted : length s.exchanges ≡ count) where
    -- it ended so behind what was written
    pub ended : (last : List ℕ) (Ends : S → List ℕ → List ℕ → Type 0) → Appends h' h'' last → Ends b s.rest last → AnsweredInput Step a s.input h h'' count Ends
    ended last Ends wrote ends = record {
      messages = messages_of s.exchanges;
      replies = replies_of s.exchanges;
      mid = b;
      rest = s.rest;
      last = last;
      stream = read.stream;
      each = read.each;
      run = p.run;
      counted = length-map s.exchanges message_of ∙ counted;
      written = Appends-trans h h' h'' _ last p.written wrote;
      ends = ends;
    }

    module _ (c : S) (t : Transcript) (none : s.unsent ≡ []) where
      -- a reply was cut short
      pub cut_reply : IsNextAnswered Step b c s t → IsWriteCutShort h' h'' t.unsent → AnsweredInput Step a s.input h h'' count (WriteFailedAt Step c)
      cut_reply one cut =
          let r = one.exchange.reply in
          let sent : t.unsent ≡ reply_frame r = one.unsent ∙ ap (λ (l : List ℕ). l ++ reply_frame r) none in
          let next : NextReply Step b s.rest (reply_frame r) c = record { message = message_of one.exchange; reply = r; more = t.rest; front = one.front; within = one.within; answers = one.answers; is = refl } in
          ended (take cut.len (reply_frame r)) (WriteFailedAt Step c) (subst (λ (l : List ℕ). Appends h' h'' (take cut.len l)) sent cut.written)
          (inl (
            came_in s.rest read.last (λ q. q.left (message_of one.exchange) t.rest one.within one.front),
            record { next = reply_frame r; due = inl next; len = cut.len; short = subst (λ (l : List ℕ). cut.len < length l) sent cut.short; begins = refl },
          ))

      abbrev bad_error : (bad : IsBadNext s t) → c ≡ b → IsError b s.rest (reply_frame (Error (frame_fault_text bad.bad))) c
      bad_error bad same = record { fault = bad.bad; faulty = bad.faulty; node = same; is = refl }

      -- the error for a bad length was cut short
      pub cut_error : (bad : IsBadNext s t) → c ≡ b → IsWriteCutShort h' h'' t.unsent → AnsweredInput Step a s.input h h'' count (WriteFailedAt Step c)
      cut_error bad same cut =
          let error = reply_frame (Error (frame_fault_text bad.bad)) in
          let sent : t.unsent ≡ error = bad.unsent ∙ ap (λ (l : List ℕ). l ++ error) none in
          ended (take cut.len error) (WriteFailedAt Step c) (subst (λ (l : List ℕ). Appends h' h'' (take cut.len l)) sent cut.written)
          (inl (
            came_in s.rest read.last (faulty_not s.rest bad.bad bad.faulty),
            record { next = error; due = inr (bad_error bad same); len = cut.len; short = subst (λ (l : List ℕ). cut.len < length l) sent cut.short; begins = refl },
          ))

      -- and was written whole
      pub told_error : IsBadNext s t → c ≡ b → Appends h' h'' t.unsent → Stops Step a c s.input h h'' (BadFrame count)
      told_error bad same wrote =
          let error = reply_frame (Error (frame_fault_text bad.bad)) in
          let sent : t.unsent ≡ error = bad.unsent ∙ ap (λ (l : List ℕ). l ++ error) none in
          ended error (AtLastRead (IsBadLengthTold c)) (subst (Appends h' h'') sent wrote)
          (came_in s.rest read.last (faulty_not s.rest bad.bad bad.faulty), bad_error bad same)

      abbrev lost_due : (lost : IsLost Step b c s t) → NextReply Step b s.rest (reply_frame lost.exchange.reply) c
      lost_due lost = record { message = message_of lost.exchange; reply = lost.exchange.reply; more = t.rest; front = lost.front; within = lost.within; answers = lost.answers; is = refl }

      -- a reply was lost
      pub lost_reply : IsLost Step b c s t → Appends h' h'' [] → Stops Step a c s.input h h'' (NoMemory count)
      lost_reply lost wrote =
          ended [] (AtLastRead (IsMemoryRefused Step c)) wrote (
            came_in s.rest read.last (λ q. q.left (message_of lost.exchange) t.rest lost.within lost.front),
            inl (record { nothing = refl; next = reply_frame lost.exchange.reply; due = lost_due lost; no_error = lost.no_error }),
          )

module _ {S : Type 0} (Step : S → Request → Reply → S → Type 0) where
  -- what was written is kept
  pub stands_kept : (a b : S) (h h' h'' : Option (List ℕ)) (s : Transcript) → Keeps h' h'' → Stands Step a b h h' s → Stands Step a b h h'' s
  stands_kept a b h h' h'' s kept p = record { run = p.run; written = Appends-kept h h' h'' _ p.written kept }

  pub answered_kept : (a : S) (input : List ℕ) (h h' h'' : Option (List ℕ)) (count : ℕ) (Ends : S → List ℕ → List ℕ → Type 0) → Keeps h' h'' → AnsweredInput Step a input h h' count Ends → AnsweredInput Step a input h h'' count Ends
  answered_kept a input h h' h'' count Ends kept p = record {
    messages = p.messages;
    replies = p.replies;
    mid = p.mid;
    rest = p.rest;
    last = p.last;
    stream = p.stream;
    each = p.each;
    run = p.run;
    counted = p.counted;
    written = Appends-kept h h' h'' _ p.written kept;
    ends = p.ends;
  }

  module _ (a b : S) (h h' h'' : Option (List ℕ)) (s : Transcript) (count : ℕ) (p : Stands Step a b h h' s) (read : IsRead s.input s.exchanges s.rest) (counted : length s.exchanges ≡ count) (kept : Keeps h' h'') where
    abbrev none_more : Appends h' h'' []
    none_more = Appends-kept h' h' h'' [] (Appends-nil h') kept

    -- no whole message is left
    pub all_answered : IsPartial max_request_len s.rest → AnsweredInput Step a s.input h h'' count (AllAnswered b)
    all_answered partial = ended Step a b h h' h'' s count p read counted [] (AllAnswered b) none_more (record { node = refl; partial = partial; nothing = refl })

    pub none_flushed : IsPartial max_request_len s.rest → AnsweredInput Step a s.input h h'' count (WriteFailedAt Step b)
    none_flushed partial = ended Step a b h h' h'' s count p read counted [] (WriteFailedAt Step b) none_more (inr (record { node = refl; partial = partial; nothing = refl }))

    pub at_end : (len : ℕ) → len ≡ length s.rest → IsPartial max_request_len s.rest → AnsweredInput Step a s.input h h'' count (IsInputEnd b len)
    at_end len is partial = ended Step a b h h' h'' s count p read counted [] (IsInputEnd b len) none_more (record { through = record { node = refl; partial = partial; nothing = refl }; left = sym is })

    -- memory was refused for a piece
    pub unkept : (piece : List ℕ) → 0 < length piece → CanFollow s.rest (length piece) → IsPartial max_request_len s.rest → AnsweredInput Step a (s.input ++ piece) h h'' count (AtLastRead (IsMemoryRefused Step b))
    unkept piece some follows partial =
        record {
          messages = messages_of s.exchanges;
          replies = replies_of s.exchanges;
          mid = b;
          rest = s.rest ++ piece;
          last = [];
          stream = ap (λ (t : List ℕ). t ++ piece) read.stream ∙ append_assoc (flat_map frame (messages_of s.exchanges)) s.rest piece;
          each = read.each;
          run = p.run;
          counted = length-map s.exchanges message_of ∙ counted;
          written = Appends-trans h h' h'' _ [] p.written none_more;
          ends = (came_after s.rest piece partial follows some, inr (record { node = refl; nothing = refl }));
        }

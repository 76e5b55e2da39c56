-- One node answers as another: where each step of the one is a step of the other, each session of the one is one of the
-- other.
use Rattle.std.proofs.Common.{◌≡◌, ℕ, List, [], ◌∷◌, Option, Ok, Err, refl, subst, sym, inl, inr}
use Rattle.pb_frame.specs.Message.{CodedMessage}
use Rattle.riak_msgs.specs.declared.Request.{Request}
use Rattle.riak_msgs.specs.declared.Reply.{Reply}
use Rattle.node_session.specs.declared.fault.SessionFault.{SessionFault}
use Rattle.node_session.specs.declared.fault.SessionFault.TheVariants as faults
use Rattle.node_session.specs.Answers.{Answers, AnswersRead, AnswersInTurn}
use Rattle.node_session.specs.Answered.{AnsweredInput, AllAnswered, NextReply, IsBadLengthTold, PartlyWritten, ReplyNotWritten, WriteFailedAt, Unanswered, IsMemoryRefused, AtLastRead}
use Rattle.node_session.specs.Session.{IsInputEnd, Stops}

module _ {S T : Type 0} (Step : S → Request → Reply → S → Type 0) (Step' : T → Request → Reply → T → Type 0) (Like : S → T → Type 0)
    (step : (s s' : S) (t : T) (request : Request) (reply : Reply) → Like s t → Step s request reply s' → (t' : T) × Like s' t' × Step' t request reply t') where
  read_like : (s s' : S) (t : T) (said : _) (reply : Reply) → Like s t → AnswersRead Step s said reply s' → (t' : T) × Like s' t' × AnswersRead Step' t said reply t'
  read_like s s' t (Ok request) reply like (inl made) =
      let next = step s s' t request reply like made in (next.0, next.1, inl next.2)
  read_like s s' t (Ok request) reply like (inr refused) =
      (t, subst (λ (x : S). Like x t) (sym refused.1) like, inr (refused.0, refl))
  read_like s s' t (Err fault) reply like answered =
      (t, subst (λ (x : S). Like x t) (sym answered.1) like, (answered.0, refl))

  answers_like : (s s' : S) (t : T) (m : CodedMessage) (reply : Reply) → Like s t → Answers Step s m reply s' → (t' : T) × Like s' t' × Answers Step' t m reply t'
  answers_like s s' t m reply like a =
      let next = read_like s s' t a.said reply like a.answers in
      (next.0, next.1, record { said = a.said; says = a.says; answers = next.2 })

  pub run_like : (s s' : S) (t : T) (ms : List CodedMessage) (rs : List Reply) → Like s t → AnswersInTurn Step s ms rs s' → (t' : T) × Like s' t' × AnswersInTurn Step' t ms rs t'
  run_like s s' t [] [] like e = (t, subst (λ (x : S). Like x t) (sym e) like, refl)
  run_like s s' t (m ∷ ms) (r ∷ rs) like (mid, first, rest) =
      let one = answers_like s mid t m r like first in
      let all = run_like mid s' one.0 ms rs one.1 rest in
      (all.0, all.1, (one.0, one.2, all.2))
  run_like s s' t [] (r ∷ rs) like e = absurd e
  run_like s s' t (m ∷ ms) [] like e = absurd e

  -- a node, and how what it answered ended
  module _ (s s' : S) (t : T) (input : List ℕ) (held held' : Option (List ℕ)) (count : ℕ) (like : Like s t) where
    abbrev Ending : (Ends : S → S → List ℕ → List ℕ → Type 0) (Ends' : T → T → List ℕ → List ℕ → Type 0) → Type 0
    Ending Ends Ends' = (mid : S) (t' : T) (rest last : List ℕ) → Like mid t' → Ends s' mid rest last → (u : T) × Like s' u × Ends' u t' rest last

    answered_like : (Ends : S → S → List ℕ → List ℕ → Type 0) (Ends' : T → T → List ℕ → List ℕ → Type 0) → Ending Ends Ends'
        → AnsweredInput Step s input held held' count (Ends s') → (u : T) × Like s' u × AnsweredInput Step' t input held held' count (Ends' u)
    answered_like Ends Ends' ending a =
        let run = run_like s a.mid t a.messages a.replies like a.run in
        let end = ending a.mid run.0 a.rest a.last run.1 a.ends in (
          end.0,
          end.1,
          record {
            messages = a.messages;
            replies = a.replies;
            mid = run.0;
            rest = a.rest;
            last = a.last;
            stream = a.stream;
            each = a.each;
            run = run.2;
            counted = a.counted;
            written = a.written;
            ends = end.2;
          },
        )

    -- the node stands where its answers end
    stays : (mid : S) (t' : T) → Like mid t' → s' ≡ mid → Like s' t'
    stays mid t' l e = subst (λ (x : S). Like x t') (sym e) l

    through : Ending AllAnswered AllAnswered
    through mid t' rest last l p = (t', stays mid t' l p.node, record { node = refl; partial = p.partial; nothing = p.nothing })

    ended : (len : ℕ) → Ending (λ node. IsInputEnd node len) (λ node. IsInputEnd node len)
    ended len mid t' rest last l p =
        let q = through mid t' rest last l p.through in
        (q.0, q.1, record { through = q.2; left = p.left })

    bad : Ending (λ node. AtLastRead (IsBadLengthTold node)) (λ node. AtLastRead (IsBadLengthTold node))
    bad mid t' rest last l p =
        let e = p.1 in
        (t', stays mid t' l e.node, (p.0, record { fault = e.fault; faulty = e.faulty; node = refl; is = e.is }))

    -- the same is due of the other node
    abbrev due_like : (mid : S) (t' u : T) (rest next : List ℕ) (p : NextReply Step mid rest next s') → Answers Step' t' p.message p.reply u → NextReply Step' t' rest next u
    due_like mid t' u rest next p answers = record {
      message = p.message;
      reply = p.reply;
      more = p.more;
      front = p.front;
      within = p.within;
      answers = answers;
      is = p.is;
    }

    cut : Ending (PartlyWritten Step) (PartlyWritten Step')
    cut mid t' rest last l p = elim p.due [
      | inl due ↦
          let one = answers_like mid s' t' due.message due.reply l due.answers in
          (one.0, one.1, record { next = p.next; due = inl (due_like mid t' one.0 rest p.next due one.2); len = p.len; short = p.short; begins = p.begins })
      | inr e ↦
          (t', stays mid t' l e.node, record { next = p.next; due = inr (record { fault = e.fault; faulty = e.faulty; node = refl; is = e.is }); len = p.len; short = p.short; begins = p.begins })
    ]

    unsent : Ending (WriteFailedAt Step) (WriteFailedAt Step')
    unsent mid t' rest last l (inl p) = let q = cut mid t' rest last l p.1 in (q.0, q.1, inl (p.0, q.2))
    unsent mid t' rest last l (inr p) = let q = through mid t' rest last l p in (q.0, q.1, inr q.2)

    lost : Ending (ReplyNotWritten Step) (ReplyNotWritten Step')
    lost mid t' rest last l p =
        let one = answers_like mid s' t' p.due.message p.due.reply l p.due.answers in
        (one.0, one.1, record { nothing = p.nothing; next = p.next; due = due_like mid t' one.0 rest p.next p.due one.2; no_error = p.no_error })

    unkept : Ending Unanswered Unanswered
    unkept mid t' rest last l p = (t', stays mid t' l p.node, record { node = refl; nothing = p.nothing })

    out_of_memory : Ending (λ node. AtLastRead (IsMemoryRefused Step node)) (λ node. AtLastRead (IsMemoryRefused Step' node))
    out_of_memory mid t' rest last l (just, inl p) = let q = lost mid t' rest last l p in (q.0, q.1, (just, inl q.2))
    out_of_memory mid t' rest last l (just, inr p) = let q = unkept mid t' rest last l p in (q.0, q.1, (just, inr q.2))

  pub end_like : (s s' : S) (t : T) (input : List ℕ) (held held' : Option (List ℕ)) (count len : ℕ) → Like s t
      → AnsweredInput Step s input held held' count (IsInputEnd s' len) → (u : T) × Like s' u × AnsweredInput Step' t input held held' count (IsInputEnd u len)
  end_like s s' t input held held' count len like a =
      answered_like s s' t input held held' count like (λ node. IsInputEnd node len) (λ node. IsInputEnd node len) (ended s s' t input held held' count like len) a

  pub stops_like : (s s' : S) (t : T) (input : List ℕ) (held held' : Option (List ℕ)) (fault : SessionFault) → Like s t
      → Stops Step s s' input held held' fault → (u : T) × Like s' u × Stops Step' t u input held held' fault
  stops_like s s' t input held held' (faults.ReadFailed count) like a =
      answered_like s s' t input held held' count like AllAnswered AllAnswered (through s s' t input held held' count like) a
  stops_like s s' t input held held' (faults.WriteFailed count) like a =
      answered_like s s' t input held held' count like (WriteFailedAt Step) (WriteFailedAt Step') (unsent s s' t input held held' count like) a
  stops_like s s' t input held held' (faults.BadFrame count) like a =
      answered_like s s' t input held held' count like (λ node. AtLastRead (IsBadLengthTold node)) (λ node. AtLastRead (IsBadLengthTold node)) (bad s s' t input held held' count like) a
  stops_like s s' t input held held' (faults.TooManyReads count) like a =
      answered_like s s' t input held held' count like AllAnswered AllAnswered (through s s' t input held held' count like) a
  stops_like s s' t input held held' (faults.NoMemory count) like a =
      answered_like s s' t input held held' count like (λ node. AtLastRead (IsMemoryRefused Step node)) (λ node. AtLastRead (IsMemoryRefused Step' node)) (out_of_memory s s' t input held held' count like) a

-- At the end of a legal log puts, deletes and reaps come to what the register may give, over sides and numbers; so in each course.
use Rattle.std.proofs.Common.{◌≡◌, ℕ, ◌<◌, Bool, true, false, not, ◌&&◌, ◌||◌, cond, List, [], ◌∷◌, length, refl, sym, ◌∙◌, ap, subst, inl, inr}
use Rattle.std.specs.Prelude.{Option, Some, None, IsTrue, is_none, is_some}
use Rattle.std.specs.List.{list_any}
use Rattle.riak_msgs.specs.declared.PutReply.{PutReply}
use Rattle.riak_msgs.specs.Contents.{Content}
use Rattle.riak_msgs.specs.declared.Key.{Key}
use Rattle.sibling_register.specs.History.{Event, Operation, Write, Tombstone, Reap, is_update}
use Rattle.sibling_register.specs.Refusals.{bad_context, is_free}
use Rattle.sibling_register.specs.Answers.{PutCommand, DelCommand, RegisterAsk, AskGet, AskPut, AskDel, AskReap, Shown, Done}
use Rattle.actor_epoch.specs.declared.Dot.{Dot}
use Rattle.actor_epoch.specs.Given.{Context}
use Rattle.vnode_machine.specs.Machine.{Stored, State, stored, is_held, has_value, is_bad_context, matches_clock, has_too_many_siblings, has_too_many_actors, is_out_of_epochs, is_out_of_counters, pairs_of, del_pairs, update_check, holds_dead, apply_operation}
use Rattle.vnode_machine.specs.Replay.{AcceptsEvent}
use Rattle.vnode_machine.specs.Replies.{contents_in, context_in, put_reply}
use Rattle.vnode_machine.specs.Registers.{key_of, context_in_ask}
use Rattle.vnode_machine.specs.Step.{GetDone, PutDone, DelDone, ReapDone, ReapKept, MachineOutcome, Refused, Answered, Accepted, unless_refused, outcome}
use Rattle.vnode_machine.proofs.Invariants.{clock_in}
use Rattle.vnode_machine.proofs.Keys.{key_eq-refl}
use Rattle.vnode_machine.proofs.Puts.{checks_of, rooms_of}
use Rattle.copy_laws.specs.Copies.{Command, brought}
use Rattle.copy_laws.specs.Sides.{Partition, siblings_at}
use Rattle.copy_laws.specs.CopyReplay.{primary_after}
use Rattle.copy_laws.specs.Joining.{Log, Fallbacks, IsJoined, ShowsSiblings}
use Rattle.copy_laws.specs.Diversions.{Course, primary_of, fallback_of, HappensTo}
use Rattle.copy_laws.specs.JointAnswers.{AreWithinLimits, is_name_at, update_at, has_too_many_at, put_event_at, del_event_at, put_refusal_at, del_refusal_at, does_nothing_at, MayRefuseBy, put_shown_at, IsNextAt, PutGivesAt, DelGivesAt, MayAsk, CoursesAnswerPuts, CoursesAnswerDels}
use Rattle.copy_laws.specs.LegalLogs.{IsLegalLog, CoversBrought, MayRefuseAt, IsNextOf, PutGivesOf, DelGivesOf, ReapGivesOf, LogsAnswerPuts, LogsAnswerDels, LogsAnswerReaps, IsOfLog, StepIsOfLogs}
use Rattle.copy_laws.proofs.Clocks.{taken_pairs}
use Rattle.copy_laws.proofs.JointSights.{crowded-same}
use Rattle.copy_laws.proofs.JointNext.{siblings-next}
use Rattle.copy_laws.proofs.GoodContexts.{good-context}
use Rattle.copy_laws.proofs.JointAnswers.{logs_answer_gets, held-same, dead-same, shows, name-same, contents-same, context-same}
use Rattle.copy_laws.proofs.LegalCourses.{courses_are_legal}
use Rattle.copy_laws.proofs.CourseCame.{covers-brought}
use Rattle.copy_laws.proofs.Held.{held-reap, joined-at}
use Rattle.copy_laws.proofs.LogNext.{legal-next}
use Rattle.copy_laws.proofs.NamedContexts.{bad-none}

-- whether a context is a name matters where a value is present alone
name-matters : (i p c c' t a : Bool) → (p ≡ true → c ≡ c') → checks_of a (i && not p) (i && not c) t ≡ checks_of a (i && not p) (i && not c') t
name-matters i true c c' t a h = ap (λ b. checks_of a (i && false) (i && not b) t) (h refl)
name-matters true false c c' t true h = refl
name-matters true false c c' t false h = refl
name-matters false false c c' t a h = refl

value-held : (state : State Content) (key : Key) → has_value state key ≡ true → is_held state key ≡ true
value-held state key h = by (stored state key) refl
  where
    by : (o : Option (Stored Content)) → stored state key ≡ o → is_some o ≡ true
    by (Some s) e = refl
    by None e =
        let none : has_value state key ≡ false = (λ i. list_any (λ entry. is_some entry.1) (clock_in (e i)).live) in
        let no : true ≡ false = sym h ∙ none in cc

module _ (partition : Partition) (log : Log) (fallbacks : Fallbacks) (limits : AreWithinLimits partition) where
  abbrev state : State Content
  state = primary_after partition log

  module _ (key : Key) (legal : IsLegalLog partition log fallbacks key) where
    joined : IsJoined partition log (brought log key) key
    joined = joined-at partition log fallbacks key legal [] log refl

    shows-here : ShowsSiblings partition log (brought log key) key log
    shows-here = shows partition log fallbacks key legal

    crowded : (given : Option Context) (operation : Operation Content) (update : is_update operation ≡ true) → has_too_many_siblings state key (taken_pairs state key given operation) ≡ has_too_many_at partition log (update_at partition log key given operation)
    crowded given operation update = crowded-same partition log key joined given operation update shows-here

  refused : (key : Key) (given : Option Context) (check : Option ℕ) (n : ℕ) → check ≡ Some n → MayRefuseAt partition log fallbacks key given check n
  refused key given check n h = inr (subst (λ o. MayRefuseBy o n) (sym h) refl)

  refused_free : (key : Key) (given : Option Context) (check : Option ℕ) (n : ℕ) → check ≡ None → IsTrue (is_free n) → MayRefuseAt partition log fallbacks key given check n
  refused_free key given check n h free = inr (subst (λ o. MayRefuseBy o n) (sym h) free)

  -- what an accepted update leads to
  module _ (event : Event Content Context) (update : is_update event.operation ≡ true) (next : IsLegalLog partition (Command event ∷ log) fallbacks event.key) where
    leads-next : IsNextOf partition log fallbacks event (primary_after partition (Command event ∷ log))
    leads-next = record {
      legal = next;
      leads = refl;
      siblings = siblings-next partition event log update (joined-at partition (Command event ∷ log) fallbacks event.key next [] (Command event ∷ log) refl);
    }

  module _ (put : PutCommand Content Context) (legal : IsLegalLog partition log fallbacks put.key) (brings : CoversBrought partition log fallbacks put.key put.context) where
    abbrev put_event : Event Content Context
    put_event = put_event_at partition log put

    abbrev put_after : Log
    put_after = Command put_event ∷ log

    abbrev check : Option ℕ
    check = put_refusal_at partition log put

    abbrev if_not_modified : Bool
    if_not_modified = put.if_not_modified && not put.if_none_match

    -- the checks that the register has too
    checks-same : check
        ≡ checks_of (put.if_none_match && has_value state put.key) (if_not_modified && not (has_value state put.key))
        (if_not_modified && not (matches_clock state put.key put.context)) (has_too_many_siblings state put.key (pairs_of put.context))
    checks-same =
        sym (
        name-matters if_not_modified (has_value state put.key) (matches_clock state put.key put.context) (is_name_at partition log put.key put.context)
        (has_too_many_siblings state put.key (pairs_of put.context)) (put.if_none_match && has_value state put.key)
        (λ p. name-same partition log fallbacks put.key legal put.context (sym (held-same partition log fallbacks put.key legal) ∙ value-held state put.key p))
        ∙ (λ i. checks_of (put.if_none_match && (shows-here put.key legal).present i) (if_not_modified && not ((shows-here put.key legal).present i))
        (if_not_modified && not (is_name_at partition log put.key put.context)) (crowded put.key legal put.context (Write put.value) refl i)))

    put_goes_on : update_check state put.key put.context (pairs_of put.context) ≡ None → IsLegalLog partition put_after fallbacks put.key
    put_goes_on fits = legal-next partition log fallbacks put.key legal put_event (fits, λ same. refl) (λ same. brings)

    reply : IsLegalLog partition put_after fallbacks put.key → (b : Bool)
        → (let r : PutReply = cond b (record { contents = contents_in (primary_after partition put_after) put.key (not put.return_body); context = context_in (primary_after partition put_after) put.key }) (record { contents = []; context = [] }) in r)
        ≡ put_shown_at partition put_after put.key (cond b (Shown (siblings_at partition put_after put.key) (Some (length put_after)) false (not put.return_body)) Done)
    reply next true = λ i. record {
      contents = contents-same partition put_after fallbacks put.key next (not put.return_body) i;
      context = context-same partition put_after fallbacks put.key next i;
    }
    reply next false = refl

    abbrev put_accepts : MachineOutcome
    put_accepts = Accepted (Write put.value) (PutDone (put_reply (primary_after partition put_after) put)) (primary_after partition put_after)

    put-accepted : check ≡ None → update_check state put.key put.context (pairs_of put.context) ≡ None → PutGivesOf partition log fallbacks put put_accepts
    put-accepted none fits =
        let next = put_goes_on fits in
        (none, refl, leads-next put_event refl next, ap (λ r. PutDone r) (reply next (put.return_body || put.return_head)))

    by-put : (bad : Bool) → is_bad_context state put.key put.context ≡ bad → (a b c crowded full epochs counters : Bool) → check ≡ checks_of a b c crowded
        → update_check state put.key put.context (pairs_of put.context) ≡ cond bad (Some 4) (rooms_of crowded full epochs counters)
        → PutGivesOf partition log fallbacks put (unless_refused (cond bad (Some 4) (cond a (Some 1) (cond b (Some 3) (cond c (Some 2) (rooms_of crowded full epochs counters))))) put_accepts)
    by-put true p a b c t f e k h u = inl (refl, bad-none partition log fallbacks put.key legal limits put.context p)
    by-put false p true b c t f e k h u = refused put.key put.context check 1 h
    by-put false p false true c t f e k h u = refused put.key put.context check 3 h
    by-put false p false false true t f e k h u = refused put.key put.context check 2 h
    by-put false p false false false true f e k h u = refused put.key put.context check 5 h
    by-put false p false false false false true e k h u = refused_free put.key put.context check 6 h refl
    by-put false p false false false false false true k h u = refused_free put.key put.context check 7 h refl
    by-put false p false false false false false false true h u = refused_free put.key put.context check 8 h refl
    by-put false p false false false false false false false h u = put-accepted h u

    put-gives : PutGivesOf partition log fallbacks put (outcome state (AskPut put))
    put-gives =
        by-put (is_bad_context state put.key put.context) refl (put.if_none_match && has_value state put.key) (if_not_modified && not (has_value state put.key)) (if_not_modified && not (matches_clock state put.key put.context))
        (has_too_many_siblings state put.key (pairs_of put.context)) (has_too_many_actors state put.key (pairs_of put.context)) (is_out_of_epochs state put.key) (is_out_of_counters state put.key) checks-same refl

  module _ (del : DelCommand Context) (legal : IsLegalLog partition log fallbacks del.key) (brings : CoversBrought partition log fallbacks del.key del.context) where
    abbrev del_event : Event Content Context
    del_event = del_event_at partition log del

    abbrev del_after : Log
    del_after = Command del_event ∷ log

    abbrev pairs : List Dot
    pairs = del_pairs state del.key del.context

    abbrev del_accepts : MachineOutcome
    del_accepts = Accepted Tombstone DelDone (primary_after partition del_after)

    idle-same : (is_none del.context && not (is_held state del.key)) ≡ does_nothing_at partition log del
    idle-same = ap (λ b. is_none del.context && not b) (held-same partition log fallbacks del.key legal)

    accepts : (given : Option Context) → (is_none given && not (is_held state del.key)) ≡ false → update_check state del.key given (del_pairs state del.key given) ≡ None → AcceptsEvent state del.key given Tombstone
    accepts None does h = (held (is_held state del.key) does, h)
      where
        held : (b : Bool) → (true && not b) ≡ false → b ≡ true
        held true h = refl
        held false h = cc
    accepts (Some context) does h = h

    del-accepted : does_nothing_at partition log del ≡ false → del_refusal_at partition log del ≡ None → update_check state del.key del.context pairs ≡ None → DelGivesOf partition log fallbacks del del_accepts
    del-accepted does none fits =
        (does, none, refl, leads-next del_event refl (legal-next partition log fallbacks del.key legal del_event (accepts del.context (idle-same ∙ does) fits, λ same. refl) (λ same. brings)), refl)

    by-del : does_nothing_at partition log del ≡ false → (bad : Bool) → is_bad_context state del.key del.context ≡ bad → (crowded full epochs counters : Bool) → del_refusal_at partition log del ≡ cond crowded (Some 5) None
        → update_check state del.key del.context pairs ≡ cond bad (Some 4) (rooms_of crowded full epochs counters)
        → DelGivesOf partition log fallbacks del (unless_refused (cond bad (Some 4) (rooms_of crowded full epochs counters)) del_accepts)
    by-del does true p t f e k h u = (does, inl (refl, bad-none partition log fallbacks del.key legal limits del.context p))
    by-del does false p true f e k h u = (does, refused del.key del.context (del_refusal_at partition log del) 5 h)
    by-del does false p false true e k h u = (does, refused_free del.key del.context (del_refusal_at partition log del) 6 h refl)
    by-del does false p false false true k h u = (does, refused_free del.key del.context (del_refusal_at partition log del) 7 h refl)
    by-del does false p false false false true h u = (does, refused_free del.key del.context (del_refusal_at partition log del) 8 h refl)
    by-del does false p false false false false h u = del-accepted does h u

    by-idle : (idle : Bool) → does_nothing_at partition log del ≡ idle
        → DelGivesOf partition log fallbacks del (cond idle (Answered DelDone) (unless_refused (update_check state del.key del.context pairs) del_accepts))
    by-idle true e = (e, refl)
    by-idle false e =
        by-del e (is_bad_context state del.key del.context) refl (has_too_many_siblings state del.key pairs) (has_too_many_actors state del.key pairs) (is_out_of_epochs state del.key) (is_out_of_counters state del.key)
        (ap (λ b. cond b (Some 5) None) (sym (crowded del.key legal del.context Tombstone refl))) refl

    del-gives : DelGivesOf partition log fallbacks del (outcome state (AskDel del))
    del-gives =
        subst (λ idle. DelGivesOf partition log fallbacks del (cond idle (Answered DelDone) (unless_refused (update_check state del.key del.context pairs) del_accepts)))
        (sym idle-same) (by-idle (does_nothing_at partition log del) refl)

module _ (partition : Partition) (log : Log) (fallbacks : Fallbacks) (key : Key) (legal : IsLegalLog partition log fallbacks key) where
  abbrev reap_event : Event Content Context
  reap_event = update_at partition log key None Reap

  abbrev reap_after : Log
  reap_after = Command reap_event ∷ log

  reap_next : holds_dead (primary_after partition log) key ≡ true → IsLegalLog partition reap_after fallbacks key
  reap_next dead = legal-next partition log fallbacks key legal reap_event (dead, λ same. refl) (λ same dot vnode h. cc)

  by-reap : (dead : Bool) → holds_dead (primary_after partition log) key ≡ dead → ReapGivesOf partition log fallbacks key (cond dead (Accepted Reap ReapDone (primary_after partition reap_after)) (Answered ReapKept))
  by-reap true e =
      let next = reap_next e in (
        sym (dead-same partition log fallbacks key legal) ∙ e,
        refl,
        next,
        refl,
        sym (held-same partition reap_after fallbacks key next) ∙ held-reap (primary_after partition log) key key None Reap (key_eq-refl key) refl,
        refl,
      )
  by-reap false e = (sym (dead-same partition log fallbacks key legal) ∙ e, refl)

pub logs_answer_puts : (partition : Partition) (log : Log) (fallbacks : Fallbacks) → LogsAnswerPuts partition log fallbacks
logs_answer_puts partition log fallbacks limits put legal brings = put-gives partition log fallbacks limits put legal brings

pub logs_answer_dels : (partition : Partition) (log : Log) (fallbacks : Fallbacks) → LogsAnswerDels partition log fallbacks
logs_answer_dels partition log fallbacks limits del legal brings = del-gives partition log fallbacks limits del legal brings

pub logs_answer_reaps : (partition : Partition) (log : Log) (fallbacks : Fallbacks) → LogsAnswerReaps partition log fallbacks
logs_answer_reaps partition log fallbacks key legal = by-reap partition log fallbacks key legal (holds_dead (primary_after partition log) key) refl

pub step_is_of_logs : (at : State Content) (ask : RegisterAsk Content Context) → StepIsOfLogs at ask
step_is_of_logs at ask partition log fallbacks limits leads legal brings = subst (λ s. IsOfLog partition log fallbacks ask (outcome s ask)) leads (by ask legal brings)
  where
    by : (ask : RegisterAsk Content Context) → IsLegalLog partition log fallbacks (key_of ask) → CoversBrought partition log fallbacks (key_of ask) (context_in_ask ask)
        → IsOfLog partition log fallbacks ask (outcome (primary_after partition log) ask)
    by (AskGet get) legal brings = ap (λ r. Answered (GetDone r)) (logs_answer_gets partition log fallbacks get legal)
    by (AskPut put) legal brings = logs_answer_puts partition log fallbacks limits put legal brings
    by (AskDel del) legal brings = logs_answer_dels partition log fallbacks limits del legal brings
    by (AskReap key) legal brings = logs_answer_reaps partition log fallbacks key legal

-- so in each course, where a context that was shown is never a bad one
module _ (partition : Partition) (course : Course) (ids : partition.primary < partition.fallback) (limits : AreWithinLimits partition) where
  abbrev log : Log
  log = primary_of partition course

  abbrev now : State Content
  now = primary_after partition log

  module _ (event : Event Content Context) (happens : HappensTo partition event.key course) (ask : MayAsk partition course event) where
    next-at : (next : State Content) → IsNextOf partition log (fallback_of course) event next → IsNextAt partition course event next
    next-at next n =
        let accepts = n.legal.hand_off.primary_legal.2 in
        record { happens = (happens, (ask.here, accepts.0), λ itself. (accepts.1 itself, ask.shown)); leads = n.leads; siblings = n.siblings }

    good : is_bad_context now event.key event.context ≡ false
    good = good-context partition ids event.key course happens limits event.context ask.shown ask.some

    unrefused : (first : Option ℕ) (number : ℕ) → (number ≡ bad_context → ⊥) → MayRefuseAt partition log (fallback_of course) event.key event.context first number → MayRefuseBy first number
    unrefused first number other (inl h) = absurd (other h.0)
    unrefused first number other (inr h) = h

  -- with a good context 4 doesn't come
  abbrev IsOther : MachineOutcome → Type 0
  IsOther (Refused number) = number ≡ bad_context → ⊥
  IsOther (Answered response) = Unit {0}
  IsOther (Accepted operation response next) = Unit {0}

  put-other : (bad a b c crowded full epochs counters : Bool) → bad ≡ false → (o : MachineOutcome) → IsOther o
      → IsOther (unless_refused (cond bad (Some 4) (cond a (Some 1) (cond b (Some 3) (cond c (Some 2) (rooms_of crowded full epochs counters))))) o)
  put-other true a b c t f e k g o h = cc
  put-other false true b c t f e k g o h = λ e. cc
  put-other false false true c t f e k g o h = λ e. cc
  put-other false false false true t f e k g o h = λ e. cc
  put-other false false false false true f e k g o h = λ e. cc
  put-other false false false false false true e k g o h = λ e. cc
  put-other false false false false false false true k g o h = λ e. cc
  put-other false false false false false false false true g o h = λ e. cc
  put-other false false false false false false false false g o h = h

  puts : (put : PutCommand Content Context) → HappensTo partition put.key course → MayAsk partition course (put_event_at partition log put) → PutGivesAt partition course put (outcome now (AskPut put))
  puts put happens ask =
      by (outcome now (AskPut put)) (put-other (is_bad_context now put.key put.context) _ _ _ _ _ _ _ (good (put_event_at partition log put) happens ask) _ tt)
      (logs_answer_puts partition log (fallback_of course) limits put (courses_are_legal partition course ids put.key happens) (covers-brought partition ids put.key course happens put.context ask.here ask.shown))
    where
      by : (o : MachineOutcome) → IsOther o → PutGivesOf partition log (fallback_of course) put o → PutGivesAt partition course put o
      by (Refused number) other h = unrefused (put_event_at partition log put) happens ask (put_refusal_at partition log put) number other h
      by (Answered response) other h = h
      by (Accepted operation response next) other h = (h.0, h.1, next-at (put_event_at partition log put) happens ask next h.2, h.3)

  dels : (del : DelCommand Context) → HappensTo partition del.key course → MayAsk partition course (del_event_at partition log del) → DelGivesAt partition course del (outcome now (AskDel del))
  dels del happens ask =
      by (outcome now (AskDel del)) (other (is_none del.context && not (is_held now del.key)))
      (logs_answer_dels partition log (fallback_of course) limits del (courses_are_legal partition course ids del.key happens) (covers-brought partition ids del.key course happens del.context ask.here ask.shown))
    where
      other : (idle : Bool) → IsOther (cond idle (Answered DelDone) (unless_refused (update_check now del.key del.context (del_pairs now del.key del.context)) (Accepted Tombstone DelDone (apply_operation now del.key del.context Tombstone))))
      other true = tt
      other false = put-other (is_bad_context now del.key del.context) false false false (has_too_many_siblings now del.key (del_pairs now del.key del.context)) (has_too_many_actors now del.key (del_pairs now del.key del.context)) (is_out_of_epochs now del.key) (is_out_of_counters now del.key) (good (del_event_at partition log del) happens ask) _ tt

      by : (o : MachineOutcome) → IsOther o → DelGivesOf partition log (fallback_of course) del o → DelGivesAt partition course del o
      by (Refused number) other h = (h.0, unrefused (del_event_at partition log del) happens ask (del_refusal_at partition log del) number other h.1)
      by (Answered response) other h = h
      by (Accepted operation response next) other h = (h.0, h.1, h.2, next-at (del_event_at partition log del) happens ask next h.3, h.4)

pub courses_answer_puts : (partition : Partition) (course : Course) → CoursesAnswerPuts partition course
courses_answer_puts partition course ids limits put happens ask = puts partition course ids limits put happens ask

pub courses_answer_dels : (partition : Partition) (course : Course) → CoursesAnswerDels partition course
courses_answer_dels partition course ids limits del happens ask = dels partition course ids limits del happens ask

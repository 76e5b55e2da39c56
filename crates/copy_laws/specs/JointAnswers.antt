-- What the sibling register answers where its sequence numbers have sides: at each position of a primary's log.
use Rattle.std.specs.Prelude.{◌≡◌, ◌≢◌, ◌<◌, ◌≤◌, Bool, true, false, not, ◌&&◌, ◌||◌, if◌then◌else◌, List, [], ◌∷◌, ◌++◌, ℕ, suc, length, filter, map, nat_le, Option, Some, None, is_none, IsTrue, MatchOption}
use Rattle.std.specs.Option.{option_map_or}
use Rattle.riak_msgs.specs.declared.Key.{Key}
use Rattle.riak_msgs.specs.declared.GetReply.{GetReply}
use Rattle.riak_msgs.specs.declared.PutReply.{PutReply}
use Rattle.riak_msgs.specs.Contents.{Content, shown}
use Rattle.sibling_register.specs.History.{Event, Operation, Write, Tombstone, count_of}
use Rattle.sibling_register.specs.Refusals.{too_many_siblings, max_siblings, is_free, first_of, option_checks}
use Rattle.sibling_register.specs.Answers.{GetCommand, PutCommand, DelCommand, AskPut, AskDel, Told, Refused as ToldRefused, Shown, Done, Reaped, Kept}
use Rattle.actor_epoch.specs.Given.{Context, Pairs}
use Rattle.vnode_machine.specs.Machine.{State, same_context, holds_dead}
use Rattle.vnode_machine.specs.Replay.{IsWithinLimits}
use Rattle.vnode_machine.specs.Replies.{context_in, get_reply, position_at}
use Rattle.vnode_machine.specs.Step.{PutDone, DelDone, MachineOutcome, Refused, Answered, Accepted, outcome}
use Rattle.copy_laws.specs.Copies.{commands_of, brought}
use Rattle.copy_laws.specs.Sides.{Partition, Number, dot_at, content_at, siblings_at, is_defined_at, is_present_at, is_dead_at}
use Rattle.copy_laws.specs.CopyReplay.{primary_after, name_at, seen_at}
use Rattle.copy_laws.specs.Joining.{Log}
use Rattle.copy_laws.specs.Leaving.{saw_number}
use Rattle.copy_laws.specs.Diversions.{Course, AtPrimary, is_diverted, primary_of, GivesShownInCourse, HappensTo}

-- the ids and the last epochs that a partition's vnodes can have
pub record AreWithinLimits (partition : Partition) : Type 0 where
  pub primary : IsWithinLimits partition.primary partition.last_epoch
  pub fallbacks : (n : ℕ) → n ≤ partition.diversions → IsWithinLimits partition.fallback (partition.opened n)

-- a refusal: by the check that holds first, or else a free one. A context that was shown isn't bad
abbrev pub MayRefuseBy : Option ℕ → ℕ → Type 0
MayRefuseBy check number = MatchOption check (IsTrue (is_free number)) (λ first. number ≡ first)

module _ (partition : Partition) where
  -- whether an optional context is the name of the key at this position
  abbrev pub is_name_at : Log → Key → Option Context → Bool
  is_name_at position key None = false
  is_name_at position key (Some context) = same_context context (name_at partition position key)

  -- the register's answer to a get, over the siblings of all sides
  abbrev pub get_told_at : Log → GetCommand Context → Told Number
  get_told_at position get =
      if not (is_defined_at partition position get.key) then Shown [] None false false
      else if is_dead_at partition position get.key
      then (if get.deletedvclock then Shown [] (Some (length position)) false false else Shown [] None false false)
      else if is_name_at position get.key get.if_modified then Shown [] None true false
      else Shown (siblings_at partition position get.key) (Some (length position)) false get.head

  -- the reply that shows an answer: each sibling's content, and the context of the position that is named
  abbrev pub get_shown_at : Log → Key → Told Number → GetReply
  get_shown_at log key (Shown siblings None unchanged bare) = record {
    contents = map (λ number. shown bare (content_at partition log (brought log key) key number)) siblings;
    context = [];
    unchanged = unchanged;
  }
  get_shown_at log key (Shown siblings (Some position) unchanged bare) = record {
    contents = map (λ number. shown bare (content_at partition log (brought log key) key number)) siblings;
    context = context_in (primary_after partition (position_at log position)) key;
    unchanged = unchanged;
  }
  get_shown_at log key (ToldRefused number) = record { contents = []; context = []; unchanged = false }
  get_shown_at log key Done = record { contents = []; context = []; unchanged = false }
  get_shown_at log key Reaped = record { contents = []; context = []; unchanged = false }
  get_shown_at log key Kept = record { contents = []; context = []; unchanged = false }

  -- in each course, at every moment, a get at the primary is answered as the register answers it
  abbrev pub CoursesAnswerGets : Course → Type 0
  CoursesAnswerGets course =
      (partition.primary < partition.fallback) → (get : GetCommand Context) → HappensTo partition get.key course
      → get_reply (primary_after partition (primary_of partition course)) get
      ≡ get_shown_at (primary_of partition course) get.key (get_told_at (primary_of partition course) get)

  -- and a reap there forgets exactly a dead key
  abbrev pub CoursesReapDead : Course → Type 0
  CoursesReapDead course =
      (partition.primary < partition.fallback) → (key : Key) → HappensTo partition key course
      → holds_dead (primary_after partition (primary_of partition course)) key ≡ is_dead_at partition (primary_of partition course) key

  -- the write or delete that a command is at the end of a log: it saw what it has to see
  abbrev pub update_at : Log → Key → Option Context → Operation Content → Event Content Context
  update_at log key context operation = record {
    key = key;
    operation = operation;
    context = context;
    saw = seen_at partition log key context operation;
  }

  -- the siblings that it didn't see
  abbrev pub unseen_at : Log → Event Content Context → List Number
  unseen_at log event =
      filter (λ number. not (option_map_or (saw_number event log number) (dot_at partition log (brought log event.key) event.key number) false))
      (siblings_at partition log event.key)

  -- as many siblings as a key may have weren't seen, so that with one more they were too many
  abbrev pub has_too_many_at : Log → Event Content Context → Bool
  has_too_many_at log event = nat_le max_siblings (length (unseen_at log event))

  abbrev pub put_event_at : Log → PutCommand Content Context → Event Content Context
  put_event_at log put = update_at log put.key put.context (Write put.value)

  abbrev pub del_event_at : Log → DelCommand Context → Event Content Context
  del_event_at log del = update_at log del.key del.context Tombstone

  -- the first of a put's checks that holds; the siblings that may stay, 63, are those of all sides
  abbrev pub put_refusal_at : Log → PutCommand Content Context → Option ℕ
  put_refusal_at log put =
      first_of (
      option_checks put.if_none_match put.if_not_modified (is_present_at partition log put.key) (is_name_at log put.key put.context)
      ++ (has_too_many_at log (put_event_at log put), too_many_siblings) ∷ [])

  -- the check of a delete
  abbrev pub del_refusal_at : Log → DelCommand Context → Option ℕ
  del_refusal_at log del = if has_too_many_at log (del_event_at log del) then Some too_many_siblings else None

  -- a delete without context of an absent key does nothing
  abbrev pub does_nothing_at : Log → DelCommand Context → Bool
  does_nothing_at log del = is_none del.context && not (is_defined_at partition log del.key)

  -- the register's answer to an accepted put, by the log that it ends
  abbrev pub put_told_at : Log → PutCommand Content Context → Told Number
  put_told_at log put =
      if put.return_body || put.return_head
      then Shown (siblings_at partition log put.key) (Some (length log)) false (not put.return_body)
      else Done

  -- and the reply that shows it
  abbrev pub put_shown_at : Log → Key → Told Number → PutReply
  put_shown_at log key told =
      let reply = get_shown_at log key told in
      record { contents = reply.contents; context = reply.context }

  -- the command is what happens next, and leads to this state; after it the siblings are those that it didn't see, and the
  -- command's own number before them
  pub record IsNextAt (course : Course) (event : Event Content Context) (next : State Content) : Type 0 where
    pub happens : HappensTo partition event.key (AtPrimary event ∷ course)
    pub leads : next ≡ primary_after partition (primary_of partition (AtPrimary event ∷ course))
    pub siblings : siblings_at partition (primary_of partition (AtPrimary event ∷ course)) event.key
        ≡ (let number : Number = record { side = 0; number = suc (count_of (commands_of (primary_of partition course)) event.key) } in number)
        ∷ unseen_at (primary_of partition course) event

  -- the outcomes of a put
  abbrev pub PutGivesAt : Course → PutCommand Content Context → MachineOutcome → Type 0
  PutGivesAt course put (Refused number) = MayRefuseBy (put_refusal_at (primary_of partition course) put) number
  PutGivesAt course put (Answered response) = ⊥
  PutGivesAt course put (Accepted operation response next) =
      let event = put_event_at (primary_of partition course) put in
      let after = primary_of partition (AtPrimary event ∷ course) in
      (put_refusal_at (primary_of partition course) put ≡ None)
      × (operation ≡ Write put.value)
      × IsNextAt course event next
      × (response ≡ PutDone (put_shown_at after put.key (put_told_at after put)))

  -- and those of a delete
  abbrev pub DelGivesAt : Course → DelCommand Context → MachineOutcome → Type 0
  DelGivesAt course del (Refused number) =
      (does_nothing_at (primary_of partition course) del ≡ false) × MayRefuseBy (del_refusal_at (primary_of partition course) del) number
  DelGivesAt course del (Answered response) = IsTrue (does_nothing_at (primary_of partition course) del) × (response ≡ DelDone)
  DelGivesAt course del (Accepted operation response next) =
      (does_nothing_at (primary_of partition course) del ≡ false)
      × (del_refusal_at (primary_of partition course) del ≡ None)
      × (operation ≡ Tombstone)
      × IsNextAt course (del_event_at (primary_of partition course) del) next
      × (response ≡ DelDone)

  -- a write or delete may be asked at the primary: it isn't diverted, and a context that is given was shown for the key, where
  -- it was defined, since an absent key shows none
  pub record MayAsk (course : Course) (event : Event Content Context) : Type 0 where
    pub here : is_diverted course ≡ false
    pub shown : GivesShownInCourse partition course event
    pub some : (context : Context) → event.context ≡ Some context → context ≢ Pairs []

  -- in each course, at every moment, what comes of a put at the primary is what the register may give
  abbrev pub CoursesAnswerPuts : Course → Type 0
  CoursesAnswerPuts course =
      (partition.primary < partition.fallback) → AreWithinLimits partition → (put : PutCommand Content Context) → HappensTo partition put.key course
      → MayAsk course (put_event_at (primary_of partition course) put)
      → PutGivesAt course put (outcome (primary_after partition (primary_of partition course)) (AskPut put))

  -- and of a delete
  abbrev pub CoursesAnswerDels : Course → Type 0
  CoursesAnswerDels course =
      (partition.primary < partition.fallback) → AreWithinLimits partition → (del : DelCommand Context) → HappensTo partition del.key course
      → MayAsk course (del_event_at (primary_of partition course) del)
      → DelGivesAt course del (outcome (primary_after partition (primary_of partition course)) (AskDel del))

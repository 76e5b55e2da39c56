-- Legal logs with copies, key by key, and what the sibling register answers at the end of one: of a put or a delete with any
-- context that covers no dot of a fallback but such that copies had brought.
use Rattle.std.specs.Prelude.{◌≡◌, ◌⊎◌, ◌↔◌, ◌<◌, ◌++◌, false, ◌∷◌, ℕ, suc, Option, None, IsTrue, MatchOption}
use Rattle.riak_msgs.specs.declared.Key.{Key}
use Rattle.riak_msgs.specs.Contents.{Content}
use Rattle.riak_msgs.specs.KeyOrder.{key_eq}
use Rattle.sibling_register.specs.History.{Event, Write, Tombstone, Reap, count_of}
use Rattle.sibling_register.specs.Refusals.{bad_context}
use Rattle.sibling_register.specs.Answers.{GetCommand, PutCommand, DelCommand, RegisterAsk, AskGet, AskPut, AskDel, AskReap}
use Rattle.actor_epoch.specs.declared.Dot.{Dot}
use Rattle.actor_epoch.specs.Dots.{covers}
use Rattle.actor_epoch.specs.Given.{Context}
use Rattle.vnode_machine.specs.Machine.{State, is_held, holds_dead, pairs_of, same_context}
use Rattle.vnode_machine.specs.Replay.{replay}
use Rattle.vnode_machine.specs.Replies.{get_reply}
use Rattle.vnode_machine.specs.Registers.{key_of, context_in_ask}
use Rattle.vnode_machine.specs.Step.{GetDone, PutDone, DelDone, ReapDone, ReapKept, MachineOutcome, Refused, Answered, Accepted, outcome}
use Rattle.copy_laws.specs.Copies.{Copy, Command, commands_of}
use Rattle.copy_laws.specs.Sides.{Partition, Number, siblings_at, is_defined_at, is_dead_at}
use Rattle.copy_laws.specs.CopyReplay.{primary_after, name_at, named_at, AcceptsEntry, IsUntouchedBy}
use Rattle.copy_laws.specs.Joining.{Log, Fallbacks, IsHandOff, SidesRise, NamesWhatCame, HasDot, HasCome, StandsCopy}
use Rattle.copy_laws.specs.Diversions.{Course, fallback_of, primary_of, HappensTo}
use Rattle.copy_laws.specs.JointAnswers.{AreWithinLimits, MayRefuseBy, get_told_at, get_shown_at, update_at, put_event_at, del_event_at, put_refusal_at, del_refusal_at, does_nothing_at, unseen_at, put_told_at, put_shown_at}

-- a log is legal for a key: it is a hand-off of it, sides rise, contexts name what was there, each copy is of a key that its
-- fallback had, and the primary isn't closed
pub record IsLegalLog (partition : Partition) (log : Log) (fallbacks : Fallbacks) (key : Key) : Type 0 where
  pub hand_off : IsHandOff partition log fallbacks key
  pub rise : SidesRise partition fallbacks
  pub came : NamesWhatCame partition log fallbacks key
  pub had : (later before : Log) (copy : Copy Content) → StandsCopy partition log fallbacks key later copy before
      → IsTrue (is_held (replay partition.fallback (partition.opened copy.diversion) copy.prefix) key)
  pub open_still : (primary_after partition log).closed ≡ None

module _ (partition : Partition) (log : Log) (fallbacks : Fallbacks) where
  -- so was each position of it
  abbrev pub LogsWereLegal : Type 0
  LogsWereLegal =
      (key : Key) → IsLegalLog partition log fallbacks key → (later position : Log) → later ++ position ≡ log → IsLegalLog partition position fallbacks key

  -- the primary stores just the keys that are defined
  abbrev pub LogsHoldDefined : Type 0
  LogsHoldDefined = (key : Key) → IsLegalLog partition log fallbacks key → is_held (primary_after partition log) key ≡ is_defined_at partition log key

  -- two positions of a key that are defined show the same context just where no entry that counts lies between
  abbrev pub LogsNamePositions : Type 0
  LogsNamePositions =
      (key : Key) → IsLegalLog partition log fallbacks key → (later between position : Log) → later ++ (between ++ position) ≡ log
      → IsTrue (is_defined_at partition position key) → IsTrue (is_defined_at partition (between ++ position) key)
      → IsTrue (same_context (name_at partition position key) (name_at partition (between ++ position) key)) ↔ IsUntouchedBy partition between position key

  -- a get is answered as the register answers it
  abbrev pub LogsAnswerGets : Type 0
  LogsAnswerGets =
      (get : GetCommand Context) → IsLegalLog partition log fallbacks get.key
      → get_reply (primary_after partition log) get ≡ get_shown_at partition log get.key (get_told_at partition log get)

  -- and a reap forgets exactly a dead key
  abbrev pub LogsReapDead : Type 0
  LogsReapDead = (key : Key) → IsLegalLog partition log fallbacks key → holds_dead (primary_after partition log) key ≡ is_dead_at partition log key

  -- of the fallbacks' dots the context covers just such that copies had brought
  abbrev pub CoversBrought : Key → Option Context → Type 0
  CoversBrought key context =
      (dot : Dot) → dot.actor.vnode ≡ partition.fallback → IsTrue (covers (pairs_of context) dot)
      → (number : Number) × HasDot partition log fallbacks key number dot × HasCome partition log fallbacks key log number

  -- a log goes on with each command that the machine accepts, of whatever key: it is legal with it too
  abbrev pub LogsGoOn : Type 0
  LogsGoOn =
      (key : Key) → IsLegalLog partition log fallbacks key → (event : Event Content Context) → AcceptsEntry partition key log (Command event)
      → (IsTrue (key_eq event.key key) → CoversBrought key event.context) → IsLegalLog partition (Command event ∷ log) fallbacks key

  -- the context is given, and names no position of the key
  abbrev pub NamesNoneAt : Key → Option Context → Type 0
  NamesNoneAt key context = MatchOption context (⊥) (λ given. named_at partition log key given ≡ None)

  -- a refusal: bad context, where the context names no position; else the check that holds first; else a free one
  abbrev pub MayRefuseAt : Key → Option Context → Option ℕ → ℕ → Type 0
  MayRefuseAt key context check number = ((number ≡ bad_context) × NamesNoneAt key context) ⊎ MayRefuseBy check number

  -- the command is the next entry, and leads to this state: the log is legal with it, and after it the siblings are its own
  -- number and those that it didn't see
  pub record IsNextOf (event : Event Content Context) (next : State Content) : Type 0 where
    pub legal : IsLegalLog partition (Command event ∷ log) fallbacks event.key
    pub leads : next ≡ primary_after partition (Command event ∷ log)
    pub siblings : siblings_at partition (Command event ∷ log) event.key
        ≡ (let number : Number = record { side = 0; number = suc (count_of (commands_of log) event.key) } in number) ∷ unseen_at partition log event

  -- the outcomes of a put
  abbrev pub PutGivesOf : PutCommand Content Context → MachineOutcome → Type 0
  PutGivesOf put (Refused number) = MayRefuseAt put.key put.context (put_refusal_at partition log put) number
  PutGivesOf put (Answered response) = ⊥
  PutGivesOf put (Accepted operation response next) =
      let event = put_event_at partition log put in
      let after = Command event ∷ log in
      (put_refusal_at partition log put ≡ None)
      × (operation ≡ Write put.value)
      × IsNextOf event next
      × (response ≡ PutDone (put_shown_at partition after put.key (put_told_at partition after put)))

  -- those of a delete
  abbrev pub DelGivesOf : DelCommand Context → MachineOutcome → Type 0
  DelGivesOf del (Refused number) =
      (does_nothing_at partition log del ≡ false) × MayRefuseAt del.key del.context (del_refusal_at partition log del) number
  DelGivesOf del (Answered response) = IsTrue (does_nothing_at partition log del) × (response ≡ DelDone)
  DelGivesOf del (Accepted operation response next) =
      (does_nothing_at partition log del ≡ false)
      × (del_refusal_at partition log del ≡ None)
      × (operation ≡ Tombstone)
      × IsNextOf (del_event_at partition log del) next
      × (response ≡ DelDone)

  -- and of a reap: where the key is dead it is the next entry, after which the key is absent; else it is kept
  abbrev pub ReapGivesOf : Key → MachineOutcome → Type 0
  ReapGivesOf key (Refused number) = ⊥
  ReapGivesOf key (Answered response) = (is_dead_at partition log key ≡ false) × (response ≡ ReapKept)
  ReapGivesOf key (Accepted operation response next) =
      let after = Command (update_at partition log key None Reap) ∷ log in
      IsTrue (is_dead_at partition log key)
      × (operation ≡ Reap)
      × IsLegalLog partition after fallbacks key
      × (next ≡ primary_after partition after)
      × (is_defined_at partition after key ≡ false)
      × (response ≡ ReapDone)

  -- what comes of a put, of a delete and of a reap is what the register may give
  abbrev pub LogsAnswerPuts : Type 0
  LogsAnswerPuts =
      AreWithinLimits partition → (put : PutCommand Content Context) → IsLegalLog partition log fallbacks put.key → CoversBrought put.key put.context
      → PutGivesOf put (outcome (primary_after partition log) (AskPut put))

  abbrev pub LogsAnswerDels : Type 0
  LogsAnswerDels =
      AreWithinLimits partition → (del : DelCommand Context) → IsLegalLog partition log fallbacks del.key → CoversBrought del.key del.context
      → DelGivesOf del (outcome (primary_after partition log) (AskDel del))

  abbrev pub LogsAnswerReaps : Type 0
  LogsAnswerReaps = (key : Key) → IsLegalLog partition log fallbacks key → ReapGivesOf key (outcome (primary_after partition log) (AskReap key))

  -- so what comes of an ask is what the register may give at the end of the log
  abbrev pub IsOfLog : RegisterAsk Content Context → MachineOutcome → Type 0
  IsOfLog (AskGet get) result = result ≡ Answered (GetDone (get_shown_at partition log get.key (get_told_at partition log get)))
  IsOfLog (AskPut put) result = PutGivesOf put result
  IsOfLog (AskDel del) result = DelGivesOf del result
  IsOfLog (AskReap key) result = ReapGivesOf key result

-- at each log that led to the state and is legal for the ask's key, whose context covers of the fallbacks' dots just such that
-- copies had brought
abbrev pub AtEachLog : State Content → RegisterAsk Content Context → ((partition : Partition) → Log → Fallbacks → Type 0) → Type 0
AtEachLog state ask Holds =
    (partition : Partition) (log : Log) (fallbacks : Fallbacks) → AreWithinLimits partition → primary_after partition log ≡ state
    → IsLegalLog partition log fallbacks (key_of ask) → CoversBrought partition log fallbacks (key_of ask) (context_in_ask ask) → Holds partition log fallbacks

-- what comes of an ask is the register's over the numbers of all sides
abbrev pub StepIsOfLogs : State Content → RegisterAsk Content Context → Type 0
StepIsOfLogs state ask = AtEachLog state ask (λ partition log fallbacks. IsOfLog partition log fallbacks ask (outcome state ask))

-- what comes of a course is legal for each key to which it happens
abbrev pub CoursesAreLegal : Partition → Course → Type 0
CoursesAreLegal partition course =
    (partition.primary < partition.fallback) → (key : Key) → HappensTo partition key course → IsLegalLog partition (primary_of partition course) (fallback_of course) key

-- What a call is answered at the end of a log: by the machine; and at a partition's own site, behind copies too, by the register, over
-- the numbers of all sides. An accepted command is the log's next entry.
use Rattle.std.specs.Prelude.{◌≡◌, true, false, [], ◌∷◌, ℕ, suc, None, Result, Ok, Err, MatchBool, IsTrue}
use Rattle.riak_msgs.specs.declared.Key.{Key}
use Rattle.riak_msgs.specs.Contents.{Content}
use Rattle.riak_msgs.specs.KeyOrder.{key_eq}
use Rattle.sibling_register.specs.History.{Event, Operation, Write, Tombstone, Reap, count_of}
use Rattle.sibling_register.specs.Answers.{RegisterAsk, AskGet, AskPut, AskDel, AskReap, GetCommand, PutCommand, DelCommand}
use Rattle.actor_epoch.specs.Given.{Context}
use Rattle.vnode_machine.specs.Step.{Response, GetDone, PutDone, DelDone, ReapDone, ReapKept, MachineOutcome, Refused, Answered, Accepted}
use Rattle.copy_laws.specs.Copies.{Command, Copied, Closed, commands_of}
use Rattle.copy_laws.specs.Sides.{Partition, Number, siblings_at, is_defined_at, is_dead_at}
use Rattle.copy_laws.specs.CopyReplay.{seen_at}
use Rattle.copy_laws.specs.Joining.{Log}
use Rattle.copy_laws.specs.JointAnswers.{MayRefuseBy, has_too_many_at, get_told_at, get_shown_at, update_at, unseen_at, put_event_at, del_event_at, put_refusal_at, del_refusal_at, does_nothing_at, put_told_at, put_shown_at}
use Rattle.node_steps.specs.Steps.{event_at}

-- the log after what the machine does with an ask: one command longer where it is accepted
abbrev pub log_by : (id last_epoch : ℕ) → Log → RegisterAsk Content Context → MachineOutcome → Log
log_by id last_epoch log ask (Refused number) = log
log_by id last_epoch log ask (Answered response) = log
log_by id last_epoch log ask (Accepted operation response next) = Command (event_at id last_epoch log ask operation) ∷ log

module _ (partition : Partition) (log : Log) where
  -- a write or delete is the log's next entry, after which the key's siblings are its own number and those that it didn't see
  pub record IsAcceptedAt (event : Event Content Context) (later : Log) : Type 0 where
    pub log_is : later ≡ Command event ∷ log
    pub siblings : siblings_at partition later event.key
        ≡ (let number : Number = record { side = 0; number = suc (count_of (commands_of log) event.key) } in number) ∷ unseen_at partition log event

  -- a get is shown the siblings of all sides
  abbrev pub GetTold : GetCommand Context → Result Response ℕ → Log → Type 0
  GetTold get reply later = (reply ≡ Ok (GetDone (get_shown_at partition log get.key (get_told_at partition log get)))) × (later ≡ log)

  -- a put is refused by the first check that holds, or else by a free one, or is accepted, and is shown the siblings after it
  abbrev pub PutTold : PutCommand Content Context → Result Response ℕ → Log → Type 0
  PutTold put (Err number) later = MayRefuseBy (put_refusal_at partition log put) number × (later ≡ log)
  PutTold put (Ok response) later =
      (put_refusal_at partition log put ≡ None)
      × IsAcceptedAt (put_event_at partition log put) later
      × (response ≡ PutDone (put_shown_at partition later put.key (put_told_at partition later put)))

  -- a delete does nothing, or is refused, or accepted
  abbrev pub DelTold : DelCommand Context → Result Response ℕ → Log → Type 0
  DelTold del (Err number) later = (does_nothing_at partition log del ≡ false) × MayRefuseBy (del_refusal_at partition log del) number × (later ≡ log)
  DelTold del (Ok response) later =
      (response ≡ DelDone)
      × MatchBool (does_nothing_at partition log del)
      (later ≡ log)
      ((del_refusal_at partition log del ≡ None) × IsAcceptedAt (del_event_at partition log del) later)

  -- a reap forgets exactly a dead key
  abbrev pub ReapTold : Key → Result Response ℕ → Log → Type 0
  ReapTold key reply later =
      MatchBool (is_dead_at partition log key)
      ((reply ≡ Ok ReapDone) × (later ≡ Command (update_at partition log key None Reap) ∷ log))
      ((reply ≡ Ok ReapKept) × (later ≡ log))

  -- the register accepts an event that does this: a write or delete that leaves fewer siblings unseen than a key may have; a delete
  -- without context of a key that is defined alone, and a reap of a dead one alone
  abbrev pub AcceptsBy : Event Content Context → Operation Content → Type 0
  AcceptsBy event (Write content) = has_too_many_at partition log event ≡ false
  AcceptsBy event Tombstone = (has_too_many_at partition log event ≡ false) × (event.context ≡ None → is_defined_at partition log event.key ≡ true)
  AcceptsBy event Reap = is_dead_at partition log event.key ≡ true

  -- what the register may answer to an ask at the end of the log, and the log afterwards
  abbrev pub IsToldAt : RegisterAsk Content Context → Result Response ℕ → Log → Type 0
  IsToldAt (AskGet get) reply later = GetTold get reply later
  IsToldAt (AskPut put) reply later = PutTold put reply later
  IsToldAt (AskDel del) reply later = DelTold del reply later
  IsToldAt (AskReap key) reply later = ReapTold key reply later

-- a log is legal for the key over the numbers of all sides: each command of it saw what it had to see, and the register accepts it where
-- it stands. It asks nothing of contexts, unlike the law's own (`IsLegalLog` of copy_laws), which has that law's premises
abbrev pub IsLegalOver : Partition → Key → Log → Type 0
IsLegalOver partition key [] = Unit {0}
IsLegalOver partition key (Command event ∷ before) =
    IsLegalOver partition key before
    × (IsTrue (key_eq event.key key)
    → (event.saw ≡ seen_at partition before event.key event.context event.operation) × AcceptsBy partition before event event.operation)
IsLegalOver partition key (Copied copy ∷ before) = IsLegalOver partition key before
IsLegalOver partition key (Closed number ∷ before) = IsLegalOver partition key before

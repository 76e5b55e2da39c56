-- What the register answers at the end of a history, and which event follows.
use Rattle.std.specs.Prelude.{◌≡◌, Bool, true, false, not, MatchBool, is_none, ◌&&◌, ◌||◌, ◌⊎◌, if◌then◌else◌, List, [], ◌∷◌, ◌++◌, ℕ, length, count_by, Option, Some, None, IsTrue, MatchOption, nat_le}
use Rattle.riak_msgs.specs.declared.key.Key.{Key}
use Rattle.sibling_register.specs.History.{Event, Write, Tombstone, Reap, count_of, numbers_to}
use Rattle.sibling_register.specs.Siblings.{siblings, is_among, is_defined, is_present, is_dead}
use Rattle.sibling_register.specs.Naming.{Naming, named, PutSees, DelSees}
use Rattle.sibling_register.specs.Refusals.{bad_context, too_many_siblings, max_siblings, is_free, first_of, option_checks}

-- what the register answers, N being what its siblings' sequence numbers are: it refuses by the number of a check; it
-- shows siblings in their order, and the name of a position where one is given, or that nothing was modified, or the
-- siblings with bare contents; it is done; it forgot the key, or kept it
pub data Told (N : Type 0) : Type 0 where
  Refused : (number : ℕ) → Told N
  Shown : (siblings : List N) (position : Option ℕ) (unchanged bare : Bool) → Told N
  Done : Told N
  Reaped : Told N
  Kept : Told N

pub record GetCommand (C : Type 0) : Type 0 where
  pub key : Key
  pub if_modified : Option C
  pub head : Bool
  pub deletedvclock : Bool

pub record PutCommand (V C : Type 0) : Type 0 where
  pub key : Key
  pub context : Option C
  pub value : V
  pub return_body : Bool
  pub return_head : Bool
  pub if_not_modified : Bool
  pub if_none_match : Bool

pub record DelCommand (C : Type 0) : Type 0 where
  pub key : Key
  pub context : Option C

-- what the register is asked
pub data RegisterAsk (V C : Type 0) : Type 0 where
  AskGet : GetCommand C → RegisterAsk V C
  AskPut : PutCommand V C → RegisterAsk V C
  AskDel : DelCommand C → RegisterAsk V C
  AskReap : Key → RegisterAsk V C

-- its outcome: an answer alone, or an event and the answer to it
pub data RegisterOutcome (V C : Type 0) : Type 0 where
  Answers : Told ℕ → RegisterOutcome V C
  Accepts : Event V C → Told ℕ → RegisterOutcome V C

-- an absent key shows nothing
abbrev pub nothing_shown : Told ℕ
nothing_shown = Shown [] None false false

module _ {V C : Type 0} where
  -- whether an optional context is the name of the key at the end of the history
  abbrev pub is_name : Naming V C → List (Event V C) → Key → Option C → Bool
  is_name naming history key None = false
  is_name naming history key (Some context) = naming.same context (naming.name history key)

  -- all siblings, and the name of this position
  abbrev pub all_shown : List (Event V C) → Key → Bool → Told ℕ
  all_shown history key bare = Shown (siblings history key) (Some (length history)) false bare

  -- the answer to a get
  abbrev pub get_told : Naming V C → List (Event V C) → GetCommand C → Told ℕ
  get_told naming history get =
      if not (is_defined history get.key) then nothing_shown
      else if is_dead history get.key
      then (if get.deletedvclock then Shown [] (Some (length history)) false false else nothing_shown)
      else if is_name naming history get.key get.if_modified then Shown [] None true false
      else all_shown history get.key get.head

  -- as many siblings as a key may have aren't in what was seen, so that with one more they were too many
  abbrev pub has_too_many : List (Event V C) → Key → List ℕ → Bool
  has_too_many history key saw =
      nat_le max_siblings (count_by (λ number. not (is_among saw number)) (siblings history key))

  -- the first of a put's checks that holds
  abbrev pub put_refusal : Naming V C → List (Event V C) → PutCommand V C → List ℕ → Option ℕ
  put_refusal naming history put saw =
      first_of (
      option_checks put.if_none_match put.if_not_modified (is_present history put.key) (is_name naming history put.key put.context)
      ++ (has_too_many history put.key saw, too_many_siblings) ∷ [])

  -- the answer to an accepted put, by the history that it ends
  abbrev pub put_told : List (Event V C) → PutCommand V C → Told ℕ
  put_told history put =
      if put.return_body || put.return_head then all_shown history put.key (not put.return_body) else Done

  -- the context is given and names no position of the key
  abbrev pub NamesNone : Naming V C → List (Event V C) → Key → Option C → Type 0
  NamesNone naming history key context = MatchOption context (⊥) (λ given. named naming history key given ≡ None)

  -- a refusal: bad context, where the context names no position; else the check that holds first; else a free one
  abbrev pub MayRefuse : Naming V C → List (Event V C) → Key → Option C → Option ℕ → ℕ → Type 0
  MayRefuse naming history key context check number =
      ((number ≡ bad_context) × NamesNone naming history key context)
      ⊎ MatchOption check (IsTrue (is_free number)) (λ first. number ≡ first)

  -- the outcomes of a put that saw these sequence numbers
  abbrev pub PutGives : Naming V C → List (Event V C) → PutCommand V C → List ℕ → RegisterOutcome V C → Type 0
  PutGives naming history put saw (Answers (Refused number)) =
      MayRefuse naming history put.key put.context (put_refusal naming history put saw) number
  PutGives naming history put saw (Accepts event told) =
      (put_refusal naming history put saw ≡ None)
      × (event ≡ record { key = put.key; operation = Write put.value; context = put.context; saw = saw })
      × (told ≡ put_told (event ∷ history) put)
  PutGives naming history put saw (Answers (Shown siblings position unchanged bare)) = ⊥
  PutGives naming history put saw (Answers Done) = ⊥
  PutGives naming history put saw (Answers Reaped) = ⊥
  PutGives naming history put saw (Answers Kept) = ⊥

  -- the check of a delete
  abbrev pub del_refusal : List (Event V C) → Key → List ℕ → Option ℕ
  del_refusal history key saw = if has_too_many history key saw then Some too_many_siblings else None

  -- the outcomes of a delete that does something and saw these sequence numbers
  abbrev pub DelGives : Naming V C → List (Event V C) → DelCommand C → List ℕ → RegisterOutcome V C → Type 0
  DelGives naming history del saw (Answers (Refused number)) =
      MayRefuse naming history del.key del.context (del_refusal history del.key saw) number
  DelGives naming history del saw (Accepts event told) =
      (del_refusal history del.key saw ≡ None)
      × (event ≡ record { key = del.key; operation = Tombstone; context = del.context; saw = saw })
      × (told ≡ Done)
  DelGives naming history del saw (Answers (Shown siblings position unchanged bare)) = ⊥
  DelGives naming history del saw (Answers Done) = ⊥
  DelGives naming history del saw (Answers Reaped) = ⊥
  DelGives naming history del saw (Answers Kept) = ⊥

  -- a delete without context of an absent key does nothing
  abbrev pub does_nothing : List (Event V C) → DelCommand C → Bool
  does_nothing history del = is_none del.context && not (is_defined history del.key)

  -- the outcome of a reap: a dead key is forgotten by an event that saw every number of it; any other is kept
  abbrev pub reap_outcome : List (Event V C) → Key → RegisterOutcome V C
  reap_outcome history key =
      if is_dead history key
      then Accepts (record { key = key; operation = Reap; context = None; saw = numbers_to (count_of history key) }) Reaped
      else Answers Kept

  -- the outcomes of an ask at the end of this history
  abbrev pub MayGive : Naming V C → List (Event V C) → RegisterAsk V C → RegisterOutcome V C → Type 0
  MayGive naming history (AskGet get) outcome = outcome ≡ Answers (get_told naming history get)
  MayGive naming history (AskPut put) outcome =
      (saw : List ℕ) × PutSees naming history put.key put.context saw × PutGives naming history put saw outcome
  MayGive naming history (AskDel del) outcome =
      MatchBool (does_nothing history del)
      (outcome ≡ Answers Done)
      ((saw : List ℕ) × DelSees naming history del.key del.context saw × DelGives naming history del saw outcome)
  MayGive naming history (AskReap key) outcome = outcome ≡ reap_outcome history key

-- The plain register's list of accepted commands, oldest first, and the history that it encodes.
use Rattle.std.specs.Prelude.{◌≡◌, Bool, false, not, ◌||◌, ◌&&◌, ◌==◌, List, ◌∷◌, ℕ, length, map, reverse, filter, count_by, nat_le, nat_lt, if◌then◌else◌, Option, Some, None, unwrap_or}
use Rattle.riak_msgs.specs.declared.key.Key.{Key}
use Rattle.sibling_register.specs.declared.entry.Entry.{Entry}
use Rattle.sibling_register.specs.declared.operation.Operation.{Operation as EntryOperation}
use Rattle.sibling_register.specs.declared.operation.Operation.TheVariants.{Write as EntryWrite, Tombstone as EntryTombstone, Reap as EntryReap}
use Rattle.sibling_register.specs.declared.planned.Planned.{Planned}
use Rattle.sibling_register.specs.declared.put.Put.{Put}
use Rattle.sibling_register.specs.declared.key_state.KeyState.{KeyState}
use Rattle.sibling_register.specs.History.{Operation, Write, Tombstone, Reap, Event, numbers_to, is_update}
use Rattle.sibling_register.specs.Answers.{Told, Shown, Done, RegisterAsk, GetCommand, PutCommand, DelCommand, RegisterOutcome, Answers, Accepts}
use Rattle.sibling_register.specs.Counting.{context_at}
use Rattle.sibling_register.specs.Plain.{answer_of}
use Rattle.sibling_register.specs.Plans.{plain_outcome}
use Rattle.sibling_register.specs.Refusals.{max_siblings}

-- a key in this state has a sibling, and no write among them
abbrev pub is_dead_by : KeyState → Bool
is_dead_by key_state = not (length key_state.siblings.items == 0) && not key_state.is_present

-- as many siblings as the limit are past the number that was seen
abbrev pub has_too_many_by : KeyState → ℕ → Bool
has_too_many_by key_state saw = nat_le max_siblings (count_by (λ n. nat_lt saw n) key_state.siblings.items)

module _ {V : Type 0} where
  -- the operation that an entry's encodes
  abbrev pub operation_of : EntryOperation V → Operation V
  operation_of (EntryWrite content) = Write content
  operation_of EntryTombstone = Tombstone
  operation_of EntryReap = Reap

  -- an entry saw the sequence numbers up to one
  abbrev pub event_of : Entry V → Event V ℕ
  event_of entry = record { key = entry.key; operation = operation_of entry.operation; context = entry.context; saw = numbers_to entry.saw }

  abbrev pub history_of : List (Entry V) → List (Event V ℕ)
  history_of entries = reverse (map event_of entries)

  -- the siblings after an entry more of the key, which has this sequence number
  abbrev pub follow_of : Entry V → ℕ → List ℕ → List ℕ
  follow_of entry number before =
      let rest = filter (λ n. nat_lt entry.saw n) before in
      if is_update (operation_of entry.operation) then number ∷ rest else rest

  abbrev pub outcome_by : Told ℕ → Option (Entry V) → RegisterOutcome V ℕ
  outcome_by told None = Answers told
  outcome_by told (Some entry) = Accepts (event_of entry) told

  -- the outcome that was planned
  abbrev pub outcome_of : Planned V → RegisterOutcome V ℕ
  outcome_of planned = outcome_by (answer_of planned.told) planned.entry

  -- the outcome of a put that nothing refuses, whose entry has this sequence number and is at this position, where the
  -- key had these siblings before
  abbrev pub accepted_put : Put V → Option ℕ → List ℕ → ℕ → ℕ → RegisterOutcome V ℕ
  accepted_put put named before number position =
      let entry : Entry V = record { key = put.key; operation = EntryWrite put.value; context = named; saw = unwrap_or named 0 } in
      Accepts (event_of entry) (if put.return_body || put.return_head
      then Shown (follow_of entry number before) (Some position) false (not put.return_body) else Done)

  -- what was planned is the outcome of the ask at the plain register
  abbrev pub IsOutcomeOf : List (Event V ℕ) → RegisterAsk V ℕ → Planned V → Type 0
  IsOutcomeOf history ask planned = outcome_of planned ≡ plain_outcome history ask

  -- the history with an entry more, where there is one
  abbrev pub kept_of : List (Event V ℕ) → Option (Entry V) → List (Event V ℕ)
  kept_of history None = history
  kept_of history (Some entry) = event_of entry ∷ history

  -- a get, the position that it gives read as a context
  abbrev pub get_of : List (Event V ℕ) → Key → Option ℕ → Bool → Bool → GetCommand ℕ
  get_of history key if_modified head deletedvclock = record {
    key = key;
    if_modified = context_at history key if_modified;
    head = head;
    deletedvclock = deletedvclock;
  }

  -- a delete, the position that it gives read as a context
  abbrev pub del_of : List (Event V ℕ) → Key → Option ℕ → DelCommand ℕ
  del_of history key context = record { key = key; context = context_at history key context }

  -- a put, the position that it gives read as a context
  abbrev pub put_of : List (Event V ℕ) → Put V → PutCommand V ℕ
  put_of history put = record {
    key = put.key;
    context = context_at history put.key put.context;
    value = put.value;
    return_body = put.return_body;
    return_head = put.return_head;
    if_not_modified = put.if_not_modified;
    if_none_match = put.if_none_match;
  }

-- What the plain register does with an ask: the definition, with what it leaves free decided.
use Rattle.std.specs.Prelude.{Bool, true, false, not, ◌&&◌, ◌==◌, List, [], ◌∷◌, ℕ, length, Option, Some, None, unwrap_or, if◌then◌else◌}
use Rattle.sibling_register.specs.History.{Event, Write, Tombstone, count_of, numbers_to}
use Rattle.sibling_register.specs.Refusals.{match_found, modified, not_found, too_many_siblings}
use Rattle.sibling_register.specs.Answers.{RegisterAsk, AskGet, AskPut, AskDel, AskReap, Told, Refused, Shown, Done, nothing_shown, PutCommand, DelCommand, RegisterOutcome, Answers, Accepts, get_told, put_refusal, put_told, del_refusal, does_nothing, reap_outcome}
use Rattle.sibling_register.specs.Counting.{by_count}

-- what the plain register saw by a context
abbrev pub saw_by : Option ℕ → List ℕ
saw_by context = numbers_to (unwrap_or context 0)

module _ {V : Type 0} where
  abbrev pub put_outcome_by : List (Event V ℕ) → PutCommand V ℕ → Option ℕ → RegisterOutcome V ℕ
  put_outcome_by history put (Some number) = Answers (Refused number)
  put_outcome_by history put None =
      let event : Event V ℕ = record { key = put.key; operation = Write put.value; context = put.context; saw = saw_by put.context } in
      Accepts event (put_told (event ∷ history) put)

  abbrev pub del_outcome_by : List (Event V ℕ) → DelCommand ℕ → List ℕ → Option ℕ → RegisterOutcome V ℕ
  del_outcome_by history del saw (Some number) = Answers (Refused number)
  del_outcome_by history del saw None =
      Accepts (record { key = del.key; operation = Tombstone; context = del.context; saw = saw }) Done

  -- what a delete saw: all, where it gives no context
  abbrev pub del_saw : List (Event V ℕ) → DelCommand ℕ → List ℕ
  del_saw history del = numbers_to (unwrap_or del.context (count_of history del.key))

  -- the outcome of an ask at the plain register
  abbrev pub plain_outcome : List (Event V ℕ) → RegisterAsk V ℕ → RegisterOutcome V ℕ
  plain_outcome history (AskGet get) = Answers (get_told by_count history get)
  plain_outcome history (AskPut put) = put_outcome_by history put (put_refusal by_count history put (saw_by put.context))
  plain_outcome history (AskDel del) =
      if does_nothing history del then Answers Done
      else del_outcome_by history del (del_saw history del) (del_refusal history del.key (del_saw history del))
  plain_outcome history (AskReap key) = reap_outcome history key

-- the first check of a put that holds
abbrev pub first_check_of : Bool → Bool → Bool → Bool → Bool → Option ℕ
first_check_of present is_name too_many if_not_modified if_none_match =
    if if_none_match && present then Some match_found
    else if (if_not_modified && not if_none_match) && not present then Some not_found
    else if (if_not_modified && not if_none_match) && not is_name then Some modified
    else if too_many then Some too_many_siblings
    else None

-- what a get shows of a key that has these siblings at this position
abbrev pub get_told_of : List ℕ → Bool → Bool → ℕ → Bool → Bool → Told ℕ
get_told_of numbers present is_name position head deletedvclock =
    if length numbers == 0 then nothing_shown
    else if not present
    then (if deletedvclock then Shown [] (Some position) false false else nothing_shown)
    else if is_name then Shown [] None true false
    else Shown numbers (Some position) false head

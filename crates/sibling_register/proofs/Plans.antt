-- The outcomes that the plans of a get, a put and a delete are.
use Rattle.std.proofs.Common.{◌≡◌, ℕ, suc, ◌+◌, Bool, true, false, not, ◌&&◌, cond, List, [], ◌∷◌, length, refl, sym, ◌∙◌, ap, add-one}
use Rattle.std.specs.Prelude.{Option, Some, None, nat_lt, nat_le, nat_eq, unwrap_or, count_by, is_none, ◌==◌, ◌||◌, map}
use Rattle.std.specs.Option.{option_eq}
use Rattle.std.proofs.lemmas.List.{length-map, length-reverse}
use Rattle.std.proofs.lemmas.List.Sums.{length-filter}
use Rattle.std.specs.Str.{bytes_eq}
use Rattle.riak_msgs.specs.declared.key.Key.{Key}
use Rattle.riak_msgs.specs.KeyOrder.{key_eq}
use Rattle.sibling_register.specs.declared.entry.Entry.{Entry}
use Rattle.sibling_register.specs.declared.operation.Operation.TheVariants.{Write as EntryWrite, Tombstone as EntryTombstone}
use Rattle.sibling_register.specs.History.{Event, events_of, count_of, numbers_to}
use Rattle.sibling_register.specs.Siblings.{siblings, is_present}
use Rattle.sibling_register.specs.Refusals.{max_siblings}
use Rattle.sibling_register.specs.Answers.{Told, Refused, Shown, Done, GetCommand, PutCommand, DelCommand, AskDel, Answers, Accepts, is_name, get_told, has_too_many, put_refusal, does_nothing}
use Rattle.sibling_register.specs.Entries.{event_of, history_of, follow_of}
use Rattle.sibling_register.specs.Counting.{by_count}
use Rattle.sibling_register.specs.Plans.{saw_by, first_check_of, get_told_of, plain_outcome, put_outcome_by, del_saw}
use Rattle.sibling_register.proofs.Following.{siblings-own, unseen_by-positive, left_by-numbers_to}
use Rattle.sibling_register.proofs.Scanning.{follows}
use Rattle.std.proofs.lemmas.Bool.{eq-eqb}

bytes_eq-refl : (bytes : List ℕ) → bytes_eq bytes bytes ≡ true
bytes_eq-refl [] = refl
bytes_eq-refl (b ∷ bytes) = rw (eq-eqb b b refl) (bytes_eq-refl bytes)

not_not : (b : Bool) → b ≡ not (not b)
not_not true = refl
not_not false = refl

-- an absent key, or else one with no write
absent_or_dead : (empty present : Bool) (absent dead other : Told ℕ)
    → cond empty absent (cond (not present) dead other) ≡ cond (not (not empty)) absent (cond (not empty && not present) dead other)
absent_or_dead true present absent dead other = refl
absent_or_dead false true absent dead other = refl
absent_or_dead false false absent dead other = refl

-- each key is itself
pub key_eq-refl : (key : Key) → key_eq key key ≡ true
key_eq-refl key = rw (bytes_eq-refl key.bucket_type, bytes_eq-refl key.bucket, bytes_eq-refl key.key) refl

module _ {V : Type 0} where
  pub has_too_many-by : (history : List (Event V ℕ)) (key : Key) (saw : ℕ)
      → nat_le max_siblings (count_by (λ n. nat_lt saw n) (siblings history key)) ≡ has_too_many history key (numbers_to saw)
  has_too_many-by history key saw =
      ap (nat_le max_siblings) (sym (length-filter _ (siblings history key))
      ∙ ap length (sym (left_by-numbers_to saw (siblings history key) (unseen_by-positive [] (events_of history key))))
      ∙ length-filter _ (siblings history key))

  pub is_name-by : (history : List (Event V ℕ)) (key : Key) (context : Option ℕ)
      → option_eq nat_eq context (Some (count_of history key)) ≡ is_name by_count history key context
  is_name-by history key None = refl
  is_name-by history key (Some count) = refl

  pub length-history_of : (entries : List (Entry V)) → length (history_of entries) ≡ length entries
  length-history_of entries = length-reverse (map event_of entries) ∙ length-map entries event_of

  -- what was read of the key is what its get shows
  pub get_told-by : (history : List (Event V ℕ)) (get : GetCommand ℕ) (numbers : List ℕ) (present is_end : Bool) (position : ℕ)
      → numbers ≡ siblings history get.key → present ≡ is_present history get.key
      → is_end ≡ is_name by_count history get.key get.if_modified → position ≡ length history
      → get_told_of numbers present is_end position get.head get.deletedvclock ≡ get_told by_count history get
  get_told-by history get numbers present is_end position s p i l =
      let told : List ℕ → Bool → Bool → ℕ → Told ℕ = λ numbers present is_end position. get_told_of numbers present is_end position get.head get.deletedvclock in
      ap (λ xs. told xs present is_end position) s
      ∙ ap (λ b. told (siblings history get.key) b is_end position) p
      ∙ ap (λ b. told (siblings history get.key) (is_present history get.key) b position) i
      ∙ ap (told (siblings history get.key) (is_present history get.key) (is_name by_count history get.key get.if_modified)) l
      ∙ absent_or_dead (length (siblings history get.key) == 0) (is_present history get.key) _ _ _

  -- the siblings once the entry is kept
  pub siblings-kept : (history : List (Event V ℕ)) (entry : Entry V)
      → follow_of entry (count_of history entry.key + 1) (siblings history entry.key) ≡ siblings (event_of entry ∷ history) entry.key
  siblings-kept history entry =
      ap (λ n. follow_of entry n (siblings history entry.key)) (add-one _)
      ∙ sym (follows entry (suc (count_of history entry.key)) (siblings history entry.key) (unseen_by-positive [] (events_of history entry.key)))
      ∙ sym (siblings-own (event_of entry) history entry.key (key_eq-refl entry.key))

  -- the check that was found is the put's
  pub put_refusal-by : (history : List (Event V ℕ)) (put : PutCommand V ℕ) (numbers : List ℕ) (count : ℕ) (present : Bool)
      → numbers ≡ siblings history put.key → count ≡ count_of history put.key → present ≡ is_present history put.key
      → first_check_of present (option_eq nat_eq put.context (Some count)) (nat_le max_siblings (count_by (λ n. nat_lt (unwrap_or put.context 0) n) numbers)) put.if_not_modified put.if_none_match
      ≡ put_refusal by_count history put (saw_by put.context)
  put_refusal-by history put numbers count present s n p =
      let check : Bool → Bool → Bool → Option ℕ = λ present is_name too_many. first_check_of present is_name too_many put.if_not_modified put.if_none_match in
      let too_many : List ℕ → Bool = λ numbers. nat_le max_siblings (count_by (λ n. nat_lt (unwrap_or put.context 0) n) numbers) in
      ap (λ b. check b (option_eq nat_eq put.context (Some count)) (too_many numbers)) p
      ∙ ap (λ n. check (is_present history put.key) (option_eq nat_eq put.context (Some n)) (too_many numbers)) n
      ∙ ap (λ b. check (is_present history put.key) b (too_many numbers)) (is_name-by history put.key put.context)
      ∙ ap (check (is_present history put.key) (is_name by_count history put.key put.context))
      (ap too_many s ∙ has_too_many-by history put.key (unwrap_or put.context 0))

  -- the outcome of an accepted put
  pub put-kept : (history : List (Event V ℕ)) (put : PutCommand V ℕ) (numbers : List ℕ) (position : ℕ) (told : Told ℕ)
      → let entry : Entry V = record { key = put.key; operation = EntryWrite put.value; context = put.context; saw = unwrap_or put.context 0 } in
      numbers ≡ follow_of entry (count_of history put.key + 1) (siblings history put.key)
      → position ≡ length history + 1
      → told ≡ cond (put.return_body || put.return_head) (Shown numbers (Some position) false (not put.return_body)) Done
      → Accepts (event_of entry) told ≡ put_outcome_by history put None
  put-kept history put numbers position told n p t =
      let entry : Entry V = record { key = put.key; operation = EntryWrite put.value; context = put.context; saw = unwrap_or put.context 0 } in
      let answer : List ℕ → ℕ → Told ℕ = λ numbers position. cond (put.return_body || put.return_head) (Shown numbers (Some position) false (not put.return_body)) Done in
      ap (Accepts (event_of entry)) (t ∙ ap (λ xs. answer xs position) (n ∙ siblings-kept history entry)
      ∙ ap (answer (siblings (event_of entry ∷ history) put.key)) (p ∙ add-one (length history)))

  -- whether a delete does nothing, by what was read
  pub does_nothing-by : (history : List (Event V ℕ)) (del : DelCommand ℕ) (numbers : List ℕ) → numbers ≡ siblings history del.key
      → (is_none del.context && (length numbers == 0)) ≡ does_nothing history del
  does_nothing-by history del numbers s =
      ap (λ xs. is_none del.context && (length xs == 0)) s ∙ ap (λ b. is_none del.context && b) (not_not (length (siblings history del.key) == 0))

  -- whether it would have too many siblings, by what was read
  pub del_refusal-by : (history : List (Event V ℕ)) (del : DelCommand ℕ) (numbers : List ℕ) (saw : ℕ) → numbers ≡ siblings history del.key
      → saw ≡ unwrap_or del.context (count_of history del.key)
      → nat_le max_siblings (count_by (λ n. nat_lt saw n) numbers) ≡ has_too_many history del.key (del_saw history del)
  del_refusal-by history del numbers saw s w =
      ap (λ xs. nat_le max_siblings (count_by (λ n. nat_lt saw n) xs)) s ∙ has_too_many-by history del.key saw
      ∙ ap (λ m. has_too_many history del.key (numbers_to m)) w

  pub del_refused : (history : List (Event V ℕ)) (del : DelCommand ℕ) → does_nothing history del ≡ false
      → has_too_many history del.key (del_saw history del) ≡ true → Answers (Refused 5) ≡ plain_outcome history (AskDel del)
  del_refused history del idle many = rw (idle, many) refl

  pub del_kept : (history : List (Event V ℕ)) (del : DelCommand ℕ) (saw : ℕ) → does_nothing history del ≡ false
      → has_too_many history del.key (del_saw history del) ≡ false → saw ≡ unwrap_or del.context (count_of history del.key)
      → Accepts (event_of (record { key = del.key; operation = EntryTombstone; context = del.context; saw = saw })) Done ≡ plain_outcome history (AskDel del)
  del_kept history del saw idle many s = rw (idle, many, s) refl

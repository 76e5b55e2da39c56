-- Worked exchanges, evaluated on the definitions. Contents are numbers, and a context is how many events the key has.
use Rattle.std.proofs.Common.{◌≡◌, ℕ, zero, suc, List, [], ◌∷◌, true, false, refl, Bool}
use Rattle.std.specs.Prelude.{Option, Some, None}
use Rattle.riak_msgs.specs.declared.key.Key.{Key}
use Rattle.sibling_register.specs.History.{Event, Write, Tombstone, Reap, numbers_to}
use Rattle.sibling_register.specs.Siblings.{siblings, is_dead}
use Rattle.sibling_register.specs.Naming.{named}
use Rattle.sibling_register.specs.Refusals.{match_found, modified, not_found, too_many_siblings}
use Rattle.sibling_register.specs.Answers.{Answers, GetCommand, PutCommand, Shown, Kept, get_told, put_refusal, put_told, does_nothing, reap_outcome, nothing_shown}
use Rattle.sibling_register.specs.Counting.{by_count}

abbrev k : Key
k = record { bucket_type = 100 ∷ []; bucket = 98 ∷ []; key = 107 ∷ [] }

abbrev j : Key
j = record { bucket_type = 100 ∷ []; bucket = 98 ∷ []; key = 106 ∷ [] }

abbrev write : ℕ → Option ℕ → List ℕ → Event ℕ ℕ
write value context saw = record { key = k; operation = Write value; context = context; saw = saw }

abbrev tombstone : Option ℕ → List ℕ → Event ℕ ℕ
tombstone context saw = record { key = k; operation = Tombstone; context = context; saw = saw }

abbrev get : Option ℕ → Bool → Bool → GetCommand ℕ
get if_modified head deletedvclock = record { key = k; if_modified = if_modified; head = head; deletedvclock = deletedvclock }

abbrev put : Key → Option ℕ → Bool → Bool → PutCommand ℕ ℕ
put key context if_not_modified if_none_match = record {
  key = key;
  context = context;
  value = 9;
  return_body = false;
  return_head = false;
  if_not_modified = if_not_modified;
  if_none_match = if_none_match;
}

-- a put of v; one of w, both without context; one of x by the context after v; a delete without context; a reap
abbrev after_v : List (Event ℕ ℕ)
after_v = write 118 None [] ∷ []

abbrev after_w : List (Event ℕ ℕ)
after_w = write 119 None [] ∷ after_v

abbrev after_x : List (Event ℕ ℕ)
after_x = write 120 (Some 1) (1 ∷ []) ∷ after_w

abbrev after_delete : List (Event ℕ ℕ)
after_delete = tombstone None (3 ∷ 2 ∷ 1 ∷ []) ∷ after_x

abbrev after_reap : List (Event ℕ ℕ)
after_reap = record { key = k; operation = Reap; context = None; saw = 4 ∷ 3 ∷ 2 ∷ 1 ∷ [] } ∷ after_delete

-- a second life: a put of b without context
abbrev second_life : List (Event ℕ ℕ)
second_life = write 98 None [] ∷ after_reap

absent_key_shows_nothing : get_told (by_count {V = ℕ}) [] (get None false false) ≡ nothing_shown
absent_key_shows_nothing = refl

put_is_read_back : get_told by_count after_v (get None false false) ≡ Shown (1 ∷ []) (Some 1) false false
put_is_read_back = refl

blind_puts_make_siblings : get_told by_count after_w (get None false false) ≡ Shown (2 ∷ 1 ∷ []) (Some 2) false false
blind_puts_make_siblings = refl

context_names_its_position : named by_count after_w k 1 ≡ Some after_v
context_names_its_position = refl

context_covers_what_it_saw : get_told by_count after_x (get None false false) ≡ Shown (3 ∷ 2 ∷ []) (Some 3) false false
context_covers_what_it_saw = refl

present_key_is_a_match : put_refusal by_count after_x (put k None false true) [] ≡ Some match_found
present_key_is_a_match = refl

deleted_key_is_dead : is_dead after_delete k ≡ true
deleted_key_is_dead = refl

dead_key_shows_its_context_where_asked : get_told by_count after_delete (get None false true) ≡ Shown [] (Some 4) false false
dead_key_shows_its_context_where_asked = refl

dead_key_shows_nothing_else : get_told by_count after_delete (get None false false) ≡ nothing_shown
dead_key_shows_nothing_else = refl

reaped_key_is_absent : get_told by_count after_reap (get None false true) ≡ nothing_shown
reaped_key_is_absent = refl

live_key_is_kept : reap_outcome after_x k ≡ Answers Kept
live_key_is_kept = refl

delete_of_an_absent_key_does_nothing : does_nothing after_reap (record { key = k; context = None }) ≡ true
delete_of_an_absent_key_does_nothing = refl

-- a put of d in the second life, by a context of the first
old_context_covers_nothing : siblings (write 100 (Some 1) (1 ∷ []) ∷ second_life) k ≡ 7 ∷ 6 ∷ []
old_context_covers_nothing = refl

old_context_is_modified : put_refusal by_count second_life (put k (Some 1) true false) (1 ∷ []) ≡ Some modified
old_context_is_modified = refl

absent_key_is_not_found : put_refusal by_count second_life (put j (Some 1) true false) [] ≡ Some not_found
absent_key_is_not_found = refl

-- so many puts without context
abbrev writes : ℕ → List (Event ℕ ℕ)
writes zero = []
writes (suc n) = write 118 None [] ∷ writes n

sixty_fourth_sibling_is_accepted : put_refusal by_count (writes 63) (put k None false false) [] ≡ None
sixty_fourth_sibling_is_accepted = refl

sixty_fifth_sibling_is_refused : put_refusal by_count (writes 64) (put k None false false) [] ≡ Some too_many_siblings
sixty_fifth_sibling_is_refused = refl

put_that_saw_all_is_accepted : put_refusal by_count (writes 64) (put k (Some 64) false false) (numbers_to 64) ≡ None
put_that_saw_all_is_accepted = refl

return_body_shows_the_put : put_told after_v (record (put k None false false) { return_body = true }) ≡ Shown (1 ∷ []) (Some 1) false false
return_body_shows_the_put = refl

-- a delete by the context after v leaves w, with a tombstone as its sibling
delete_leaves_what_it_did_not_see : siblings (tombstone (Some 1) (1 ∷ []) ∷ after_w) k ≡ 3 ∷ 2 ∷ []
delete_leaves_what_it_did_not_see = refl

unmodified_key_says_so : get_told by_count after_v (get (Some 1) false false) ≡ Shown [] None true false
unmodified_key_says_so = refl

head_shows_bare_contents : get_told by_count after_v (get None true false) ≡ Shown (1 ∷ []) (Some 1) false true
head_shows_bare_contents = refl

-- What one more event changes.
use Rattle.std.proofs.Common.{◌≡◌, ◌≢◌, ℕ, zero, suc, ◌<◌, ◌≤◌, Bool, true, false, not, ◌&&◌, ◌||◌, cond, List, [], ◌∷◌, ◌++◌, length, refl, ◌∙◌, ap, arith, length-append}
use Rattle.std.specs.Prelude.{◌==◌, Some, None, filter, nat_lt, nat_le, IsTrue}
use Rattle.std.specs.List.{list_any, list_all}
use Rattle.std.proofs.lemmas.List.Folds.{list_any-append}
use Rattle.std.proofs.lemmas.Bool.Decides.{nat_tests}
use Rattle.riak_msgs.specs.declared.key.Key.{Key}
use Rattle.riak_msgs.specs.KeyOrder.{key_eq}
use Rattle.sibling_register.specs.History.{Event, events_of, count_of, numbered, is_update, numbers_to}
use Rattle.sibling_register.specs.Siblings.{is_among, unseen_by, siblings}
pub use Rattle.std.proofs.lemmas.Bool.{ne_eqb as differs}

-- the numbers left where an event saw some
abbrev pub left_by : List ℕ → List ℕ → List ℕ
left_by saw numbers = filter (λ n. not (is_among saw n)) numbers

pub and_true : (b : Bool) → (b && true) ≡ b
and_true true = refl
and_true false = refl

pub one_differs : {X : Type 0} (a b : ℕ) (x y : X) → a ≢ b → cond (a == b) x y ≡ y
one_differs a b x y h = rw (differs a b h) refl

-- one number of the list, seen or not by others and by one more
pub one_kept : (update seen more : Bool) (saw : List ℕ) (n : ℕ) (rest : List ℕ) → is_among saw n ≡ more
    → cond (update && not (seen || (more || false))) (n ∷ left_by saw rest) (left_by saw rest) ≡ left_by saw (cond (update && not seen) (n ∷ rest) rest)
one_kept false seen more saw n rest e = refl
one_kept true true more saw n rest e = refl
one_kept true false true saw n rest e = rw e refl
one_kept true false false saw n rest e = rw e refl

module _ {V C : Type 0} where
  -- an event after all later ones takes away what it saw
  pub unseen_by-more : (later : List (Event V C)) (last : Event V C) (events : List (Event V C))
      → unseen_by (later ++ last ∷ []) events ≡ left_by last.saw (unseen_by later events)
  unseen_by-more later last [] = refl
  unseen_by-more later last (event ∷ before) =
      let number : ℕ = suc (length before) in
      let sees : Event V C → Bool = λ other. is_among other.saw number in
      rw (list_any-append sees later (last ∷ []), unseen_by-more (event ∷ later) last before)
      (one_kept (is_update event.operation) (list_any sees later) (is_among last.saw number) last.saw number (unseen_by (event ∷ later) before) refl)

  -- the siblings of the key after an event of it
  abbrev pub siblings_after : Event V C → ℕ → List ℕ → List ℕ
  siblings_after event number before = cond (is_update event.operation) (number ∷ left_by event.saw before) (left_by event.saw before)

  pub siblings-own : (event : Event V C) (history : List (Event V C)) (key : Key) → key_eq event.key key ≡ true
      → siblings (event ∷ history) key ≡ siblings_after event (suc (count_of history key)) (siblings history key)
  siblings-own event history key e = rw (e, and_true (is_update event.operation), unseen_by-more [] event (events_of history key)) refl

  pub siblings-other : (event : Event V C) (history : List (Event V C)) (key : Key) → key_eq event.key key ≡ false
      → siblings (event ∷ history) key ≡ siblings history key
  siblings-other event history key e = rw e refl

  pub count_of-own : (event : Event V C) (history : List (Event V C)) (key : Key) → key_eq event.key key ≡ true
      → count_of (event ∷ history) key ≡ suc (count_of history key)
  count_of-own event history key e = rw e refl

  pub count_of-other : (event : Event V C) (history : List (Event V C)) (key : Key) → key_eq event.key key ≡ false
      → count_of (event ∷ history) key ≡ count_of history key
  count_of-other event history key e = rw e refl

  -- an event keeps its number
  pub numbered-later : (later events : List (Event V C)) (number : ℕ) → number ≤ length events
      → numbered (later ++ events) number ≡ numbered events number
  numbered-later [] events number h = refl
  numbered-later (event ∷ later) events number h =
      let ne : number ≢ suc (length (later ++ events)) = omega (arith, length-append {A = Event V C}) in
      one_differs number (suc (length (later ++ events))) (Some event) (numbered (later ++ events) number) ne ∙ numbered-later later events number h

  -- no event has a number past the last, nor 0
  pub numbered-past : (events : List (Event V C)) (number : ℕ) → length events < number → numbered events number ≡ None
  numbered-past [] number h = refl
  numbered-past (event ∷ before) number h =
      let ne : number ≢ suc (length before) = omega arith in
      let lt : length before < number = omega arith in
      one_differs number (suc (length before)) (Some event) (numbered before number) ne ∙ numbered-past before number lt

  pub numbered-zero : (events : List (Event V C)) → numbered events 0 ≡ None
  numbered-zero [] = refl
  numbered-zero (event ∷ before) =
      let ne : 0 ≢ suc (length before) = omega arith in
      one_differs 0 (suc (length before)) (Some event) (numbered before 0) ne ∙ numbered-zero before

one_more : (n m : ℕ) → 0 < m → ((suc n == m) || nat_le m n) ≡ nat_le m (suc n)
one_more n m h = grind (arith, nat_tests)

not_le : (m n : ℕ) → not (nat_le m n) ≡ nat_lt n m
not_le m n = grind (arith, nat_tests)

pub both : (a b : Bool) → IsTrue (a && b) → IsTrue a × IsTrue b
both true true h = (refl, refl)
both true false h = cc
both false b h = cc

positive : (m : ℕ) → IsTrue (nat_lt 0 m) → 0 < m
positive m h = grind (arith, nat_tests)

positive_more : (b : Bool) (n : ℕ) (rest : List ℕ) → IsTrue (list_all (λ m. nat_lt 0 m) rest) → IsTrue (list_all (λ m. nat_lt 0 m) (cond b (suc n ∷ rest) rest))
positive_more true n rest h = grind (arith, nat_tests)
positive_more false n rest h = h

-- among the numbers up to one are those that it reaches
pub is_among-numbers_to : (n m : ℕ) → 0 < m → is_among (numbers_to n) m ≡ nat_le m n
is_among-numbers_to zero m h = grind (arith, nat_tests)
is_among-numbers_to (suc n) m h = ap (λ b. (suc n == m) || b) (is_among-numbers_to n m h) ∙ one_more n m h

-- each sibling has a number
pub left_by-numbers_to : (n : ℕ) (numbers : List ℕ) → IsTrue (list_all (λ m. nat_lt 0 m) numbers)
    → left_by (numbers_to n) numbers ≡ filter (λ m. nat_lt n m) numbers
left_by-numbers_to n [] h = refl
left_by-numbers_to n (m ∷ numbers) h =
    let parts = both (nat_lt 0 m) (list_all (λ m. nat_lt 0 m) numbers) h in
    let e : not (is_among (numbers_to n) m) ≡ nat_lt n m = ap not (is_among-numbers_to n m (positive m parts.0)) ∙ not_le m n in
    rw (e, left_by-numbers_to n numbers parts.1) refl

module _ {V C : Type 0} where
  pub unseen_by-positive : (later events : List (Event V C)) → IsTrue (list_all (λ m. nat_lt 0 m) (unseen_by later events))
  unseen_by-positive later [] = refl
  unseen_by-positive later (event ∷ before) =
      positive_more (is_update event.operation && not (list_any (λ other. is_among other.saw (suc (length before))) later))
      (length before) (unseen_by (event ∷ later) before) (unseen_by-positive (event ∷ later) before)

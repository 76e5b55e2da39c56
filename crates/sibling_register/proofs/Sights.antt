-- What the plain register saw is what the definition gives for its contexts.
use Rattle.std.proofs.Common.{◌≡◌, ℕ, zero, suc, ◌+◌, ◌≤◌, Bool, true, false, ◌&&◌, cond, List, [], ◌∷◌, ◌++◌, length, take, drop, refl, sym, ◌∙◌, ap, arith, length-append}
use Rattle.std.specs.Prelude.{Option, Some, None, nat_le, nat_eq, IsTrue, MatchOption, reverse}
use Rattle.std.specs.List.{list_all}
use Rattle.std.proofs.lemmas.List.{reverse-append, reverse-reverse, take-append-drop}
use Rattle.std.proofs.lemmas.List.Elements.{filter-append}
use Rattle.std.proofs.lemmas.Bool.Decides.{nat_tests}
use Rattle.riak_msgs.specs.declared.key.Key.{Key}
use Rattle.riak_msgs.specs.KeyOrder.{key_eq}
use Rattle.sibling_register.specs.History.{Event, count_of, numbers_to}
use Rattle.sibling_register.specs.Siblings.{is_defined}
use Rattle.sibling_register.specs.Naming.{named, SeesBy, PutSees, DelSees}
use Rattle.sibling_register.specs.Counting.{by_count, up_to, context_at}
use Rattle.sibling_register.specs.Plans.{saw_by, del_saw}
use Rattle.std.proofs.lemmas.Bool.{eqb-true as equal}

found : {X : Type 0} (d s : Bool) (here position : X) (rest : Option X) (count : X → ℕ) (context : ℕ) → (s ≡ true → context ≡ count here)
    → (rest ≡ Some position → context ≡ count position) → cond (d && s) (Some here) rest ≡ Some position → context ≡ count position
found true true here position rest count context f g h = let e : here ≡ position = cc in f refl ∙ ap count e
found true false here position rest count context f g h = g h
found false s here position rest count context f g h = g h

all_within : (count m : ℕ) → count ≤ m → IsTrue (list_all (λ n. nat_le 1 n && nat_le n m) (numbers_to count))
all_within zero m h = refl
all_within (suc n) m h = let rest : IsTrue (list_all (λ k. nat_le 1 k && nat_le k m) (numbers_to n)) = all_within n m (omega arith) in within n m h rest
  where
    within : (n m : ℕ) → suc n ≤ m → IsTrue (list_all (λ k. nat_le 1 k && nat_le k m) (numbers_to n)) → IsTrue (list_all (λ k. nat_le 1 k && nat_le k m) (suc n ∷ numbers_to n))
    within n m h rest = let a : nat_le (suc n) m ≡ true = grind (arith, nat_tests) in let b : nat_le 1 (suc n) ≡ true = grind (arith, nat_tests) in rw (a, b) rest

module _ {V : Type 0} where
  -- a context that names a position is the count there
  named_is : (history : List (Event V ℕ)) (key : Key) (context : ℕ) (position : List (Event V ℕ)) → named by_count history key context ≡ Some position
      → context ≡ count_of position key
  named_is [] key context position h = cc
  named_is (event ∷ before) key context position h =
      found (is_defined (event ∷ before) key) (nat_eq context (count_of (event ∷ before) key)) (event ∷ before) position
      (named by_count before key context) (λ history. count_of history key) context (equal context (count_of (event ∷ before) key))
      (named_is before key context position) h

  sees : (history : List (Event V ℕ)) (key : Key) (context : ℕ) → context ≤ count_of history key → SeesBy by_count history key context (numbers_to context)
  sees history key context h = by (named by_count history key context) refl
    where
      by : (o : Option (List (Event V ℕ))) → named by_count history key context ≡ o
          → MatchOption o (IsTrue (list_all (λ n. nat_le 1 n && nat_le n (count_of history key)) (numbers_to context))) (λ position. numbers_to context ≡ numbers_to (count_of position key))
      by None e = all_within context (count_of history key) h
      by (Some position) e = ap numbers_to (named_is history key context position e)

  -- a position has no more events of a key than the history
  count_of-up_to : (history : List (Event V ℕ)) (key : Key) (p : ℕ) → count_of (up_to history p) key ≤ count_of history key
  count_of-up_to history key p =
      let all : history ≡ reverse (drop p (reverse history)) ++ up_to history p =
      sym (reverse-reverse history) ∙ ap reverse (sym (take-append-drop p (reverse history))) ∙ reverse-append (take p (reverse history)) (drop p (reverse history)) in
      let counts : count_of history key ≡ count_of (reverse (drop p (reverse history))) key + count_of (up_to history p) key =
      ap (λ h. count_of h key) all
      ∙ ap length (filter-append (λ event. key_eq event.key key) (reverse (drop p (reverse history))) (up_to history p))
      ∙ length-append _ _ in
      within (count_of (up_to history p) key) (count_of history key) (count_of (reverse (drop p (reverse history))) key) counts
    where
      within : (a b c : ℕ) → b ≡ c + a → a ≤ b
      within a b c e = omega arith

  pub put_sees : (history : List (Event V ℕ)) (key : Key) (position : Option ℕ) → PutSees by_count history key (context_at history key position) (saw_by (context_at history key position))
  put_sees history key None = refl
  put_sees history key (Some p) = sees history key _ (count_of-up_to history key p)

  pub del_sees : (history : List (Event V ℕ)) (key : Key) (position : Option ℕ)
      → DelSees by_count history key (context_at history key position) (del_saw history (record { key = key; context = context_at history key position }))
  del_sees history key None = refl
  del_sees history key (Some p) = sees history key _ (count_of-up_to history key p)

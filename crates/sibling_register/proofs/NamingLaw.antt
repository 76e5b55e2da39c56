-- All positions that a context names have seen the same of their key.
use Rattle.std.proofs.Common.{◌≡◌, ℕ, Bool, true, false, not, ◌&&◌, ◌||◌, cond, List, [], ◌∷◌, ◌++◌, length, filter, refl, ap}
use Rattle.std.specs.Prelude.{Option, Some, None, IsTrue, ◌↔◌, MatchOption}
use Rattle.std.specs.List.{list_any}
use Rattle.riak_msgs.specs.declared.key.Key.{Key}
use Rattle.riak_msgs.specs.KeyOrder.{key_eq}
use Rattle.sibling_register.specs.History.{Event, count_of, numbers_to}
use Rattle.sibling_register.specs.Siblings.{is_defined}
use Rattle.sibling_register.specs.Naming.{Naming, IsNamingOf, NamesOneSight, is_untouched, counts_for, named}

module _ {V C : Type 0} where
  -- the law of a history is that of its positions
  restrict : (naming : Naming V C) (event : Event V C) (before : List (Event V C)) → IsNamingOf naming (event ∷ before) → IsNamingOf naming before
  restrict naming event before law = record {
    equivalence = law.equivalence;
    names = λ later between position key is. law.names (event ∷ later) between position key (ap (λ history. event ∷ history) is);
  }

  -- events of other keys don't count
  count_of-untouched : (between position : List (Event V C)) (key : Key) → IsTrue (is_untouched between key)
      → count_of (between ++ position) key ≡ count_of position key
  count_of-untouched [] position key h = refl
  count_of-untouched (event ∷ between) position key h = by (key_eq event.key key) h (count_of-untouched between position key)
    where
      by : (b : Bool) → IsTrue (not (b || list_any (counts_for key) between))
          → (IsTrue (is_untouched between key) → count_of (between ++ position) key ≡ count_of position key)
          → length (cond b (event ∷ filter (λ e. key_eq e.key key) (between ++ position)) (filter (λ e. key_eq e.key key) (between ++ position))) ≡ count_of position key
      by true h f = cc
      by false h f = f h

  abbrev IsSight : Key → ℕ → Option (List (Event V C)) → Type 0
  IsSight key count found = MatchOption found (⊥) (λ position. count_of position key ≡ count)

  first_found : (d s : Bool) (history : List (Event V C)) (rest : Option (List (Event V C))) (key : Key) (count : ℕ)
      → (d ≡ true → s ≡ true → count_of history key ≡ count) → IsSight key count rest → IsSight key count (cond (d && s) (Some history) rest)
  first_found true true history rest key count here there = here refl refl
  first_found true false history rest key count here there = there
  first_found false s history rest key count here there = there

  -- the position that is found has the count of each that the context names
  found : (naming : Naming V C) (later position : List (Event V C)) (key : Key) (context : C) → IsNamingOf naming (later ++ position)
      → IsTrue (is_defined position key) → IsTrue (naming.same context (naming.name position key))
      → IsSight key (count_of position key) (named naming (later ++ position) key context)
  found naming [] [] key context law defined same = cc
  found naming [] (event ∷ before) key context law defined same = rw (defined, same) refl
  found naming (event ∷ later) position key context law defined same =
      let history : List (Event V C) = event ∷ (later ++ position) in
      first_found (is_defined history key) (naming.same context (naming.name history key)) history (named naming (later ++ position) key context) key (count_of position key)
      (λ d s. count_of-untouched (event ∷ later) position key
      ((law.names [] (event ∷ later) position key refl defined d).0
      (law.equivalence.transitive _ context _ (law.equivalence.symmetric context _ same) s)))
      (found naming later position key context (restrict naming event (later ++ position) law) defined same)

  both_sights : (key : Key) (count : ℕ) (saw : List ℕ) (free : Type 0) (o : Option (List (Event V C))) → IsSight key count o
      → MatchOption o free (λ position. saw ≡ numbers_to (count_of position key)) ↔ (saw ≡ numbers_to count)
  both_sights key count saw free None h = absurd h
  both_sights key count saw free (Some position) h = rw h ((λ e. e), (λ e. e))

  pub names_one_sight : (naming : Naming V C) (later position : List (Event V C)) → NamesOneSight naming later position
  names_one_sight naming later position law key context saw defined same =
      both_sights key (count_of position key) saw _ (named naming (later ++ position) key context) (found naming later position key context law defined same)

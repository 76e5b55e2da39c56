-- The context naming, and what a command saw by the context that it gives.
use Rattle.std.specs.Prelude.{◌≡◌, Bool, not, ◌&&◌, if◌then◌else◌, List, [], ◌∷◌, ◌++◌, ℕ, Option, Some, None, IsTrue, ◌↔◌, MatchOption, nat_le}
use Rattle.std.specs.List.{list_all, list_any}
use Rattle.riak_msgs.specs.declared.key.Key.{Key}
use Rattle.riak_msgs.specs.KeyOrder.{key_eq}
use Rattle.sibling_register.specs.History.{Event, count_of, numbers_to}
use Rattle.sibling_register.specs.Siblings.{is_defined}

-- a naming gives each key at the end of each history a context, and decides which contexts are the same
pub record Naming (V C : Type 0) : Type 0 where
  pub name : List (Event V C) → Key → C
  pub same : C → C → Bool

-- "the same" is an equivalence
pub record IsEquivalence {C : Type 0} (same : C → C → Bool) : Type 0 where
  pub reflexive : (a : C) → IsTrue (same a a)
  pub symmetric : (a b : C) → IsTrue (same a b) → IsTrue (same b a)
  pub transitive : (a b c : C) → IsTrue (same a b) → IsTrue (same b c) → IsTrue (same a c)

module _ {V C : Type 0} where
  -- whether an event counts for the names of a key: an event of that key does
  abbrev pub counts_for : Key → Event V C → Bool
  counts_for key event = key_eq event.key key

  -- no event between two positions counts for the key's names
  abbrev pub is_untouched : List (Event V C) → Key → Bool
  is_untouched between key = not (list_any (counts_for key) between)

  -- two positions of a key where it is defined have the same context exactly where no event of the key lies between
  pub record IsNamingOf (naming : Naming V C) (history : List (Event V C)) : Type 0 where
    pub equivalence : IsEquivalence naming.same
    pub names : (later between position : List (Event V C)) (key : Key) → later ++ (between ++ position) ≡ history
        → IsTrue (is_defined position key) → IsTrue (is_defined (between ++ position) key)
        → IsTrue (naming.same (naming.name position key) (naming.name (between ++ position) key)) ↔ IsTrue (is_untouched between key)

  -- the latest position of the key that this context names
  abbrev pub named : Naming V C → List (Event V C) → Key → C → Option (List (Event V C))
  named naming [] key context = None
  named naming (event ∷ before) key context =
      let history = event ∷ before in
      if is_defined history key && naming.same context (naming.name history key)
      then Some history
      else named naming before key context

  -- what a command may have seen by its context: every sequence number of the key up to the position that it names;
  -- where it names none, the register is free to choose earlier ones
  abbrev pub SeesBy : Naming V C → List (Event V C) → Key → C → List ℕ → Type 0
  SeesBy naming history key context saw =
      MatchOption (named naming history key context)
      (IsTrue (list_all (λ number. nat_le 1 number && nat_le number (count_of history key)) saw))
      (λ position. saw ≡ numbers_to (count_of position key))

  -- a put without context saw nothing
  abbrev pub PutSees : Naming V C → List (Event V C) → Key → Option C → List ℕ → Type 0
  PutSees naming history key None saw = saw ≡ []
  PutSees naming history key (Some context) saw = SeesBy naming history key context saw

  -- a delete without context saw every earlier number of the key
  abbrev pub DelSees : Naming V C → List (Event V C) → Key → Option C → List ℕ → Type 0
  DelSees naming history key None saw = saw ≡ numbers_to (count_of history key)
  DelSees naming history key (Some context) saw = SeesBy naming history key context saw

  -- by the context of a position a command saw every number up to there, and nothing else, whichever position of that
  -- name is found
  abbrev pub NamesOneSight : Naming V C → (later position : List (Event V C)) → Type 0
  NamesOneSight naming later position =
      IsNamingOf naming (later ++ position) → (key : Key) (context : C) (saw : List ℕ)
      → IsTrue (is_defined position key) → IsTrue (naming.same context (naming.name position key))
      → SeesBy naming (later ++ position) key context saw ↔ (saw ≡ numbers_to (count_of position key))

-- What the plain register remembers of each key beside its list: the key's siblings, and where its events stand in the list.
use Rattle.std.specs.Prelude.{◌≡◌, List, [], ◌∷◌, ◌++◌, ◌+◌, ℕ, zero, suc, length, filter, nat_lt, slice_get, if◌then◌else◌, Option, None, option_and_then}
use Rattle.std.specs.Option.{option_map_or}
use Rattle.std.specs.BTreeMap.{BTreeMap, get, is_at}
use Rattle.riak_msgs.specs.declared.key.Key.{Key}
use Rattle.riak_msgs.specs.KeyOrder.{key_cmp, key_eq}
use Rattle.sibling_register.specs.declared.entry.Entry.{Entry}
use Rattle.sibling_register.specs.declared.key_index.KeyIndex.{KeyIndex}
use Rattle.sibling_register.specs.History.{Event, written}
use Rattle.sibling_register.specs.Siblings.{siblings}
use Rattle.sibling_register.specs.Entries.{operation_of, follow_of}

-- how many of the places stand before a position
abbrev pub below : ℕ → List ℕ → ℕ
below position places = length (filter (λ place. nat_lt place position) places)

-- of places, oldest first, that of the event of this sequence number
abbrev pub place_of : List ℕ → ℕ → Option ℕ
place_of places zero = None
place_of places (suc earlier) = slice_get places earlier

-- the same is remembered
pub record IsUnchanged (old new : KeyIndex) : Type 0 where
  pub siblings : new.siblings.items ≡ old.siblings.items
  pub places : new.places.items ≡ old.places.items

-- what is remembered of a key: nothing of one that has no index
abbrev pub siblings_at : BTreeMap Key KeyIndex → Key → List ℕ
siblings_at keys key = option_map_or (λ index. index.siblings.items) (get key_cmp keys key) []

abbrev pub places_at : BTreeMap Key KeyIndex → Key → List ℕ
places_at keys key = option_map_or (λ index. index.places.items) (get key_cmp keys key) []

-- of a key the same is remembered
pub record AreSameAt (old new : BTreeMap Key KeyIndex) (key : Key) : Type 0 where
  pub siblings : siblings_at new key ≡ siblings_at old key
  pub places : places_at new key ≡ places_at old key

module _ {V : Type 0} where
  -- the places of a key's events in a history, oldest first: how many events of any key came before each
  abbrev pub places_in : List (Event V ℕ) → Key → List ℕ
  places_in [] key = []
  places_in (event ∷ before) key =
      if key_eq event.key key then places_in before key ++ length before ∷ [] else places_in before key

  -- what the entry at a place wrote
  abbrev pub written_at : List (Entry V) → Option ℕ → Option V
  written_at entries place =
      option_and_then (λ at. option_and_then (λ entry. written (operation_of entry.operation)) (slice_get entries at)) place

  -- an entry more is remembered, which stands at this place
  pub record IsAdded (entry : Entry V) (place : ℕ) (old new : KeyIndex) : Type 0 where
    pub siblings : new.siblings.items ≡ follow_of entry (length old.places.items + 1) old.siblings.items
    pub places : new.places.items ≡ old.places.items ++ place ∷ []

  -- of a key an entry more is remembered, which stands at this place, if it is the key's
  pub record IsNotedAt (entry : Entry V) (place : ℕ) (old new : BTreeMap Key KeyIndex) (key : Key) : Type 0 where
    pub siblings : siblings_at new key ≡ (if is_at (key_cmp entry.key) key
        then follow_of entry (length (places_at old key) + 1) (siblings_at old key) else siblings_at old key)
    pub places : places_at new key ≡ (if is_at (key_cmp entry.key) key
        then places_at old key ++ place ∷ [] else places_at old key)

  -- what is remembered is what the definitions say of the history
  pub record Remembers (history : List (Event V ℕ)) (keys : BTreeMap Key KeyIndex) : Type 0 where
    pub siblings : (key : Key) → siblings_at keys key ≡ siblings history key
    pub places : (key : Key) → places_at keys key ≡ places_in history key

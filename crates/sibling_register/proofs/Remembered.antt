-- What is remembered of each key stays what the definitions say, one entry more.
use Rattle.std.proofs.Common.{◌≡◌, ℕ, zero, suc, ◌+◌, Bool, true, false, ◌&&◌, cond, List, [], ◌∷◌, ◌++◌, length, refl, sym, ◌∙◌, ap, add-one}
use Rattle.std.specs.Ordering.{is_eq, ordering_then, nat_cmp}
use Rattle.std.specs.declared.cmp.Ordering.{Ordering}
use Rattle.std.specs.declared.cmp.Ordering.TheVariants.{Less, Equal, Greater}
use Rattle.std.specs.Cmp.Lexicographic.{slice_cmp}
use Rattle.std.specs.Str.{bytes_eq}
use Rattle.std.specs.Prelude.{Option, Some, None, is_some, map, reverse}
use Rattle.std.proofs.lemmas.List.{map-append, reverse-append}
use Rattle.std.specs.Option.{option_map_or}
use Rattle.std.specs.List.Sorted.{IsNonDecreasingBy}
use Rattle.std.specs.BTreeMap.{BTreeMap, get, is_at}
use Rattle.std.proofs.lemmas.Map.Text.{is_eq-slice_cmp}
use Rattle.riak_msgs.specs.declared.key.Key.{Key}
use Rattle.riak_msgs.specs.KeyOrder.{key_cmp, key_eq}
use Rattle.sibling_register.specs.declared.entry.Entry.{Entry}
use Rattle.sibling_register.specs.declared.key_index.KeyIndex.{KeyIndex}
use Rattle.sibling_register.specs.History.{Event, events_of, count_of, content_of}
use Rattle.sibling_register.specs.Siblings.{siblings}
use Rattle.sibling_register.specs.Counting.{up_to}
use Rattle.sibling_register.specs.Entries.{event_of, history_of, follow_of}
use Rattle.sibling_register.specs.Index.{below, place_of, siblings_at, places_at, places_in, written_at, IsUnchanged, IsAdded, AreSameAt, IsNotedAt, Remembers}
use Rattle.sibling_register.proofs.Following.{siblings-own, siblings-other, unseen_by-positive}
use Rattle.sibling_register.proofs.Scanning.{follows}
use Rattle.sibling_register.proofs.Places.{length-places_in, places-rise, below-places, content-at}
use Rattle.sibling_register.proofs.LeavingLaw.{key_eq-same}

pub is_eq-then : (a b : Ordering) → is_eq (ordering_then a b) ≡ (is_eq a && is_eq b)
is_eq-then Less b = refl
is_eq-then Equal b = refl
is_eq-then Greater b = refl

is_at-key_cmp : (a b : Key) → is_at (key_cmp a) b ≡ key_eq a b
is_at-key_cmp a b =
    is_eq-then (slice_cmp nat_cmp a.bucket_type b.bucket_type) (ordering_then (slice_cmp nat_cmp a.bucket b.bucket) (slice_cmp nat_cmp a.key b.key))
    ∙ ap (λ t. is_eq (slice_cmp nat_cmp a.bucket_type b.bucket_type) && t) (is_eq-then (slice_cmp nat_cmp a.bucket b.bucket) (slice_cmp nat_cmp a.key b.key))
    ∙ ap (λ t. t && (is_eq (slice_cmp nat_cmp a.bucket b.bucket) && is_eq (slice_cmp nat_cmp a.key b.key))) (is_eq-slice_cmp a.bucket_type b.bucket_type)
    ∙ ap (λ t. bytes_eq a.bucket_type b.bucket_type && (t && is_eq (slice_cmp nat_cmp a.key b.key))) (is_eq-slice_cmp a.bucket b.bucket)
    ∙ ap (λ t. bytes_eq a.bucket_type b.bucket_type && (bytes_eq a.bucket b.bucket && t)) (is_eq-slice_cmp a.key b.key)

none_there : (number : ℕ) → place_of [] number ≡ None
none_there zero = refl
none_there (suc i) = refl

module _ {V : Type 0} where
  siblings-more : (entry : Entry V) (history : List (Event V ℕ)) (key : Key) (b : Bool) → key_eq entry.key key ≡ b
      → cond b (follow_of entry (count_of history key + 1) (siblings history key)) (siblings history key) ≡ siblings (event_of entry ∷ history) key
  siblings-more entry history key true e =
      ap (λ n. follow_of entry n (siblings history key)) (add-one _)
      ∙ sym (follows entry (suc (count_of history key)) (siblings history key) (unseen_by-positive [] (events_of history key)))
      ∙ sym (siblings-own (event_of entry) history key e)
  siblings-more entry history key false e = sym (siblings-other (event_of entry) history key e)

  places-more : (entry : Entry V) (history : List (Event V ℕ)) (key : Key) (b : Bool) → key_eq entry.key key ≡ b
      → cond b (places_in history key ++ length history ∷ []) (places_in history key) ≡ places_in (event_of entry ∷ history) key
  places-more entry history key true e = rw e refl
  places-more entry history key false e = rw e refl

  pub remembers-more : (entry : Entry V) (history : List (Event V ℕ)) (place : ℕ) (old new : BTreeMap Key KeyIndex) → place ≡ length history
      → Remembers history old → ((key : Key) → IsNotedAt entry place old new key) → Remembers (event_of entry ∷ history) new
  remembers-more entry history place old new p was noted = record {
    siblings = λ key.
        (noted key).siblings
        ∙ ap (λ b. cond b (follow_of entry (length (places_at old key) + 1) (siblings_at old key)) (siblings_at old key)) (is_at-key_cmp entry.key key)
        ∙ ap (λ places. cond (key_eq entry.key key) (follow_of entry (length places + 1) (siblings_at old key)) (siblings_at old key)) (was.places key)
        ∙ ap (λ n. cond (key_eq entry.key key) (follow_of entry (n + 1) (siblings_at old key)) (siblings_at old key)) (length-places_in history key)
        ∙ ap (λ numbers. cond (key_eq entry.key key) (follow_of entry (count_of history key + 1) numbers) numbers) (was.siblings key)
        ∙ siblings-more entry history key (key_eq entry.key key) refl;
    places = λ key.
        (noted key).places
        ∙ ap (λ b. cond b (places_at old key ++ place ∷ []) (places_at old key)) (is_at-key_cmp entry.key key)
        ∙ ap (λ places. cond (key_eq entry.key key) (places ++ place ∷ []) places) (was.places key)
        ∙ ap (λ n. cond (key_eq entry.key key) (places_in history key ++ n ∷ []) (places_in history key)) p
        ∙ places-more entry history key (key_eq entry.key key) refl;
  }

  pub remembers-same : (history : List (Event V ℕ)) (old new : BTreeMap Key KeyIndex) → Remembers history old → ((key : Key) → AreSameAt old new key) → Remembers history new
  remembers-same history old new was same = record {
    siblings = λ key. (same key).siblings ∙ was.siblings key;
    places = λ key. (same key).places ∙ was.places key;
  }

  -- what is found of a key
  found : (history : List (Event V ℕ)) (keys : BTreeMap Key KeyIndex) (key : Key) (o : Option KeyIndex) → Remembers history keys → get key_cmp keys key ≡ o
      → option_map_or (λ index. index.places.items) o [] ≡ places_in history key
  found history keys key o was e = ap (λ o. option_map_or (λ index. index.places.items) o []) (sym e) ∙ was.places key

  pub value-none : (entries : List (Entry V)) (keys : BTreeMap Key KeyIndex) (key : Key) (number : ℕ) → Remembers (history_of entries) keys → get key_cmp keys key ≡ None
      → None ≡ content_of (history_of entries) key number
  value-none entries keys key number was e =
      sym (ap (written_at entries) (ap (λ places. place_of places number) (sym (found (history_of entries) keys key None was e)) ∙ none_there number))
      ∙ content-at entries key number

  pub value-some : (entries : List (Entry V)) (keys : BTreeMap Key KeyIndex) (key : Key) (number : ℕ) (index : KeyIndex) → Remembers (history_of entries) keys
      → get key_cmp keys key ≡ Some index → written_at entries (place_of index.places.items number) ≡ content_of (history_of entries) key number
  value-some entries keys key number index was e =
      ap (λ places. written_at entries (place_of places number)) (found (history_of entries) keys key (Some index) was e) ∙ content-at entries key number

  pub count-found : (history : List (Event V ℕ)) (keys : BTreeMap Key KeyIndex) (key : Key) (o : Option KeyIndex) → Remembers history keys → get key_cmp keys key ≡ o
      → length (option_map_or (λ index. index.places.items) o []) ≡ count_of history key
  count-found history keys key o was e = ap length (found history keys key o was e) ∙ length-places_in history key

  pub below-found : (history : List (Event V ℕ)) (keys : BTreeMap Key KeyIndex) (key : Key) (o : Option KeyIndex) (position : ℕ) → Remembers history keys → get key_cmp keys key ≡ o
      → below position (option_map_or (λ index. index.places.items) o []) ≡ count_of (up_to history position) key
  below-found history keys key o position was e = ap (below position) (found history keys key o was e) ∙ below-places history key position

  pub rising-found : (history : List (Event V ℕ)) (keys : BTreeMap Key KeyIndex) (key : Key) (index : KeyIndex) → Remembers history keys → get key_cmp keys key ≡ Some index
      → IsNonDecreasingBy (λ x. x) index.places.items
  rising-found history keys key index was e = rw (found history keys key (Some index) was e) (places-rise history key)

-- a key that is compared as one is that key
pub same_key : (a b : Key) → is_at (key_cmp a) b ≡ true → a ≡ b
same_key a b e = key_eq-same a b (sym (is_at-key_cmp a b) ∙ e)

-- an index without events, of a key that had none, adds nothing
pub same-added : (old new : BTreeMap Key KeyIndex) (key own : Key) (index : KeyIndex) → own ≡ key → is_some (get key_cmp old key) ≡ false
    → index.siblings.items ≡ [] → index.places.items ≡ [] → ((q : Key) → get key_cmp new q ≡ cond (is_at (key_cmp own) q) (Some index) (get key_cmp old q))
    → (q : Key) → AreSameAt old new q
same-added old new key own index is absent s p updates q = by (is_at (key_cmp own) q) refl (updates q)
  where
    none : (o : Option KeyIndex) → is_some o ≡ false → o ≡ None
    none None e = refl
    none (Some x) e = cc

    by : (b : Bool) → is_at (key_cmp own) q ≡ b → get key_cmp new q ≡ cond b (Some index) (get key_cmp old q) → AreSameAt old new q
    by true e up =
        let was : get key_cmp old q ≡ None = ap (get key_cmp old) (sym (sym is ∙ same_key own q e)) ∙ none (get key_cmp old key) absent in
        record {
          siblings = ap (λ o. option_map_or (λ i. i.siblings.items) o []) up ∙ s ∙ ap (λ o. option_map_or (λ i. i.siblings.items) o []) (sym was);
          places = ap (λ o. option_map_or (λ i. i.places.items) o []) up ∙ p ∙ ap (λ o. option_map_or (λ i. i.places.items) o []) (sym was);
        }
    by false e up = record {
      siblings = ap (λ o. option_map_or (λ i. i.siblings.items) o []) up;
      places = ap (λ o. option_map_or (λ i. i.places.items) o []) up;
    }

-- where an index is written over, its key's is the new one, and each other is as it was
module _ (key : Key) (old mid new : BTreeMap Key KeyIndex) (was is : KeyIndex) where
  pub written-same : ((q : Key) → AreSameAt old mid q) → get key_cmp mid key ≡ Some was → ((q : Key) → get key_cmp new q ≡ cond (is_at (key_cmp key) q) (Some is) (get key_cmp mid q))
      → IsUnchanged was is → (q : Key) → AreSameAt old new q
  written-same same there updates kept q = by (is_at (key_cmp key) q) refl (updates q)
    where
      by : (b : Bool) → is_at (key_cmp key) q ≡ b → get key_cmp new q ≡ cond b (Some is) (get key_cmp mid q) → AreSameAt old new q
      by true e up =
          let at : get key_cmp mid q ≡ Some was = ap (get key_cmp mid) (sym (same_key key q e)) ∙ there in
          record {
            siblings = ap (λ o. option_map_or (λ i. i.siblings.items) o []) up ∙ kept.siblings ∙ ap (λ o. option_map_or (λ i. i.siblings.items) o []) (sym at) ∙ (same q).siblings;
            places = ap (λ o. option_map_or (λ i. i.places.items) o []) up ∙ kept.places ∙ ap (λ o. option_map_or (λ i. i.places.items) o []) (sym at) ∙ (same q).places;
          }
      by false e up = record {
        siblings = ap (λ o. option_map_or (λ i. i.siblings.items) o []) up ∙ (same q).siblings;
        places = ap (λ o. option_map_or (λ i. i.places.items) o []) up ∙ (same q).places;
      }

  pub written-noted : {V : Type 0} (entry : Entry V) (place : ℕ) → key ≡ entry.key → ((q : Key) → AreSameAt old mid q) → get key_cmp mid key ≡ Some was
      → ((q : Key) → get key_cmp new q ≡ cond (is_at (key_cmp key) q) (Some is) (get key_cmp mid q)) → IsAdded entry place was is → (q : Key) → IsNotedAt entry place old new q
  written-noted entry place k same there updates added q = by (is_at (key_cmp key) q) refl (updates q)
    where
      test : {b : Bool} → is_at (key_cmp key) q ≡ b → is_at (key_cmp entry.key) q ≡ b
      test e = ap (λ a. is_at (key_cmp a) q) (sym k) ∙ e

      by : (b : Bool) → is_at (key_cmp key) q ≡ b → get key_cmp new q ≡ cond b (Some is) (get key_cmp mid q) → IsNotedAt entry place old new q
      by true e up =
          let at : get key_cmp mid q ≡ Some was = ap (get key_cmp mid) (sym (same_key key q e)) ∙ there in
          let siblings : was.siblings.items ≡ siblings_at old q = ap (λ o. option_map_or (λ i. i.siblings.items) o []) (sym at) ∙ (same q).siblings in
          let places : was.places.items ≡ places_at old q = ap (λ o. option_map_or (λ i. i.places.items) o []) (sym at) ∙ (same q).places in
          record {
            siblings = ap (λ o. option_map_or (λ i. i.siblings.items) o []) up ∙ added.siblings
                ∙ ap (λ xs. follow_of entry (length xs + 1) was.siblings.items) places ∙ ap (follow_of entry (length (places_at old q) + 1)) siblings
                ∙ ap (λ b. cond b (follow_of entry (length (places_at old q) + 1) (siblings_at old q)) (siblings_at old q)) (sym (test e));
            places = ap (λ o. option_map_or (λ i. i.places.items) o []) up ∙ added.places ∙ ap (λ xs. xs ++ place ∷ []) places
                ∙ ap (λ b. cond b (places_at old q ++ place ∷ []) (places_at old q)) (sym (test e));
          }
      by false e up = record {
        siblings = ap (λ o. option_map_or (λ i. i.siblings.items) o []) up ∙ (same q).siblings
            ∙ ap (λ b. cond b (follow_of entry (length (places_at old q) + 1) (siblings_at old q)) (siblings_at old q)) (sym (test e));
        places = ap (λ o. option_map_or (λ i. i.places.items) o []) up ∙ (same q).places
            ∙ ap (λ b. cond b (places_at old q ++ place ∷ []) (places_at old q)) (sym (test e));
      }

-- an entry more is one event more
pub history_of-push : {V : Type 0} (entries : List (Entry V)) (entry : Entry V) → history_of (entries ++ entry ∷ []) ≡ event_of entry ∷ history_of entries
history_of-push entries entry = ap reverse (map-append event_of entries (entry ∷ [])) ∙ reverse-append (map event_of entries) (event_of entry ∷ [])

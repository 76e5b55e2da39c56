-- The places of a key's events: how many stand before a position, and which event stands at each.
use Rattle.std.proofs.Common.{◌≡◌, ◌≢◌, ℕ, zero, suc, ◌<◌, ◌≤◌, Bool, true, false, cond, List, [], ◌∷◌, ◌++◌, length, get_or, take, refl, sym, ◌∙◌, ap, arith, add-one, inl, inr, length-append}
use Rattle.std.specs.Prelude.{◌==◌, filter, map, reverse, nat_lt, slice_get, Option, Some, None, option_and_then, option_map}
use Rattle.std.specs.List.Sorted.{IsNonDecreasingBy, IsPartitionPoint}
use Rattle.std.proofs.lemmas.Bool.{cases_lt, cases_eq}
use Rattle.std.proofs.lemmas.Bool.Decides.{nat_tests}
use Rattle.std.proofs.lemmas.Option.{slice_get_past, slice_get-get_or, slice_get-map}
use Rattle.std.proofs.lemmas.List.{reverse-append, reverse-reverse, length-reverse, take_all, take-append-le, append-nil}
use Rattle.std.proofs.lemmas.List.Elements.{filter-append}
use Rattle.std.proofs.Math.ListN.{get_or-append}
use Rattle.std.proofs.Math.Seq.{get_or-append_seam}
use Rattle.riak_msgs.specs.declared.key.Key.{Key}
use Rattle.riak_msgs.specs.KeyOrder.{key_eq}
use Rattle.sibling_register.specs.declared.entry.Entry.{Entry}
use Rattle.sibling_register.specs.History.{Event, events_of, count_of, numbered, written, content_of}
use Rattle.sibling_register.specs.Counting.{up_to}
use Rattle.sibling_register.specs.Entries.{operation_of, event_of, history_of}
use Rattle.sibling_register.specs.Index.{below, place_of, places_in, written_at}
use Rattle.sibling_register.proofs.Following.{one_differs, numbered-zero}

module _ {X : Type 0} where
  get_before : (xs ys : List X) (i : ℕ) → i < length xs → slice_get (xs ++ ys) i ≡ slice_get xs i
  get_before [] ys i h = absurd (omega arith)
  get_before (x ∷ xs) ys zero h = refl
  get_before (x ∷ xs) ys (suc i) h = get_before xs ys i (omega arith)

  get_seam : (xs : List X) (x : X) (i : ℕ) → i ≡ length xs → slice_get (xs ++ x ∷ []) i ≡ Some x
  get_seam xs x i e = ap (slice_get (xs ++ x ∷ [])) e ∙ at_end xs
    where
      at_end : (ys : List X) → slice_get (ys ++ x ∷ []) (length ys) ≡ Some x
      at_end [] = refl
      at_end (y ∷ ys) = at_end ys

  get_past : (xs : List X) (x : X) (i : ℕ) → length xs < i → slice_get (xs ++ x ∷ []) i ≡ None
  get_past xs x i h = slice_get_past (xs ++ x ∷ []) i (rw (length-append xs (x ∷ [])) (omega arith))

  reverse_more : (x : X) (xs : List X) → reverse (x ∷ xs) ≡ reverse xs ++ x ∷ []
  reverse_more x xs = reverse-append (x ∷ []) xs

  -- where no element passes a test, none is left
  none_left : (p : X → Bool) (xs : List X) → ((k : ℕ) (d : X) → k < length xs → p (get_or xs k d) ≡ false) → length (filter p xs) ≡ 0
  none_left p [] h = refl
  none_left p (x ∷ xs) h = rw (h 0 x (omega arith)) (none_left p xs (λ k d lt. h (suc k) d (omega arith)))

  -- so many elements pass the test as stand before the partition point
  pub passing_before : (p : X → Bool) (xs : List X) (i : ℕ) → i ≤ length xs → IsPartitionPoint (λ y. p y ≡ true) (λ y. p y ≡ false) xs i
      → i ≡ length (filter p xs)
  passing_before p [] i le point = omega arith
  passing_before p (x ∷ xs) zero le point = sym (none_left p (x ∷ xs) (λ k d lt. point.1 k d (omega arith) lt))
  passing_before p (x ∷ xs) (suc i) le point =
      rw (point.0 0 x (omega arith) (omega arith))
      (ap suc (passing_before p xs i (omega arith) ((λ k d low lt. point.0 (suc k) d (omega arith) (omega arith)), (λ k d low lt. point.1 (suc k) d (omega arith) (omega arith)))))

below-one : (place position : ℕ) (b : Bool) → nat_lt place position ≡ b → filter (λ place. nat_lt place position) (place ∷ []) ≡ cond b (place ∷ []) []
below-one place position b e = rw e refl

-- of rising places one more, which is greater
rising_more : (xs : List ℕ) (n : ℕ) → IsNonDecreasingBy (λ x. x) xs → ((k d : ℕ) → k < length xs → get_or xs k d < n)
    → IsNonDecreasingBy (λ x. x) (xs ++ n ∷ [])
rising_more xs n up lt i j d le within = elim (cases_lt j (length xs)) [
  | inl here ↦ (rw (get_or-append xs (n ∷ []) d i (omega arith), get_or-append xs (n ∷ []) d j here) (up i j d le here))
  | inr past ↦ (let last : j ≡ length xs = omega (arith, length-append xs (n ∷ []), within) in rw (last, get_or-append_seam xs n [] d) (elim (cases_lt i (length xs)) [
    | inl early ↦ (rw (get_or-append xs (n ∷ []) d i early) (let less = lt i d early in omega (arith, less)))
    | inr late ↦ (let same : i ≡ length xs = omega (arith, late, le, last) in rw (same, get_or-append_seam xs n [] d) (omega arith))
  ]))
]

module _ {V : Type 0} where
  pub length-places_in : (history : List (Event V ℕ)) (key : Key) → length (places_in history key) ≡ count_of history key
  length-places_in [] key = refl
  length-places_in (event ∷ before) key = by (key_eq event.key key) (length-places_in before key)
    where
      by : (b : Bool) → length (places_in before key) ≡ length (events_of before key)
          → length (cond b (places_in before key ++ length before ∷ []) (places_in before key)) ≡ length (cond b (event ∷ events_of before key) (events_of before key))
      by true h = length-append (places_in before key) (length before ∷ []) ∙ add-one _ ∙ ap suc h
      by false h = h

  -- each place is one of the history
  within : (history : List (Event V ℕ)) (key : Key) (k d : ℕ) → k < length (places_in history key) → get_or (places_in history key) k d < length history
  within [] key k d lt = absurd (omega arith)
  within (event ∷ before) key k d lt = by (key_eq event.key key) (within before key k d) lt
    where
      places : List ℕ
      places = places_in before key

      by : (b : Bool) → (k < length places → get_or places k d < length before)
          → k < length (cond b (places ++ length before ∷ []) places) → get_or (cond b (places ++ length before ∷ []) places) k d < suc (length before)
      by true h lt = elim (cases_lt k (length places)) [
        | inl here ↦ (rw (get_or-append places (length before ∷ []) d k here) (let less = h here in omega (arith, less)))
        | inr past ↦ (let last : k ≡ length places = omega (arith, length-append places (length before ∷ []), lt) in rw (last, get_or-append_seam places (length before) [] d) (omega arith))
      ]
      by false h lt = let less = h lt in omega (arith, less)

  pub places-rise : (history : List (Event V ℕ)) (key : Key) → IsNonDecreasingBy (λ x. x) (places_in history key)
  places-rise [] key = λ i j d le lt. absurd (omega arith)
  places-rise (event ∷ before) key = by (key_eq event.key key) (places-rise before key)
    where
      by : (b : Bool) → IsNonDecreasingBy (λ x. x) (places_in before key)
          → IsNonDecreasingBy (λ x. x) (cond b (places_in before key ++ length before ∷ []) (places_in before key))
      by true h = rising_more (places_in before key) (length before) h (within before key)
      by false h = h

  -- a position before the last event is one of the history before it
  up_to-early : (event : Event V ℕ) (before : List (Event V ℕ)) (position : ℕ) → position ≤ length before → up_to (event ∷ before) position ≡ up_to before position
  up_to-early event before position le =
      ap (λ events. reverse (take position events)) (reverse_more event before)
      ∙ ap reverse (take-append-le position (reverse before) (event ∷ []) (rw (length-reverse before) le))

  up_to-all : (history : List (Event V ℕ)) (position : ℕ) → length history ≤ position → up_to history position ≡ history
  up_to-all history position le =
      ap reverse (take_all position (reverse history) (rw (length-reverse history) le)) ∙ reverse-reverse history

  -- so many of a key's places stand before a position as the key has events there
  pub below-places : (history : List (Event V ℕ)) (key : Key) (position : ℕ) → below position (places_in history key) ≡ count_of (up_to history position) key
  below-places [] key position = sym (ap (λ h. count_of h key) (up_to-all [] position (omega arith)))
  below-places (event ∷ before) key position = elim (cases_lt (length before) position) [
    | inl lt ↦
        (late (key_eq event.key key) lt (below-places before key position ∙ ap (λ h. count_of h key) (up_to-all before position (omega (arith, lt))))
        ∙ ap (λ h. count_of h key) (sym (up_to-all (event ∷ before) position (omega (arith, lt)))))
    | inr le ↦
        (early (key_eq event.key key) le ∙ below-places before key position
        ∙ ap (λ h. count_of h key) (sym (up_to-early event before position le)))
  ]
    where
      places : List ℕ
      places = places_in before key

      test : ℕ → Bool
      test place = nat_lt place position

      late : (b : Bool) → length before < position → below position places ≡ length (events_of before key)
          → below position (cond b (places ++ length before ∷ []) places) ≡ length (cond b (event ∷ events_of before key) (events_of before key))
      late true lt h =
          let passes : nat_lt (length before) position ≡ true = grind (arith, nat_tests) in
          ap length (filter-append test places (length before ∷ []) ∙ ap (λ last. filter test places ++ last) (below-one (length before) position true passes))
          ∙ length-append (filter test places) (length before ∷ []) ∙ add-one _ ∙ ap suc h
      late false lt h = h

      early : (b : Bool) → position ≤ length before → below position (cond b (places ++ length before ∷ []) places) ≡ below position places
      early true le =
          let fails : nat_lt (length before) position ≡ false = grind (arith, nat_tests) in
          ap length (filter-append test places (length before ∷ []) ∙ ap (λ last. filter test places ++ last) (below-one (length before) position false fails)
          ∙ append-nil (filter test places))
      early false le = refl

  -- one event more stands at no place that was there
  there : (event : Event V ℕ) (before : List (Event V ℕ)) (places : List ℕ) (i : ℕ) → ((k d : ℕ) → k < length places → get_or places k d < length before)
      → option_and_then (λ p. slice_get (reverse (event ∷ before)) p) (slice_get places i) ≡ option_and_then (λ p. slice_get (reverse before) p) (slice_get places i)
  there event before places i lt = elim (cases_lt i (length places)) [
    | inl here ↦
        (let at : slice_get places i ≡ Some (get_or places i 0) = slice_get-get_or places i 0 here in
        ap (option_and_then (λ p. slice_get (reverse (event ∷ before)) p)) at
        ∙ ap (λ events. slice_get events (get_or places i 0)) (reverse_more event before)
        ∙ get_before (reverse before) (event ∷ []) (get_or places i 0) (rw (length-reverse before) (lt i 0 here))
        ∙ ap (option_and_then (λ p. slice_get (reverse before) p)) (sym at))
    | inr past ↦ (rw (slice_get_past places i past) refl)
  ]

  -- the event of a sequence number stands at the key's place of that number
  event_at : (history : List (Event V ℕ)) (key : Key) (i : ℕ)
      → numbered (events_of history key) (suc i) ≡ option_and_then (λ p. slice_get (reverse history) p) (slice_get (places_in history key) i)
  event_at [] key i = refl
  event_at (event ∷ before) key i =
      by (key_eq event.key key) (length-places_in before key) (event_at before key i ∙ sym (there event before (places_in before key) i (within before key)))
    where
      places : List ℕ
      places = places_in before key

      events : List (Event V ℕ)
      events = events_of before key

      all : List (Event V ℕ)
      all = reverse (event ∷ before)

      by : (b : Bool) → length places ≡ length events → numbered events (suc i) ≡ option_and_then (λ p. slice_get all p) (slice_get places i)
          → numbered (cond b (event ∷ events) events) (suc i) ≡ option_and_then (λ p. slice_get all p) (slice_get (cond b (places ++ length before ∷ []) places) i)
      by false same h = h
      by true same h = elim (cases_eq i (length places)) [
        | inl e ↦
            (let number : (suc i == suc (length events)) ≡ true = grind (arith, nat_tests, e, same) in
            let left : numbered (event ∷ events) (suc i) ≡ Some event = rw number refl in
            left
            ∙ sym (ap (λ found. option_and_then (λ p. slice_get all p) found) (get_seam places (length before) i e)
            ∙ ap (λ xs. slice_get xs (length before)) (reverse_more event before)
            ∙ get_seam (reverse before) event (length before) (sym (length-reverse before))))
        | inr ne ↦
            (one_differs (suc i) (suc (length events)) (Some event) (numbered events (suc i)) (λ e. ne (omega (arith, e, same)))
            ∙ h ∙ ap (option_and_then (λ p. slice_get all p)) (sym (get_other ne)))
      ]
        where
          get_other : i ≢ length places → slice_get (places ++ length before ∷ []) i ≡ slice_get places i
          get_other ne = elim (cases_lt i (length places)) [
            | inl lt ↦ get_before places (length before ∷ []) i lt
            | inr le ↦ (get_past places (length before) i (omega (arith, le, ne)) ∙ sym (slice_get_past places i le))
          ]

  abbrev written_by : Option (Entry V) → Option V
  written_by found = option_and_then (λ entry. written (operation_of entry.operation)) found

  then_written : (entries : List (Entry V)) (place : Option ℕ)
      → option_and_then (λ event. written event.operation) (option_and_then (λ p. slice_get (map event_of entries) p) place) ≡ written_at entries place
  then_written entries None = refl
  then_written entries (Some p) = ap (option_and_then (λ event. written event.operation)) (slice_get-map event_of entries p) ∙ one (slice_get entries p)
    where
      one : (found : Option (Entry V)) → option_and_then (λ event. written event.operation) (option_map event_of found) ≡ written_by found
      one None = refl
      one (Some entry) = refl

  -- the value of a sequence number is what the entry at its place wrote
  pub content-at : (entries : List (Entry V)) (key : Key) (number : ℕ)
      → written_at entries (place_of (places_in (history_of entries) key) number) ≡ content_of (history_of entries) key number
  content-at entries key zero = sym (ap (option_and_then (λ event. written event.operation)) (numbered-zero (events_of (history_of entries) key)))
  content-at entries key (suc i) =
      sym (ap (option_and_then (λ event. written event.operation))
      (event_at (history_of entries) key i ∙ ap (λ events. option_and_then (λ p. slice_get events p) (slice_get (places_in (history_of entries) key) i)) (reverse-reverse (map event_of entries)))
      ∙ then_written entries (slice_get (places_in (history_of entries) key) i))

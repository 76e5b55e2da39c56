-- Entries without their values, and how many values are uncovered.
use Rattle.std.proofs.Common.{◌≡◌, ℕ, zero, suc, ◌+◌, ◌-◌, ◌<◌, ◌≤◌, Bool, true, false, not, ◌&&◌, cond, IsTrue, List, [], ◌∷◌, length, get_or, map, refl, sym, ◌∙◌, ap, arith, length-append}
use Rattle.std.specs.Prelude.{T, nat_le, min, filter, Some, None, unwrap_or}
use Rattle.std.specs.List.{list_all}
use Rattle.std.specs.Ordering.{is_lt, eq_by_cmp}
use Rattle.std.specs.FinMap.Entries.{find, put, is_sorted, below_all}
use Rattle.std.proofs.Math.ListN.{set}
use Rattle.std.proofs.lemmas.Bool.Decides.{nat_tests}
use Rattle.std.proofs.lemmas.List.Elements.{filter-append}
use Rattle.actor_epoch.specs.declared.Actor.{Actor}
use Rattle.actor_epoch.specs.declared.Dot.{Dot}
use Rattle.actor_epoch.specs.Dots.{actor_cmp, covers, counter_in}
use Rattle.actor_epoch.proofs.Rising.{and_first, and_second}
use Rattle.actor_epoch.proofs.Order.{covers-counter_in}
use Rattle.dvv_set.specs.declared.entry.Entry.{Entry}
use Rattle.dvv_set.specs.Clocks.{discard, event}
use Rattle.dvv_set.specs.Held.{actors_after, known_after}
use Rattle.dvv_set.specs.ClockEntries.{ClockEntries, AreEntries, dot_state_of, known_of, live_of, values_from, is_entry, entry_for, with_value, emptied, newer, count_uncovered}
use Rattle.dvv_set.specs.Stored.{clock_entry, clock_entries}
use Rattle.dvv_set.proofs.Orders.{T-first, T-second, T-both}
use Rattle.dvv_set.proofs.ClockEntries.{is_entry-within, counter_in-known_of}
use Rattle.dvv_set.proofs.Discards.{discard-all}
use Rattle.dvv_set.proofs.Events.{AreEntries-event, dot_state_of-event}
use Rattle.dvv_set.proofs.Counts.{length-known_of}
use Rattle.dvv_set.proofs.Sound.{IsClock-dot_state_of}

is_entry-emptied : (n k : ℕ) → (nat_le 1 n && nat_le k n) ≡ true → (nat_le 1 n && nat_le 0 n) ≡ true
is_entry-emptied n k h = grind (arith, nat_tests)

module _ {V : Type 0} where
  -- the first so many of entries without their values
  abbrev pub emptied_to : ℕ → ClockEntries V → ClockEntries V
  emptied_to zero entries = entries
  emptied_to (suc n) [] = []
  emptied_to (suc n) (entry ∷ entries) = emptied entry ∷ emptied_to n entries

  pub emptied_to-all : (entries : ClockEntries V) → emptied_to (length entries) entries ≡ map emptied entries
  emptied_to-all [] = refl
  emptied_to-all (entry ∷ entries) = ap (λ rest. emptied entry ∷ rest) (emptied_to-all entries)

  -- the entry at an index without its values
  pub set-emptied_to : (entries : List (Entry V)) (i : ℕ) (own : ClockEntries V) (d next : Entry V) → i < length entries
      → clock_entries entries ≡ emptied_to i own → clock_entry next ≡ emptied (clock_entry (get_or entries i d)) → clock_entries (set entries i next) ≡ emptied_to (suc i) own
  set-emptied_to [] i own d next h e n = absurd (omega arith)
  set-emptied_to (entry ∷ entries) zero [] d next h e n = cc
  set-emptied_to (entry ∷ entries) zero (first_own ∷ own) d next h e n =
      let first : clock_entry entry ≡ first_own = cc in
      let rest : clock_entries entries ≡ own = cc in
      λ i. (n ∙ ap emptied first) i ∷ rest i
  set-emptied_to (entry ∷ entries) (suc i) [] d next h e n = cc
  set-emptied_to (entry ∷ entries) (suc i) (first_own ∷ own) d next h e n =
      let first : clock_entry entry ≡ emptied first_own = cc in
      let rest : clock_entries entries ≡ emptied_to i own = cc in
      λ j. first j ∷ set-emptied_to entries i own d next (omega arith) rest n j

  pub set-emptied_next : (entries : List (Entry V)) (i : ℕ) (own : ClockEntries V) (d next : Entry V) → i < length entries
      → clock_entries entries ≡ emptied_to i own → clock_entry next ≡ emptied (clock_entry (get_or entries i d)) → clock_entries (set entries i next) ≡ emptied_to (i + 1) own
  set-emptied_next entries i own d next h e n = let one : i + 1 ≡ suc i = omega arith in rw one (set-emptied_to entries i own d next h e n)

  known_of-emptied : (entries : ClockEntries V) → known_of (map emptied entries) ≡ known_of entries
  known_of-emptied [] = refl
  known_of-emptied (entry ∷ entries) = ap (λ pairs. record { actor = entry.0; counter = entry.1.0 } ∷ pairs) (known_of-emptied entries)

  live_of-emptied : (entries : ClockEntries V) → live_of (map emptied entries) ≡ []
  live_of-emptied [] = refl
  live_of-emptied (entry ∷ entries) = live_of-emptied entries

  pub length-emptied : (entries : ClockEntries V) → length (map emptied entries) ≡ length entries
  length-emptied [] = refl
  length-emptied (entry ∷ entries) = ap suc (length-emptied entries)

  below_all-emptied : (a : Actor) (entries : ClockEntries V) → T (below_all actor_cmp a entries) → T (below_all actor_cmp a (map emptied entries))
  below_all-emptied a [] h = tt
  below_all-emptied a (entry ∷ entries) h = T-both (is_lt (actor_cmp a entry.0)) _ (T-first (is_lt (actor_cmp a entry.0)) _ h) (below_all-emptied a entries (T-second (is_lt (actor_cmp a entry.0)) _ h))

  is_sorted-emptied : (entries : ClockEntries V) → T (is_sorted actor_cmp entries) → T (is_sorted actor_cmp (map emptied entries))
  is_sorted-emptied [] h = tt
  is_sorted-emptied (entry ∷ entries) h =
      T-both (below_all actor_cmp entry.0 (map emptied entries)) _ (below_all-emptied entry.0 entries (T-first _ (is_sorted actor_cmp entries) h))
      (is_sorted-emptied entries (T-second (below_all actor_cmp entry.0 entries) _ h))

  each-emptied : (entries : ClockEntries V) → IsTrue (list_all is_entry entries) → IsTrue (list_all is_entry (map emptied entries))
  each-emptied [] h = refl
  each-emptied (entry ∷ entries) h =
      λ i. is_entry-emptied entry.1.0 (length entry.1.1) (and_first (is_entry entry) (list_all is_entry entries) h) i
      && each-emptied entries (and_second (is_entry entry) (list_all is_entry entries) h) i

  pub AreEntries-emptied : (entries : ClockEntries V) → AreEntries entries → AreEntries (map emptied entries)
  AreEntries-emptied entries h = record { sorted = is_sorted-emptied entries h.sorted; each = each-emptied entries h.each }

  pub entry_for-emptied : (a : Actor) (entries : ClockEntries V) → entry_for a (map emptied entries) ≡ ((entry_for a entries).0, [])
  entry_for-emptied a [] = refl
  entry_for-emptied a (entry ∷ entries) = by (eq_by_cmp actor_cmp a entry.0) (entry_for-emptied a entries)
    where
      by : (b : Bool) → entry_for a (map emptied entries) ≡ ((entry_for a entries).0, [])
          → unwrap_or (cond b (Some (emptied entry).1) (find actor_cmp a (map emptied entries))) (0, [])
          ≡ ((unwrap_or (cond b (Some entry.1) (find actor_cmp a entries)) (0, [])).0, [])
      by true h = refl
      by false h = h

  -- entries without their values mean that all is discarded
  pub dot_state_of-emptied : (entries : ClockEntries V) → AreEntries entries → length entries ≤ 64 → dot_state_of (map emptied entries) ≡ discard (known_of entries) (dot_state_of entries)
  dot_state_of-emptied entries h few =
      (λ i. record { known = known_of-emptied entries i; live = live_of-emptied entries i }) ∙ sym (discard-all (dot_state_of entries) (IsClock-dot_state_of entries h few))

  newest : (pairs : List Dot) (a : Actor) (n : ℕ) (values : List V) → length values ≤ n
      → length (filter (λ entry. not (covers pairs entry.0)) (values_from a n values)) ≡ newer (counter_in pairs a) (n, values)
  newest pairs a n [] h = omega arith
  newest pairs a n (value ∷ values) h =
      ap (λ b. length (cond (not b) ((let dot : Dot = record { actor = a; counter = n } in dot, value) ∷ rest) rest)) (covers-counter_in pairs (record { actor = a; counter = n }))
      ∙ by (nat_le 1 n && nat_le n (counter_in pairs a)) refl (newest pairs a (n - 1) values (omega arith))
    where
      rest : List (Dot × V)
      rest = filter (λ entry. not (covers pairs entry.0)) (values_from a (n - 1) values)

      by : (b : Bool) → (nat_le 1 n && nat_le n (counter_in pairs a)) ≡ b → length rest ≡ min (length values) (n - 1 - counter_in pairs a)
          → length (cond (not b) ((let dot : Dot = record { actor = a; counter = n } in dot, value) ∷ rest) rest) ≡ min (suc (length values)) (n - counter_in pairs a)
      by true e r = let seen : n ≤ counter_in pairs a = within n (counter_in pairs a) e in omega arith
        where
          within : (n k : ℕ) → (nat_le 1 n && nat_le n k) ≡ true → n ≤ k
          within n k h = grind (arith, nat_tests)
      by false e r = let new : counter_in pairs a < n = over n (counter_in pairs a) (omega arith) e in omega arith
        where
          over : (n k : ℕ) → 1 ≤ n → (nat_le 1 n && nat_le n k) ≡ false → k < n
          over n k p h = grind (arith, nat_tests)

  -- the values that pairs don't cover
  pub length-uncovered : (pairs : List Dot) (entries : ClockEntries V) → IsTrue (list_all is_entry entries)
      → count_uncovered pairs entries ≡ length (filter (λ entry. not (covers pairs entry.0)) (live_of entries))
  length-uncovered pairs [] h = refl
  length-uncovered pairs (entry ∷ entries) h =
      let within : length entry.1.1 ≤ entry.1.0 = is_entry-within entry.1.0 (length entry.1.1) (and_first (is_entry entry) (list_all is_entry entries) h) in
      sym (
      ap length (filter-append (λ entry. not (covers pairs entry.0)) (values_from entry.0 entry.1.0 entry.1.1) (live_of entries))
      ∙ length-append (filter (λ entry. not (covers pairs entry.0)) (values_from entry.0 entry.1.0 entry.1.1)) _
      ∙ (λ i. newest pairs entry.0 entry.1.0 entry.1.1 within i + sym (length-uncovered pairs entries (and_second (is_entry entry) (list_all is_entry entries) h)) i))

  -- a value in place of all
  pub overwrite-counter : (entries : ClockEntries V) (a : Actor) → AreEntries entries → (entry_for a (map emptied entries)).0 ≡ counter_in (known_of entries) a
  overwrite-counter entries a h = ap (λ entry. entry.0) (entry_for-emptied a entries) ∙ sym (counter_in-known_of a entries h.sorted)

  pub overwrite-length : (entries : ClockEntries V) (a : Actor) (value : V) → AreEntries entries
      → length (put actor_cmp a (with_value value (entry_for a (map emptied entries))) (map emptied entries)) ≡ actors_after (known_of entries) None a
  overwrite-length entries a value h =
      sym (length-known_of (put actor_cmp a (with_value value (entry_for a (map emptied entries))) (map emptied entries)))
      ∙ ap (λ m. length m.known) (dot_state_of-event a value (map emptied entries) (AreEntries-emptied entries h))
      ∙ ap (λ k. length (known_after a k)) (known_of-emptied entries)

  pub overwrite-next : (entries : ClockEntries V) (a : Actor) (value : V) → AreEntries entries
      → AreEntries (put actor_cmp a (with_value value (entry_for a (map emptied entries))) (map emptied entries))
  overwrite-next entries a value h = AreEntries-event a value (map emptied entries) (AreEntries-emptied entries h)

  pub overwrite-meaning : (entries : ClockEntries V) (a : Actor) (value : V) → AreEntries entries → length entries ≤ 64
      → dot_state_of (put actor_cmp a (with_value value (entry_for a (map emptied entries))) (map emptied entries)) ≡ event a value (discard (known_of entries) (dot_state_of entries))
  overwrite-meaning entries a value h few =
      dot_state_of-event a value (map emptied entries) (AreEntries-emptied entries h) ∙ ap (event a value) (dot_state_of-emptied entries h few)

-- Discards and events on entries.
use Rattle.std.proofs.Common.{◌≡◌, ℕ, zero, suc, ◌+◌, ◌-◌, ◌≤◌, Bool, true, false, ◌&&◌, cond, IsTrue, List, [], ◌∷◌, length, refl, sym, ◌∙◌, ap, arith}
use Rattle.std.specs.Prelude.{T, nat_le, nat_eq, max, Option, Some, None}
use Rattle.std.specs.List.{list_all, slice_get}
use Rattle.std.specs.Ordering.{is_lt}
use Rattle.std.specs.FinMap.Entries.{find, put, is_sorted, below_all, find-put, is_sorted-put, same_entries}
use Rattle.std.proofs.lemmas.Bool.Decides.{nat_tests}
use Rattle.actor_epoch.specs.declared.Actor.{Actor}
use Rattle.actor_epoch.specs.declared.Dot.{Dot}
use Rattle.actor_epoch.specs.Dots.{actor_cmp, actor_eq, counter_in, insert_max}
use Rattle.actor_epoch.specs.Contexts.{is_rising, is_within_limits, is_well_formed}
use Rattle.actor_epoch.proofs.Pairs.{counter_in-insert_max}
use Rattle.actor_epoch.proofs.Rising.{and_first, and_second}
use Rattle.actor_epoch.proofs.Order.{actor_cmp_total, actor_eq-same, rising-below, rising-tail, is_below_all}
use Rattle.dvv_set.specs.Clocks.{show_cmp, sync, event}
use Rattle.dvv_set.specs.Held.{without}
use Rattle.dvv_set.specs.ClockEntries.{ClockEntries, AreEntries, live_of, known_of, dot_state_of, is_entry, entry_for, entries_of_pairs, entries_without, with_value}
use Rattle.dvv_set.proofs.ClockLaws.{discard-sync}
use Rattle.dvv_set.proofs.Orders.{show_cmp_total, eq_by_cmp-dot, T-both, T-is}
use Rattle.dvv_set.proofs.ClockEntries.{value_at, actor_eq-back, find-live_of, is_sorted-live_of, counter_in-known_of}
use Rattle.dvv_set.proofs.Merges.{AreEntries-merge_all, entry_for-put, list_all-put, entry_for-within}
use Rattle.dvv_set.proofs.Known.{same_pairs, IsVersionVector-known_of, IsVersionVector-insert_max}
use Rattle.dvv_set.proofs.Live.{dot_state_of-merge_all, show_cmp-same}
use Rattle.std.proofs.lemmas.Bool.{and_from as both}

below_all-pairs : (V : Type 0) (a : Actor) (pairs : List Dot) → IsTrue (is_below_all a pairs) → T (below_all actor_cmp a (let entries : ClockEntries V = entries_of_pairs pairs in entries))
below_all-pairs V a [] h = tt
below_all-pairs V a (pair ∷ pairs) h =
    T-both (is_lt (actor_cmp a pair.actor)) _ (T-is _ (and_first (is_lt (actor_cmp a pair.actor)) (is_below_all a pairs) h))
    (below_all-pairs V a pairs (and_second (is_lt (actor_cmp a pair.actor)) (is_below_all a pairs) h))

is_sorted-pairs : (V : Type 0) (pairs : List Dot) → IsTrue (is_rising pairs) → T (is_sorted actor_cmp (let entries : ClockEntries V = entries_of_pairs pairs in entries))
is_sorted-pairs V [] h = tt
is_sorted-pairs V (pair ∷ pairs) h =
    T-both (below_all actor_cmp pair.actor (let entries : ClockEntries V = entries_of_pairs pairs in entries)) _
    (below_all-pairs V pair.actor pairs (rising-below pair pairs h)) (is_sorted-pairs V pairs (rising-tail pair pairs h))

counts : (v e c d : Bool) → (v && (e && (c && d))) ≡ true → c ≡ true
counts true true true d h = refl
counts true true false d h = h
counts true false c d h = cc
counts false e c d h = cc

each-pairs : (V : Type 0) (pairs : List Dot) → IsTrue (list_all is_within_limits pairs) → IsTrue (list_all is_entry (let entries : ClockEntries V = entries_of_pairs pairs in entries))
each-pairs V [] h = refl
each-pairs V (pair ∷ pairs) h =
    both _ _
    (both (nat_le 1 pair.counter) (nat_le 0 pair.counter) (counts _ _ (nat_le 1 pair.counter) _ (and_first (is_within_limits pair) (list_all is_within_limits pairs) h)) (least pair.counter))
    (each-pairs V pairs (and_second (is_within_limits pair) (list_all is_within_limits pairs) h))
  where
    least : (n : ℕ) → nat_le 0 n ≡ true
    least n = grind (arith, nat_tests)

-- the pairs of a context are entries
pub AreEntries-pairs : (V : Type 0) (pairs : List Dot) → IsTrue (is_well_formed pairs) → AreEntries (let entries : ClockEntries V = entries_of_pairs pairs in entries)
AreEntries-pairs V pairs h =
    let inner : IsTrue (is_rising pairs && list_all is_within_limits pairs) = and_second _ (is_rising pairs && list_all is_within_limits pairs) h in
    record {
      sorted = is_sorted-pairs V pairs (and_first (is_rising pairs) (list_all is_within_limits pairs) inner);
      each = each-pairs V pairs (and_second (is_rising pairs) (list_all is_within_limits pairs) inner);
    }

module _ {V : Type 0} where
  dot_state_of-pairs : (pairs : List Dot) → dot_state_of (let entries : ClockEntries V = entries_of_pairs pairs in entries) ≡ record { known = pairs; live = [] }
  dot_state_of-pairs pairs = λ i. record { known = knows pairs i; live = lives pairs i }
    where
      knows : (pairs : List Dot) → known_of (let entries : ClockEntries V = entries_of_pairs pairs in entries) ≡ pairs
      knows [] = refl
      knows (pair ∷ pairs) = ap (λ ps. pair ∷ ps) (knows pairs)

      lives : (pairs : List Dot) → live_of (let entries : ClockEntries V = entries_of_pairs pairs in entries) ≡ []
      lives [] = refl
      lives (pair ∷ pairs) = lives pairs

  -- what a context saw leaves the entries
  pub AreEntries-without : (pairs : Option (List Dot)) (entries : ClockEntries V) → ((ps : List Dot) → pairs ≡ Some ps → IsTrue (is_well_formed ps)) → AreEntries entries → AreEntries (entries_without pairs entries)
  AreEntries-without None entries f h = h
  AreEntries-without (Some ps) entries f h = AreEntries-merge_all (entries_of_pairs ps) entries (AreEntries-pairs V ps (f ps refl)) h

  pub dot_state_of-without : (pairs : Option (List Dot)) (entries : ClockEntries V) → ((ps : List Dot) → pairs ≡ Some ps → IsTrue (is_well_formed ps)) → AreEntries entries
      → dot_state_of (entries_without pairs entries) ≡ without pairs (dot_state_of entries)
  dot_state_of-without None entries f h = refl
  dot_state_of-without (Some ps) entries f h =
      dot_state_of-merge_all (entries_of_pairs ps) entries (AreEntries-pairs V ps (f ps refl)) h
      ∙ ap (sync (dot_state_of entries)) (dot_state_of-pairs ps)
      ∙ sym (discard-sync ps (dot_state_of entries))

  is_entry-with : (a : Actor) (value : V) (entry : ℕ × List V) → length entry.1 ≤ entry.0 → IsTrue (is_entry (a, with_value value entry))
  is_entry-with a value entry h = by entry.0 (length entry.1) h
    where
      by : (n k : ℕ) → k ≤ n → (nat_le 1 (n + 1) && nat_le (suc k) (n + 1)) ≡ true
      by n k h = grind (arith, nat_tests)

  pub AreEntries-event : (a : Actor) (value : V) (entries : ClockEntries V) → AreEntries entries → AreEntries (put actor_cmp a (with_value value (entry_for a entries)) entries)
  AreEntries-event a value entries h = record {
    sorted = is_sorted-put actor_cmp actor_cmp_total a (with_value value (entry_for a entries)) entries h.sorted;
    each = list_all-put a (with_value value (entry_for a entries)) entries (is_entry-with a value (entry_for a entries) (entry_for-within a entries h.each)) h.each;
  }

  value_at-with : (n c : ℕ) (value : V) (values : List V) → cond (nat_eq c (n + 1)) (Some value) (value_at (n, values) c) ≡ value_at (n + 1, value ∷ values) c
  value_at-with n c value values = by (nat_eq c (n + 1)) (nat_le c (n + 1)) (nat_le c n) refl refl refl
    where
      by : (e l m : Bool) → nat_eq c (n + 1) ≡ e → nat_le c (n + 1) ≡ l → nat_le c n ≡ m
          → cond e (Some value) (cond m (slice_get values (n - c)) None) ≡ cond l (slice_get (value ∷ values) (n + 1 - c)) None
      by true true m p q r = let z : n + 1 - c ≡ zero = grind (arith, nat_tests) in rw z refl
      by true false m p q r = absurd (let w : ⊥ = grind (arith, nat_tests) in w)
      by false true true p q r = let z : n + 1 - c ≡ suc (n - c) = grind (arith, nat_tests) in rw z refl
      by false true false p q r = absurd (let w : ⊥ = grind (arith, nat_tests) in w)
      by false false true p q r = absurd (let w : ⊥ = grind (arith, nat_tests) in w)
      by false false false p q r = refl

  -- an event on entries
  pub dot_state_of-event : (a : Actor) (value : V) (entries : ClockEntries V) → AreEntries entries
      → dot_state_of (put actor_cmp a (with_value value (entry_for a entries)) entries) ≡ event a value (dot_state_of entries)
  dot_state_of-event a value entries h = λ i. record { known = knows i; live = lives i }
    where
      next : ℕ × List V
      next = with_value value (entry_for a entries)

      after : AreEntries (put actor_cmp a next entries)
      after = AreEntries-event a value entries h

      dot : Dot
      dot = record { actor = a; counter = counter_in (known_of entries) a + 1 }

      counted : counter_in (known_of entries) a ≡ (entry_for a entries).0
      counted = counter_in-known_of a entries h.sorted

      first : (n : ℕ) → nat_le 1 (n + 1) ≡ true
      first n = grind (arith, nat_tests)

      counter : (b : Actor) → counter_in (known_of (put actor_cmp a next entries)) b ≡ counter_in (insert_max dot (known_of entries)) b
      counter b =
          counter_in-known_of b (put actor_cmp a next entries) after.sorted
          ∙ ap (λ r. r.0) (entry_for-put b a next entries)
          ∙ by (actor_eq b a) refl
          ∙ ap (λ t. cond t (max dot.counter (counter_in (known_of entries) b)) (counter_in (known_of entries) b)) (actor_eq-back b a)
          ∙ sym (counter_in-insert_max dot (known_of entries) b)
        where
          above : (n m : ℕ) → m ≡ n → n + 1 ≡ max (m + 1) m
          above n m e = omega arith

          by : (t : Bool) → actor_eq b a ≡ t
              → (let r : ℕ × List V = cond t next (entry_for b entries) in r).0 ≡ cond t (max dot.counter (counter_in (known_of entries) b)) (counter_in (known_of entries) b)
          by true e =
              let same : b ≡ a = actor_eq-same b a e in
              above (entry_for a entries).0 (counter_in (known_of entries) a) counted
              ∙ ap (λ k. max dot.counter (counter_in (known_of entries) k)) (sym same)
          by false e = sym (counter_in-known_of b entries h.sorted)

      knows : known_of (put actor_cmp a next entries) ≡ insert_max dot (known_of entries)
      knows =
          same_pairs (known_of (put actor_cmp a next entries)) (insert_max dot (known_of entries))
          (IsVersionVector-known_of (put actor_cmp a next entries) after)
          (IsVersionVector-insert_max dot (known_of entries) (first (counter_in (known_of entries) a)) (IsVersionVector-known_of entries h)) counter

      value_of : (d : Dot) → find show_cmp d (live_of (put actor_cmp a next entries)) ≡ find show_cmp d (put show_cmp dot value (live_of entries))
      value_of d =
          find-live_of d (put actor_cmp a next entries) after.sorted after.each
          ∙ ap (λ r. value_at r d.counter) (entry_for-put d.actor a next entries)
          ∙ by (actor_eq d.actor a) refl
          ∙ (λ i. cond (actor_eq d.actor a && nat_eq d.counter (sym (ap (λ n. n + 1) counted) i)) (Some value) (sym (find-live_of d entries h.sorted h.each) i))
          ∙ ap (λ t. cond t (Some value) (find show_cmp d (live_of entries))) (sym (eq_by_cmp-dot d dot))
          ∙ sym (find-put show_cmp show_cmp_total d dot value (live_of entries))
        where
          by : (t : Bool) → actor_eq d.actor a ≡ t
              → value_at (cond t next (entry_for d.actor entries)) d.counter ≡ cond (t && nat_eq d.counter ((entry_for a entries).0 + 1)) (Some value) (value_at (entry_for d.actor entries) d.counter)
          by true e =
              let same : d.actor ≡ a = actor_eq-same d.actor a e in
              sym (value_at-with (entry_for a entries).0 d.counter value (entry_for a entries).1)
              ∙ ap (λ k. cond (nat_eq d.counter ((entry_for a entries).0 + 1)) (Some value) (value_at (entry_for k entries) d.counter)) (sym same)
          by false e = refl

      lives : live_of (put actor_cmp a next entries) ≡ put show_cmp dot value (live_of entries)
      lives =
          same_entries show_cmp show_cmp_total show_cmp-same (live_of (put actor_cmp a next entries)) (put show_cmp dot value (live_of entries))
          (is_sorted-live_of (put actor_cmp a next entries) after.sorted after.each)
          (is_sorted-put show_cmp show_cmp_total dot value (live_of entries) (is_sorted-live_of entries h.sorted h.each)) value_of

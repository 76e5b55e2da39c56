-- How many values a sync leaves.
use Rattle.std.proofs.Common.{◌≡◌, ℕ, zero, suc, ◌+◌, ◌-◌, ◌≤◌, ◌<◌, cond, IsTrue, List, [], ◌∷◌, length, drop, get_or, refl, sym, ◌∙◌, ap, arith, length-append}
use Rattle.std.specs.Prelude.{T, min, Some, unwrap_or}
use Rattle.std.specs.List.{list_all}
use Rattle.std.specs.Ordering.{is_lt, is_eq, ordering_reverse}
use Rattle.std.specs.declared.cmp.Ordering.{Ordering}
use Rattle.std.specs.declared.cmp.Ordering.TheVariants.{Less, Equal, Greater}
use Rattle.std.specs.FinMap.Entries.{find, put, is_sorted, below_all, by_order, find-put}
use Rattle.std.proofs.lemmas.List.{length-take, take_all}
use Rattle.std.proofs.Math.Nat.{min_comm}
use Rattle.actor_epoch.specs.declared.Actor.{Actor}
use Rattle.actor_epoch.specs.Dots.{actor_cmp}
use Rattle.actor_epoch.proofs.Rising.{and_first, and_second}
use Rattle.actor_epoch.proofs.Order.{actor_cmp_total}
use Rattle.dvv_set.specs.declared.entry.Entry.{Entry}
use Rattle.dvv_set.specs.Stored.{clock_entry, clock_entries}
use Rattle.dvv_set.specs.Clocks.{sync}
use Rattle.dvv_set.specs.ClockEntries.{ClockEntries, AreEntries, values_from, live_of, dot_state_of, is_entry, entry_for, merged, merge_entry, merge_all}
use Rattle.dvv_set.specs.Sizes.{total, values_in_entry, values_merged, values_replaced}
use Rattle.dvv_set.proofs.ClockEntries.{entry_for-below, is_entry-positive, is_entry-within}
use Rattle.dvv_set.proofs.Live.{dot_state_of-merge_all}
use Rattle.dvv_set.proofs.Merges.{AreEntries-tail, AreEntries-merge_entry}
use Rattle.dvv_set.proofs.Orders.{T-first, T-second, T-less, below_all-less}
use Rattle.dvv_set.proofs.Walks.{merged-own_more, merged-other_more}

module _ {V : Type 0} where
  length-values_from : (a : Actor) (n : ℕ) (vs : List V) → length (values_from a n vs) ≡ length vs
  length-values_from a n [] = refl
  length-values_from a n (v ∷ vs) = ap suc (length-values_from a (n - 1) vs)

  length-live_of : (entries : ClockEntries V) → length (live_of entries) ≡ total values_in_entry entries
  length-live_of [] = refl
  length-live_of (entry ∷ entries) =
      length-append (values_from entry.0 entry.1.0 entry.1.1) (live_of entries) ∙ (λ i. length-values_from entry.0 entry.1.0 entry.1.1 i + length-live_of entries i)

  total-put : (a : Actor) (entry : ℕ × List V) (entries : ClockEntries V) → T (is_sorted actor_cmp entries)
      → total values_in_entry (put actor_cmp a entry entries) + length (entry_for a entries).1 ≡ total values_in_entry entries + length entry.1
  total-put a entry [] h = omega arith
  total-put a entry (first ∷ entries) h = by (actor_cmp a first.0) refl (total-put a entry entries (T-second (below_all actor_cmp first.0 entries) _ h))
    where
      by : (o : Ordering) → actor_cmp a first.0 ≡ o → total values_in_entry (put actor_cmp a entry entries) + length (entry_for a entries).1 ≡ total values_in_entry entries + length entry.1
          → total values_in_entry (by_order o ((a, entry) ∷ first ∷ entries) ((first.0, entry) ∷ entries) (first ∷ put actor_cmp a entry entries))
          + length (unwrap_or (cond (is_eq o) (Some first.1) (find actor_cmp a entries)) (0, [])).1 ≡ length first.1.1 + total values_in_entry entries + length entry.1
      by Less is rest =
          let none : entry_for a entries ≡ (0, []) = entry_for-below a entries (below_all-less actor_cmp actor_cmp_total a first.0 entries is (T-first (below_all actor_cmp first.0 entries) _ h)) in
          let gone : length (entry_for a entries).1 ≡ 0 = ap (λ (r : ℕ × List V). length r.1) none in
          omega (arith, gone)
      by Equal is rest = omega arith
      by Greater is rest = omega (arith, rest)

  -- the entries of the actors above one stay
  total-above : (f : ℕ × List V → ℕ × List V → ℕ) (entry : Actor × (ℕ × List V)) (others entries : ClockEntries V) → T (below_all actor_cmp entry.0 others)
      → total (λ other. f (entry_for other.0 (merge_entry entry entries)) other.1) others ≡ total (λ other. f (entry_for other.0 entries) other.1) others
  total-above f entry [] entries h = refl
  total-above f entry (other ∷ others) entries h =
      let less : actor_cmp entry.0 other.0 ≡ Less = T-less _ (T-first (is_lt (actor_cmp entry.0 other.0)) _ h) in
      let greater : actor_cmp other.0 entry.0 ≡ Greater = actor_cmp_total.antisymm other.0 entry.0 ∙ ap ordering_reverse less in
      let same : find actor_cmp other.0 (merge_entry entry entries) ≡ find actor_cmp other.0 entries =
      find-put actor_cmp actor_cmp_total other.0 entry.0 (merged (entry_for entry.0 entries) entry.1) entries
      ∙ ap (λ o. cond (is_eq o) (Some (merged (entry_for entry.0 entries) entry.1)) (find actor_cmp other.0 entries)) greater in
      let rest = total-above f entry others entries (T-second (is_lt (actor_cmp entry.0 other.0)) _ h) in
      λ i. f (unwrap_or (same i) (0, [])) other.1 + rest i

  pub total-merge_all : (others entries : ClockEntries V) → AreEntries others → AreEntries entries
      → total values_in_entry (merge_all others entries) + total (values_replaced entries) others ≡ total values_in_entry entries + total (values_merged entries) others
  total-merge_all [] entries g h = refl
  total-merge_all (entry ∷ others) entries g h =
      let above = T-first (below_all actor_cmp entry.0 others) _ g.sorted in
      let rest = total-merge_all others (merge_entry entry entries) (AreEntries-tail entry others g) (AreEntries-merge_entry entry entries (and_first (is_entry entry) (list_all is_entry others) g.each) h) in
      let here = total-put entry.0 (merged (entry_for entry.0 entries) entry.1) entries h.sorted in
      let m : total (values_merged (merge_entry entry entries)) others ≡ total (values_merged entries) others = total-above (λ own other. length (merged own other).1) entry others entries above in
      let r : total (values_replaced (merge_entry entry entries)) others ≡ total (values_replaced entries) others = total-above (λ own other. length own.1) entry others entries above in
      omega (arith, rest, here, m, r)

  -- how many values two entries are merged to, by which has seen more
  pub length-merged-own : (own other : ℕ × List V) → other.0 ≤ own.0 → length (merged own other).1 ≡ min (length own.1) (own.0 - other.0 + length other.1)
  length-merged-own own other h = ap (λ r. length r.1) (merged-own_more own other h) ∙ length-take (own.0 - other.0 + length other.1) own.1 ∙ min_comm _ _

  pub length-merged-other : (own other : ℕ × List V) → own.0 < other.0 → length (merged own other).1 ≡ min (length other.1) (other.0 - own.0 + length own.1)
  length-merged-other own other h = ap (λ r. length r.1) (merged-other_more own other h) ∙ length-take (other.0 - own.0 + length own.1) other.1 ∙ min_comm _ _

  -- an entry that is merged in where its actor has none stays as it is
  pub length-merged-none : (other : Actor × (ℕ × List V)) → IsTrue (is_entry other) → length (merged (0, []) other.1).1 ≡ length other.1.1
  length-merged-none other h =
      let above : 1 ≤ other.1.0 = is_entry-positive other.1.0 (length other.1.1) h in
      let within : length other.1.1 ≤ other.1.0 = is_entry-within other.1.0 (length other.1.1) h in
      let none : ℕ × List V = (0, []) in
      ap (λ r. length r.1) (merged-other_more none other.1 (omega arith)) ∙ ap length (take_all (other.1.0 - 0 + 0) other.1.1 (omega arith))

  -- how many values a sync leaves
  pub length-live-sync : (entries others : ClockEntries V) → AreEntries entries → AreEntries others
      → length (sync (dot_state_of entries) (dot_state_of others)).live ≡ total values_in_entry (merge_all others entries)
  length-live-sync entries others h g = ap (λ m. length m.live) (sym (dot_state_of-merge_all others entries g h)) ∙ length-live_of (merge_all others entries)

  -- one entry after another
  pub total-next : (f : Actor × (ℕ × List V) → ℕ) (entries : List (Entry V)) (i : ℕ) (d : Entry V) → i < length entries
      → total f (clock_entries (drop i entries)) ≡ f (clock_entry (get_or entries i d)) + total f (clock_entries (drop (i + 1) entries))
  total-next f entries i d h = let one : i + 1 ≡ suc i = omega arith in rw one (by entries i h)
    where
      by : (entries : List (Entry V)) (i : ℕ) → i < length entries → total f (clock_entries (drop i entries)) ≡ f (clock_entry (get_or entries i d)) + total f (clock_entries (drop (suc i) entries))
      by [] i h = absurd (omega arith)
      by (entry ∷ entries) zero h = refl
      by (entry ∷ entries) (suc i) h = by entries i (omega arith)

  pub each-get : (entries : List (Entry V)) (i : ℕ) (d : Entry V) → i < length entries → IsTrue (list_all is_entry (clock_entries entries)) → IsTrue (is_entry (clock_entry (get_or entries i d)))
  each-get [] i d h r = absurd (omega arith)
  each-get (entry ∷ entries) zero d h r = and_first (is_entry (clock_entry entry)) (list_all is_entry (clock_entries entries)) r
  each-get (entry ∷ entries) (suc i) d h r = each-get entries i d (omega arith) (and_second (is_entry (clock_entry entry)) (list_all is_entry (clock_entries entries)) r)

-- How many actors and values there are.
use Rattle.std.proofs.Common.{◌≡◌, ℕ, zero, suc, ◌+◌, ◌<◌, ◌≤◌, drop, get_or, Bool, true, false, ◌&&◌, cond, IsTrue, List, [], ◌∷◌, length, refl, sym, ◌∙◌, ap, arith}
use Rattle.std.specs.Prelude.{T, nat_le, Some, is_some}
use Rattle.std.specs.List.{list_all}
use Rattle.std.specs.Ordering.{is_lt, is_eq, ordering_reverse}
use Rattle.std.specs.declared.cmp.Ordering.TheVariants.{Less, Greater}
use Rattle.std.specs.FinMap.Entries.{find, below_all, find-put, length-put}
use Rattle.std.proofs.lemmas.Bool.Decides.{nat_tests}
use Rattle.std.proofs.lemmas.List.{length-map}
use Rattle.actor_epoch.specs.declared.Actor.{Actor}
use Rattle.actor_epoch.specs.declared.Dot.{Dot}
use Rattle.actor_epoch.specs.Dots.{actor_cmp}
use Rattle.actor_epoch.proofs.Rising.{and_first, and_second}
use Rattle.actor_epoch.proofs.Order.{actor_cmp_total}
use Rattle.dvv_set.specs.declared.entry.Entry.{Entry}
use Rattle.dvv_set.specs.Stored.{actor_of, clock_entries}
use Rattle.dvv_set.specs.ClockEntries.{ClockEntries, known_of, dot_state_of, is_entry, entry_for, merged, merge_entry, merge_all, AreEntries, count_new, entries_of_pairs}
use Rattle.actor_epoch.specs.Contexts.{is_well_formed}
use Rattle.dvv_set.specs.Clocks.{sync, discard}
use Rattle.dvv_set.proofs.Events.{AreEntries-pairs, dot_state_of-without}
use Rattle.dvv_set.proofs.Live.{dot_state_of-merge_all}
use Rattle.dvv_set.proofs.Orders.{T-first, T-second, T-less}
use Rattle.dvv_set.proofs.Merges.{AreEntries-tail, AreEntries-merge_entry}

module _ {V : Type 0} where
  pub length-known_of : (entries : ClockEntries V) → length (known_of entries) ≡ length entries
  length-known_of [] = refl
  length-known_of (entry ∷ entries) = ap suc (length-known_of entries)

  count_new-merge_entry : (entry : Actor × (ℕ × List V)) (others entries : ClockEntries V) → T (below_all actor_cmp entry.0 others) → count_new others (merge_entry entry entries) ≡ count_new others entries
  count_new-merge_entry entry [] entries h = refl
  count_new-merge_entry entry (other ∷ others) entries h =
      let less : actor_cmp entry.0 other.0 ≡ Less = T-less _ (T-first (is_lt (actor_cmp entry.0 other.0)) _ h) in
      let greater : actor_cmp other.0 entry.0 ≡ Greater = actor_cmp_total.antisymm other.0 entry.0 ∙ ap ordering_reverse less in
      let same : find actor_cmp other.0 (merge_entry entry entries) ≡ find actor_cmp other.0 entries =
      find-put actor_cmp actor_cmp_total other.0 entry.0 (merged (entry_for entry.0 entries) entry.1) entries
      ∙ ap (λ o. cond (is_eq o) (Some (merged (entry_for entry.0 entries) entry.1)) (find actor_cmp other.0 entries)) greater in
      let rest = count_new-merge_entry entry others entries (T-second (is_lt (actor_cmp entry.0 other.0)) _ h) in
      λ i. cond (is_some (same i)) 0 1 + rest i

  pub length-merge_all : (others entries : ClockEntries V) → AreEntries others → AreEntries entries → length (merge_all others entries) ≡ length entries + count_new others entries
  length-merge_all [] entries g h = omega arith
  length-merge_all (entry ∷ others) entries g h =
      length-merge_all others (merge_entry entry entries) (AreEntries-tail entry others g) (AreEntries-merge_entry entry entries (and_first (is_entry entry) (list_all is_entry others) g.each) h)
      ∙ (λ i. length-put actor_cmp actor_cmp_total entry.0 (merged (entry_for entry.0 entries) entry.1) entries h.sorted i
      + count_new-merge_entry entry others entries (T-first (below_all actor_cmp entry.0 others) _ g.sorted) i)
      ∙ by (is_some (find actor_cmp entry.0 entries)) (length entries) (count_new others entries)
    where
      by : (b : Bool) (n k : ℕ) → cond b n (n + 1) + k ≡ n + (cond b 0 1 + k)
      by true n k = omega arith
      by false n k = omega arith

  -- the first of others, and those after it
  pub AreEntries-rest : (all : ClockEntries V) (entry : Actor × (ℕ × List V)) (others : ClockEntries V) → all ≡ entry ∷ others → AreEntries all → AreEntries others
  AreEntries-rest all entry others e g = let g' : AreEntries (entry ∷ others) = rw (← e) g in AreEntries-tail entry others g'

  pub is_entry-first : (all : ClockEntries V) (entry : Actor × (ℕ × List V)) (others : ClockEntries V) → all ≡ entry ∷ others → AreEntries all → IsTrue (is_entry entry)
  is_entry-first all entry others e g = let g' : AreEntries (entry ∷ others) = rw (← e) g in and_first (is_entry entry) (list_all is_entry others) g'.each

  pub AreEntries-next : (all : ClockEntries V) (entry : Actor × (ℕ × List V)) (others entries next : ClockEntries V) → all ≡ entry ∷ others → next ≡ merge_entry entry entries
      → AreEntries all → AreEntries entries → AreEntries next
  AreEntries-next all entry others entries next e n g h = rw n (AreEntries-merge_entry entry entries (is_entry-first all entry others e g) h)

  pub merge_entry-fits : (all : ClockEntries V) (entry : Actor × (ℕ × List V)) (others entries : ClockEntries V) (n : ℕ) → all ≡ entry ∷ others
      → AreEntries all → AreEntries entries → length (merge_all all entries) ≤ n → length (merge_entry entry entries) ≤ n
  merge_entry-fits all entry others entries n e g h fits =
      let more = length-merge_all others (merge_entry entry entries) (AreEntries-rest all entry others e g) (AreEntries-merge_entry entry entries (is_entry-first all entry others e g) h) in
      let same = ap (λ rs. length (merge_all rs entries)) e in
      omega arith

  pub merge_all-next : (all : ClockEntries V) (entry : Actor × (ℕ × List V)) (others entries next : ClockEntries V) → all ≡ entry ∷ others → next ≡ merge_entry entry entries
      → merge_all others next ≡ merge_all all entries
  merge_all-next all entry others entries next e n = rw (e, n) refl

  pub count_new-within : (others entries : ClockEntries V) → count_new others entries ≤ length others
  count_new-within [] entries = omega arith
  count_new-within (entry ∷ others) entries = by (is_some (find actor_cmp entry.0 entries)) (count_new-within others entries)
    where
      by : (b : Bool) → count_new others entries ≤ length others → cond b 0 1 + count_new others entries ≤ suc (length others)
      by true h = omega arith
      by false h = omega arith

  -- the entry at an index, and those after it
  pub count_new-next : (others : List (Entry V)) (entries : ClockEntries V) (i : ℕ) (d : Entry V) → i < length others
      → count_new (clock_entries (drop i others)) entries ≡ cond (is_some (find actor_cmp (actor_of (get_or others i d).pair) entries)) 0 1 + count_new (clock_entries (drop (i + 1) others)) entries
  count_new-next others entries i d h = let one : i + 1 ≡ suc i = omega arith in rw one (by others i h)
    where
      by : (others : List (Entry V)) (i : ℕ) → i < length others
          → count_new (clock_entries (drop i others)) entries ≡ cond (is_some (find actor_cmp (actor_of (get_or others i d).pair) entries)) 0 1 + count_new (clock_entries (drop (suc i) others)) entries
      by [] i h = absurd (omega arith)
      by (other ∷ others) zero h = refl
      by (other ∷ others) (suc i) h = by others i (omega arith)

  -- how many actors a sync knows
  pub length-sync : (entries others : ClockEntries V) → AreEntries entries → AreEntries others
      → length (sync (dot_state_of entries) (dot_state_of others)).known ≡ length entries + count_new others entries
  length-sync entries others h g =
      ap (λ m. length m.known) (sym (dot_state_of-merge_all others entries g h)) ∙ length-known_of (merge_all others entries) ∙ length-merge_all others entries g h

  -- the same for a context's pairs
  pub length-discard : (entries : ClockEntries V) (pairs : List Dot) → AreEntries entries → IsTrue (is_well_formed pairs)
      → length (discard pairs (dot_state_of entries)).known ≡ length entries + count_new (entries_of_pairs pairs) entries
  length-discard entries pairs h f =
      ap (λ m. length m.known) (sym (dot_state_of-without (Some pairs) entries (λ ps e. let same : pairs ≡ ps = cc in ap is_well_formed (sym same) ∙ f) h))
      ∙ length-known_of (merge_all (entries_of_pairs pairs) entries)
      ∙ length-merge_all (entries_of_pairs pairs) entries (AreEntries-pairs V pairs f) h

  pub dot_state_of-discard : (entries : ClockEntries V) (pairs : List Dot) → AreEntries entries → IsTrue (is_well_formed pairs)
      → dot_state_of (merge_all (entries_of_pairs pairs) entries) ≡ discard pairs (dot_state_of entries)
  dot_state_of-discard entries pairs h f = dot_state_of-without (Some pairs) entries (λ ps e. let same : pairs ≡ ps = cc in ap is_well_formed (sym same) ∙ f) h

pub count_new-pairs-within : (V : Type 0) (pairs : List Dot) (entries : ClockEntries V) → IsTrue (is_well_formed pairs) → count_new (entries_of_pairs {V = V} pairs) entries ≤ 64
count_new-pairs-within V pairs entries f =
    let within = count_new-within (entries_of_pairs {V = V} pairs) entries in
    let long : length (entries_of_pairs {V = V} pairs) ≡ length pairs = length-map pairs (λ pair. (pair.actor, (pair.counter, (let none : List V = [] in none)))) in
    let few : nat_le (length pairs) 64 ≡ true = and_second (nat_le 1 (length pairs)) _ (and_first (nat_le 1 (length pairs) && nat_le (length pairs) 64) _ f) in
    let fits : length pairs ≤ 64 = grind (arith, nat_tests) in
    omega arith

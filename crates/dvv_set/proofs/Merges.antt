-- Entries with others merged in.
use Rattle.std.proofs.Common.{◌≡◌, ℕ, ◌+◌, ◌-◌, ◌≤◌, Bool, true, false, ◌&&◌, cond, IsTrue, List, [], ◌∷◌, length, take, refl, sym, ◌∙◌, ap, arith}
use Rattle.std.specs.Prelude.{nat_le, Some, unwrap_or}
use Rattle.std.specs.List.{list_all}
use Rattle.std.specs.declared.cmp.Ordering.{Ordering}
use Rattle.std.specs.declared.cmp.Ordering.TheVariants.{Less, Equal, Greater}
use Rattle.std.specs.Ordering.{eq_by_cmp}
use Rattle.std.specs.FinMap.Entries.{find, put, is_sorted, below_all, by_order, find-put, is_sorted-put}
use Rattle.std.proofs.lemmas.List.{take_all, length-take}
use Rattle.std.proofs.lemmas.Bool.Decides.{nat_tests}
use Rattle.actor_epoch.specs.declared.Actor.{Actor}
use Rattle.actor_epoch.specs.Dots.{actor_cmp, actor_eq}
use Rattle.actor_epoch.proofs.Rising.{and_first, and_second}
use Rattle.actor_epoch.proofs.Order.{actor_cmp_total, actor_eq-same}
use Rattle.dvv_set.specs.ClockEntries.{ClockEntries, is_entry, entry_for, merged, merge_entry, merge_all, AreEntries}
use Rattle.dvv_set.proofs.Orders.{T-first, T-second, eq_by_cmp-actor}
use Rattle.dvv_set.proofs.ClockEntries.{entry_for-below, is_entry-within, is_entry-positive}
use Rattle.std.proofs.lemmas.Bool.{and_from as both}

is_entry-of : (n k : ℕ) → 1 ≤ n → k ≤ n → (nat_le 1 n && nat_le k n) ≡ true
is_entry-of n k h g = grind (arith, nat_tests)

module _ {V : Type 0} where
  -- the entry of an actor after one was put
  pub entry_for-put : (a k : Actor) (entry : ℕ × List V) (entries : ClockEntries V) → entry_for a (put actor_cmp k entry entries) ≡ cond (actor_eq a k) entry (entry_for a entries)
  entry_for-put a k entry entries =
      ap (λ o. unwrap_or o (0, [])) (find-put actor_cmp actor_cmp_total a k entry entries)
      ∙ ap (λ b. unwrap_or (cond b (Some entry) (find actor_cmp a entries)) (0, [])) (eq_by_cmp-actor a k)
      ∙ by (actor_eq a k)
    where
      by : (b : Bool) → unwrap_or (cond b (Some entry) (find actor_cmp a entries)) (0, []) ≡ cond b entry (entry_for a entries)
      by true = refl
      by false = refl

  -- entries stay entries with one put among them
  pub list_all-put : (k : Actor) (entry : ℕ × List V) (entries : ClockEntries V) → IsTrue (is_entry (k, entry)) → IsTrue (list_all is_entry entries) → IsTrue (list_all is_entry (put actor_cmp k entry entries))
  list_all-put k entry [] h r = both (is_entry (k, entry)) true h refl
  list_all-put k entry (first ∷ entries) h r = by (actor_cmp k first.0) (list_all-put k entry entries h (and_second (is_entry first) (list_all is_entry entries) r))
    where
      by : (o : Ordering) → IsTrue (list_all is_entry (put actor_cmp k entry entries))
          → IsTrue (list_all is_entry (by_order o ((k, entry) ∷ first ∷ entries) ((first.0, entry) ∷ entries) (first ∷ put actor_cmp k entry entries)))
      by Less rest = both (is_entry (k, entry)) _ h r
      by Equal rest = both (is_entry (k, entry)) _ h (and_second (is_entry first) (list_all is_entry entries) r)
      by Greater rest = both (is_entry first) _ (and_first (is_entry first) (list_all is_entry entries) r) rest

  -- the entry of an actor has no more values than dots
  pub entry_for-within : (a : Actor) (entries : ClockEntries V) → IsTrue (list_all is_entry entries) → length (entry_for a entries).1 ≤ (entry_for a entries).0
  entry_for-within a [] h = omega arith
  entry_for-within a (entry ∷ entries) h =
      by (eq_by_cmp actor_cmp a entry.0) (entry_for-within a entries (and_second (is_entry entry) (list_all is_entry entries) h))
    where
      by : (b : Bool) → length (entry_for a entries).1 ≤ (entry_for a entries).0
          → length (unwrap_or (cond b (Some entry.1) (find actor_cmp a entries)) (0, [])).1 ≤ (unwrap_or (cond b (Some entry.1) (find actor_cmp a entries)) (0, [])).0
      by true rest = is_entry-within entry.1.0 (length entry.1.1) (and_first (is_entry entry) (list_all is_entry entries) h)
      by false rest = rest

  -- a merge of two entries is one
  pub is_entry-merged : (a : Actor) (own other : ℕ × List V) → length own.1 ≤ own.0 → IsTrue (is_entry (a, other)) → IsTrue (is_entry (a, merged own other))
  is_entry-merged a own other h r = by (nat_le other.0 own.0) refl
    where
      within : length other.1 ≤ other.0
      within = is_entry-within other.0 (length other.1) r

      positive : 1 ≤ other.0
      positive = is_entry-positive other.0 (length other.1) r

      by : (b : Bool) → nat_le other.0 own.0 ≡ b
          → IsTrue (is_entry (a, cond b (own.0, take (own.0 - other.0 + length other.1) own.1) (other.0, take (other.0 - own.0 + length own.1) other.1)))
      by true e =
          let above : other.0 ≤ own.0 = grind (arith, nat_tests) in
          is_entry-of own.0 (length (take (own.0 - other.0 + length other.1) own.1)) (omega (arith, positive)) (omega (arith, length-take (own.0 - other.0 + length other.1) own.1))
      by false e =
          is_entry-of other.0 (length (take (other.0 - own.0 + length own.1) other.1)) positive (omega (arith, within, length-take (other.0 - own.0 + length own.1) other.1))

  pub merged-none : (own : ℕ × List V) → length own.1 ≤ own.0 → merged own (0, []) ≡ own
  merged-none own h =
      let t : nat_le 0 own.0 ≡ true = grind (arith, nat_tests) in
      ap (λ b. cond b (own.0, take (own.0 - 0 + 0) own.1) (0, take (0 - own.0 + length own.1) (let none : List V = [] in none))) t
      ∙ (λ i. (own.0, take_all (own.0 - 0 + 0) own.1 (omega arith) i))

  pub AreEntries-merge_entry : (entry : Actor × (ℕ × List V)) (entries : ClockEntries V) → IsTrue (is_entry entry) → AreEntries entries → AreEntries (merge_entry entry entries)
  AreEntries-merge_entry entry entries r h = record {
    sorted = is_sorted-put actor_cmp actor_cmp_total entry.0 (merged (entry_for entry.0 entries) entry.1) entries h.sorted;
    each =
        list_all-put entry.0 (merged (entry_for entry.0 entries) entry.1) entries
        (is_entry-merged entry.0 (entry_for entry.0 entries) entry.1 (entry_for-within entry.0 entries h.each) r) h.each;
  }

  pub AreEntries-tail : (entry : Actor × (ℕ × List V)) (entries : ClockEntries V) → AreEntries (entry ∷ entries) → AreEntries entries
  AreEntries-tail entry entries h = record {
    sorted = T-second (below_all actor_cmp entry.0 entries) _ h.sorted;
    each = and_second (is_entry entry) (list_all is_entry entries) h.each;
  }

  pub AreEntries-merge_all : (others entries : ClockEntries V) → AreEntries others → AreEntries entries → AreEntries (merge_all others entries)
  AreEntries-merge_all [] entries g h = h
  AreEntries-merge_all (entry ∷ others) entries g h =
      AreEntries-merge_all others (merge_entry entry entries) (AreEntries-tail entry others g) (AreEntries-merge_entry entry entries (and_first (is_entry entry) (list_all is_entry others) g.each) h)

  -- the entry of an actor after all were merged in
  pub entry_for-merge_all : (a : Actor) (others entries : ClockEntries V) → AreEntries others → AreEntries entries
      → entry_for a (merge_all others entries) ≡ merged (entry_for a entries) (entry_for a others)
  entry_for-merge_all a [] entries g h = sym (merged-none (entry_for a entries) (entry_for-within a entries h.each))
  entry_for-merge_all a (entry ∷ others) entries g h =
      let own : IsTrue (is_entry entry) = and_first (is_entry entry) (list_all is_entry others) g.each in
      entry_for-merge_all a others (merge_entry entry entries) (AreEntries-tail entry others g) (AreEntries-merge_entry entry entries own h)
      ∙ ap (λ r. merged r (entry_for a others)) (entry_for-put a entry.0 (merged (entry_for entry.0 entries) entry.1) entries)
      ∙ by (actor_eq a entry.0) refl
      ∙ ap (λ b. merged (entry_for a entries) (unwrap_or (cond b (Some entry.1) (find actor_cmp a others)) (0, []))) (sym (eq_by_cmp-actor a entry.0))
    where
      by : (b : Bool) → actor_eq a entry.0 ≡ b
          → merged (cond b (merged (entry_for entry.0 entries) entry.1) (entry_for a entries)) (entry_for a others)
          ≡ merged (entry_for a entries) (unwrap_or (cond b (Some entry.1) (find actor_cmp a others)) (0, []))
      by true e =
          let same : a ≡ entry.0 = actor_eq-same a entry.0 e in
          let gone : entry_for a others ≡ (0, []) = ap (λ k. entry_for k others) same ∙ entry_for-below entry.0 others (T-first _ (is_sorted actor_cmp others) g.sorted) in
          let fits : IsTrue (is_entry (entry.0, merged (entry_for entry.0 entries) entry.1)) =
          is_entry-merged entry.0 (entry_for entry.0 entries) entry.1 (entry_for-within entry.0 entries h.each) (and_first (is_entry entry) (list_all is_entry others) g.each) in
          ap (merged (merged (entry_for entry.0 entries) entry.1)) gone
          ∙ merged-none (merged (entry_for entry.0 entries) entry.1) (is_entry-within _ (length (merged (entry_for entry.0 entries) entry.1).1) fits)
          ∙ ap (λ k. merged (entry_for k entries) entry.1) (sym same)
      by false e = refl

-- Entries mean a clock.
use Rattle.std.proofs.Common.{◌≡◌, ℕ, ◌-◌, ◌≤◌, Bool, true, false, ◌&&◌, cond, IsTrue, List, [], ◌∷◌, length, refl, sym, ◌∙◌, ap, arith}
use Rattle.std.specs.Prelude.{T, nat_le, nat_lt, None, is_some}
use Rattle.std.specs.List.{slice_get}
use Rattle.std.specs.Ordering.{is_lt}
use Rattle.std.specs.FinMap.Entries.{is_sorted, below_all}
use Rattle.std.proofs.lemmas.Bool.Decides.{nat_tests}
use Rattle.actor_epoch.specs.Dots.{actor_cmp}
use Rattle.actor_epoch.specs.Contexts.{is_rising}
use Rattle.dvv_set.specs.ClockEntries.{ClockEntries, AreEntries, dot_state_of, known_of, live_of, entry_for}
use Rattle.dvv_set.specs.Laws.{IsClock}
use Rattle.dvv_set.proofs.Orders.{T-first, T-second, T-true}
use Rattle.dvv_set.proofs.ClockEntries.{value_at, find-live_of, is_sorted-live_of}
use Rattle.dvv_set.proofs.Merge.{is_some-slice_get}
use Rattle.dvv_set.proofs.Merges.{entry_for-within}
use Rattle.dvv_set.proofs.Known.{IsVersionVector-known_of}
use Rattle.dvv_set.proofs.Live.{is_some-find}
use Rattle.dvv_set.proofs.Counts.{length-known_of}
use Rattle.dvv_set.proofs.Ready.{covers-entries}

module _ {V : Type 0} where
  rising-known_of : (entries : ClockEntries V) → T (is_sorted actor_cmp entries) → IsTrue (is_rising (known_of entries))
  rising-known_of [] h = refl
  rising-known_of (entry ∷ []) h = refl
  rising-known_of (entry ∷ next ∷ entries) h =
      let less : IsTrue (is_lt (actor_cmp entry.0 next.0)) = T-true _ (T-first (is_lt (actor_cmp entry.0 next.0)) _ (T-first (below_all actor_cmp entry.0 (next ∷ entries)) _ h)) in
      let rest : IsTrue (is_rising (known_of (next ∷ entries))) = rising-known_of (next ∷ entries) (T-second (below_all actor_cmp entry.0 (next ∷ entries)) _ h) in
      λ i. less i && rest i

  value_known : (n c : ℕ) (vs : List V) → length vs ≤ n → is_some (value_at (n, vs) c) ≡ true → (nat_le 1 c && nat_le c n) ≡ true
  value_known n c vs h s = by (nat_le c n) refl s
    where
      by : (b : Bool) → nat_le c n ≡ b → is_some (cond b (slice_get vs (n - c)) None) ≡ true → (nat_le 1 c && nat_le c n) ≡ true
      by true e t = let within : nat_lt (n - c) (length vs) ≡ true = sym (is_some-slice_get vs (n - c)) ∙ t in grind (arith, nat_tests)
      by false e t = cc

  pub IsClock-dot_state_of : (entries : ClockEntries V) → AreEntries entries → length entries ≤ 64 → IsClock (dot_state_of entries)
  IsClock-dot_state_of entries h few = record {
    rising = rising-known_of entries h.sorted;
    few = omega (arith, few, length-known_of entries);
    positive = (IsVersionVector-known_of entries h).positive;
    live_known = λ d live.
        covers-entries entries d h
        ∙ value_known (entry_for d.actor entries).0 d.counter (entry_for d.actor entries).1 (entry_for-within d.actor entries h.each)
        (ap is_some (sym (find-live_of d entries h.sorted h.each)) ∙ sym (is_some-find d (live_of entries)) ∙ live);
    shown = is_sorted-live_of entries h.sorted h.each;
  }

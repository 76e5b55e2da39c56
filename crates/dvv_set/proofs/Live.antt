-- The live dots of a sync, one by one.
use Rattle.std.proofs.Common.{◌≡◌, Bool, true, false, not, ◌&&◌, ◌||◌, cond, List, [], ◌∷◌, map, refl, sym, ◌∙◌, ap, arith}
use Rattle.std.specs.Prelude.{T, nat_le, nat_eq, Some, None, is_some, unwrap_or}
use Rattle.std.specs.Option.{option_or, option_map}
use Rattle.std.specs.List.{list_any}
use Rattle.std.specs.declared.cmp.Ordering.TheVariants.{Equal}
use Rattle.std.specs.Ordering.{is_eq, eq_by_cmp}
use Rattle.std.specs.FinMap.Entries.{find, is_sorted, below_all, where_key, find-put, find-where_key, is_sorted-put, is_sorted-where_key, same_entries}
use Rattle.std.proofs.lemmas.Bool.Decides.{nat_tests}
use Rattle.actor_epoch.specs.declared.Dot.{Dot}
use Rattle.actor_epoch.specs.Dots.{actor_eq, dot_eq, covers}
use Rattle.actor_epoch.proofs.Rising.{and_first, and_second}
use Rattle.actor_epoch.proofs.Order.{actor_eq-same, covers-counter_in}
use Rattle.dvv_set.specs.Clocks.{DotState, show_cmp, is_live, put_all, value_in, sync}
use Rattle.dvv_set.specs.ClockEntries.{ClockEntries, AreEntries, live_of, dot_state_of, entry_for, merge_all}
use Rattle.dvv_set.proofs.Orders.{show_cmp_total, eq_by_cmp-dot, nat_eq-back, T-first, T-second, T-both}
use Rattle.dvv_set.proofs.ClockEntries.{value_at, actor_eq-back, find-live_of, is_sorted-live_of, counter_in-known_of}
use Rattle.dvv_set.proofs.Merge.{value_at-merged, synced_value}
use Rattle.dvv_set.proofs.Merges.{entry_for-merge_all, AreEntries-merge_all, entry_for-within}
use Rattle.dvv_set.proofs.Known.{known_of-merge_all}

pub dot_eq-same : (a b : Dot) → dot_eq a b ≡ true → a ≡ b
dot_eq-same a b h =
    let actors : a.actor ≡ b.actor = actor_eq-same a.actor b.actor (and_first _ (nat_eq a.counter b.counter) h) in
    let t : nat_eq a.counter b.counter ≡ true = and_second (actor_eq a.actor b.actor) _ h in
    let counters : a.counter ≡ b.counter = grind (arith, nat_tests) in
    λ i. record { actor = actors i; counter = counters i }

pub dot_eq-back : (a b : Dot) → dot_eq a b ≡ dot_eq b a
dot_eq-back a b = λ i. actor_eq-back a.actor b.actor i && nat_eq-back a.counter b.counter i

pub show_cmp-same : (a b : Dot) → show_cmp a b ≡ Equal → a ≡ b
show_cmp-same a b h = dot_eq-same a b (sym (eq_by_cmp-dot a b) ∙ ap is_eq h)

pub alike : (p : Dot → Bool) (d x : Dot) → show_cmp d x ≡ Equal → p x ≡ p d
alike p d x h = ap p (sym (show_cmp-same d x h))

module _ {V : Type 0} where
  pub is_some-find : (d : Dot) (live : List (Dot × V)) → list_any (λ entry. dot_eq entry.0 d) live ≡ is_some (find show_cmp d live)
  is_some-find d [] = refl
  is_some-find d (e ∷ live) =
      ap (λ b. b || list_any (λ entry. dot_eq entry.0 d) live) (dot_eq-back e.0 d ∙ sym (eq_by_cmp-dot d e.0)) ∙ by (eq_by_cmp show_cmp d e.0) (is_some-find d live)
    where
      by : (b : Bool) → list_any (λ entry. dot_eq entry.0 d) live ≡ is_some (find show_cmp d live)
          → (b || list_any (λ entry. dot_eq entry.0 d) live) ≡ is_some (cond b (Some e.1) (find show_cmp d live))
      by true h = refl
      by false h = h

  find-put_all : (d : Dot) (entries live : List (Dot × V)) → find show_cmp d (put_all entries live) ≡ option_or (find show_cmp d entries) (find show_cmp d live)
  find-put_all d [] live = refl
  find-put_all d (e ∷ entries) live =
      find-put show_cmp show_cmp_total d e.0 e.1 (put_all entries live) ∙ by (eq_by_cmp show_cmp d e.0) (find-put_all d entries live)
    where
      by : (b : Bool) → find show_cmp d (put_all entries live) ≡ option_or (find show_cmp d entries) (find show_cmp d live)
          → cond b (Some e.1) (find show_cmp d (put_all entries live)) ≡ option_or (cond b (Some e.1) (find show_cmp d entries)) (find show_cmp d live)
      by true h = refl
      by false h = h

  is_sorted-put_all : (entries live : List (Dot × V)) → T (is_sorted show_cmp live) → T (is_sorted show_cmp (put_all entries live))
  is_sorted-put_all [] live h = h
  is_sorted-put_all (e ∷ entries) live h = is_sorted-put show_cmp show_cmp_total e.0 e.1 (put_all entries live) (is_sorted-put_all entries live h)

  below_all-revalue : (f : Dot × V → V) (d : Dot) (live : List (Dot × V)) → T (below_all show_cmp d live) → T (below_all show_cmp d (map (λ entry. (entry.0, f entry)) live))
  below_all-revalue f d [] h = tt
  below_all-revalue f d (e ∷ live) h = T-both _ _ (T-first _ (below_all show_cmp d live) h) (below_all-revalue f d live (T-second _ (below_all show_cmp d live) h))

  is_sorted-revalue : (f : Dot × V → V) (live : List (Dot × V)) → T (is_sorted show_cmp live) → T (is_sorted show_cmp (map (λ entry. (entry.0, f entry)) live))
  is_sorted-revalue f [] h = tt
  is_sorted-revalue f (e ∷ live) h =
      T-both _ _ (below_all-revalue f e.0 live (T-first (below_all show_cmp e.0 live) _ h)) (is_sorted-revalue f live (T-second (below_all show_cmp e.0 live) _ h))

  find-revalue : (f : Dot × V → V) (d : Dot) (live : List (Dot × V)) → find show_cmp d (map (λ entry. (entry.0, f entry)) live) ≡ option_map (λ v. f (d, v)) (find show_cmp d live)
  find-revalue f d [] = refl
  find-revalue f d (e ∷ live) = by (eq_by_cmp show_cmp d e.0) refl (find-revalue f d live)
    where
      by : (b : Bool) → eq_by_cmp show_cmp d e.0 ≡ b → find show_cmp d (map (λ entry. (entry.0, f entry)) live) ≡ option_map (λ v. f (d, v)) (find show_cmp d live)
          → cond b (Some (f e)) (find show_cmp d (map (λ entry. (entry.0, f entry)) live)) ≡ option_map (λ v. f (d, v)) (cond b (Some e.1) (find show_cmp d live))
      by true t h = let same : d ≡ e.0 = dot_eq-same d e.0 (sym (eq_by_cmp-dot d e.0) ∙ t) in λ i. Some (f (sym same i, e.1))
      by false t h = h

  -- the value of a dot after a sync
  pub find-sync : (own other : DotState V) (d : Dot)
      → find show_cmp d (sync own other).live
      ≡ option_or
      (cond (not (covers own.known d)) (find show_cmp d other.live) None)
      (option_map (λ v. value_in own other (d, v)) (cond (is_live other d || not (covers other.known d)) (find show_cmp d own.live) None))
  find-sync own other d =
      find-put_all d (where_key show_cmp (λ x. not (covers own.known x)) other.live)
      (map (λ entry. (entry.0, value_in own other entry)) (where_key show_cmp (λ x. is_live other x || not (covers other.known x)) own.live))
      ∙ (λ i. option_or
      (find-where_key show_cmp (λ x. not (covers own.known x)) d (alike (λ x. not (covers own.known x)) d) other.live i)
      (kept i))
    where
      kept : find show_cmp d (map (λ entry. (entry.0, value_in own other entry)) (where_key show_cmp (λ x. is_live other x || not (covers other.known x)) own.live))
          ≡ option_map (λ v. value_in own other (d, v)) (cond (is_live other d || not (covers other.known d)) (find show_cmp d own.live) None)
      kept =
          find-revalue (value_in own other) d (where_key show_cmp (λ x. is_live other x || not (covers other.known x)) own.live)
          ∙ ap (option_map (λ v. value_in own other (d, v)))
          (find-where_key show_cmp (λ x. is_live other x || not (covers other.known x)) d (alike (λ x. is_live other x || not (covers other.known x)) d) own.live)

  pub is_sorted-sync : (own other : DotState V) → T (is_sorted show_cmp own.live) → T (is_sorted show_cmp (sync own other).live)
  is_sorted-sync own other h =
      is_sorted-put_all (where_key show_cmp (λ x. not (covers own.known x)) other.live)
      (map (λ entry. (entry.0, value_in own other entry)) (where_key show_cmp (λ x. is_live other x || not (covers other.known x)) own.live))
      (is_sorted-revalue (value_in own other) (where_key show_cmp (λ x. is_live other x || not (covers other.known x)) own.live)
      (is_sorted-where_key show_cmp (λ x. is_live other x || not (covers other.known x)) own.live h))

  -- entries with others merged in mean a sync
  pub dot_state_of-merge_all : (others entries : ClockEntries V) → AreEntries others → AreEntries entries → dot_state_of (merge_all others entries) ≡ sync (dot_state_of entries) (dot_state_of others)
  dot_state_of-merge_all others entries g h = λ i. record { known = known_of-merge_all others entries g h i; live = live i }
    where
      after : AreEntries (merge_all others entries)
      after = AreEntries-merge_all others entries g h

      own : (d : Dot) → find show_cmp d (live_of entries) ≡ value_at (entry_for d.actor entries) d.counter
      own d = find-live_of d entries h.sorted h.each

      other : (d : Dot) → find show_cmp d (live_of others) ≡ value_at (entry_for d.actor others) d.counter
      other d = find-live_of d others g.sorted g.each

      counted : (d : Dot) → covers (dot_state_of entries).known d ≡ (nat_le 1 d.counter && nat_le d.counter (entry_for d.actor entries).0)
      counted d = covers-counter_in (dot_state_of entries).known d ∙ ap (λ n. nat_le 1 d.counter && nat_le d.counter n) (counter_in-known_of d.actor entries h.sorted)

      counted_there : (d : Dot) → covers (dot_state_of others).known d ≡ (nat_le 1 d.counter && nat_le d.counter (entry_for d.actor others).0)
      counted_there d = covers-counter_in (dot_state_of others).known d ∙ ap (λ n. nat_le 1 d.counter && nat_le d.counter n) (counter_in-known_of d.actor others g.sorted)

      value_of : (d : Dot) (v : V) → value_in (dot_state_of entries) (dot_state_of others) (d, v) ≡ cond (nat_le (entry_for d.actor others).0 (entry_for d.actor entries).0) v (unwrap_or (value_at (entry_for d.actor others) d.counter) v)
      value_of d v = λ i. cond (nat_le (counter_in-known_of d.actor others g.sorted i) (counter_in-known_of d.actor entries h.sorted i)) v (unwrap_or (other d i) v)

      synced : (d : Dot) → find show_cmp d (sync (dot_state_of entries) (dot_state_of others)).live ≡ synced_value (entry_for d.actor entries) (entry_for d.actor others) d.counter
      synced d =
          find-sync (dot_state_of entries) (dot_state_of others) d
          ∙ (λ i. option_or
          (cond (not (counted d i)) (other d i) None)
          (option_map (λ v. value_of d v i) (cond ((is_some-find d (live_of others) ∙ ap is_some (other d)) i || not (counted_there d i)) (own d i) None)))

      live : live_of (merge_all others entries) ≡ (sync (dot_state_of entries) (dot_state_of others)).live
      live =
          same_entries show_cmp show_cmp_total show_cmp-same (live_of (merge_all others entries)) (sync (dot_state_of entries) (dot_state_of others)).live
          (is_sorted-live_of (merge_all others entries) after.sorted after.each)
          (is_sorted-sync (dot_state_of entries) (dot_state_of others) (is_sorted-live_of entries h.sorted h.each))
          (λ d. find-live_of d (merge_all others entries) after.sorted after.each
          ∙ ap (λ r. value_at r d.counter) (entry_for-merge_all d.actor others entries g h)
          ∙ value_at-merged (entry_for d.actor entries) (entry_for d.actor others) d.counter (entry_for-within d.actor entries h.each) (entry_for-within d.actor others g.each)
          ∙ sym (synced d))

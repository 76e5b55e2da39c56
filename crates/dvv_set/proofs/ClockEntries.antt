-- What entries mean, dot by dot.
use Rattle.std.proofs.Common.{◌≡◌, ℕ, zero, suc, ◌-◌, ◌<◌, ◌≤◌, Bool, true, false, ◌&&◌, cond, IsTrue, List, [], ◌∷◌, length, refl, sym, ◌∙◌, ap, arith}
use Rattle.std.specs.Prelude.{T, nat_lt, nat_eq, nat_le, max, Option, Some, None, unwrap_or}
use Rattle.std.specs.Option.{option_or}
use Rattle.std.specs.List.{list_all, slice_get}
use Rattle.std.specs.declared.cmp.Ordering.TheVariants.{Less, Equal, Greater}
use Rattle.std.specs.Ordering.{is_lt, nat_cmp, ordering_then}
use Rattle.std.specs.Cmp.{tied_itself}
use Rattle.std.specs.FinMap.Entries.{find, is_sorted, below_all}
use Rattle.std.proofs.lemmas.Bool.Decides.{nat_tests}
use Rattle.actor_epoch.specs.declared.Actor.{Actor}
use Rattle.actor_epoch.specs.declared.Dot.{Dot}
use Rattle.actor_epoch.specs.Dots.{actor_cmp, actor_eq, counter_in}
use Rattle.actor_epoch.proofs.Rising.{and_first, and_second}
use Rattle.actor_epoch.proofs.Order.{actor_cmp_total, actor_eq-same}
use Rattle.dvv_set.specs.Clocks.{show_cmp}
use Rattle.dvv_set.specs.ClockEntries.{ClockEntries, values_from, known_of, live_of, is_entry, entry_for}
use Rattle.dvv_set.proofs.Orders.{find-append, find-below, is_before, T-both, T-first, T-second, T-less, T-is, below_all-append, is_sorted-append, nat_eq-back, eq_by_cmp-actor, eq_by_cmp-dot}

pub actor_eq-back : (a b : Actor) → actor_eq a b ≡ actor_eq b a
actor_eq-back a b = λ i. nat_eq-back a.vnode b.vnode i && nat_eq-back a.epoch b.epoch i

pub is_entry-within : (n k : ℕ) → IsTrue (nat_le 1 n && nat_le k n) → k ≤ n
is_entry-within n k h = grind (arith, nat_tests)

pub is_entry-positive : (n k : ℕ) → IsTrue (nat_le 1 n && nat_le k n) → 1 ≤ n
is_entry-positive n k h = grind (arith, nat_tests)

module _ {V : Type 0} where
  -- the value of a entry's dot
  abbrev pub value_at : ℕ × List V → ℕ → Option V
  value_at entry counter = cond (nat_le counter entry.0) (slice_get entry.1 (entry.0 - counter)) None

  value_at-more : (n c : ℕ) (v : V) (vs : List V) → 1 ≤ n → cond (nat_eq c n) (Some v) (value_at (n - 1, vs) c) ≡ value_at (n, v ∷ vs) c
  value_at-more n c v vs h = by (nat_eq c n) (nat_le c n) (nat_le c (n - 1)) refl refl refl
    where
      by : (e l m : Bool) → nat_eq c n ≡ e → nat_le c n ≡ l → nat_le c (n - 1) ≡ m
          → cond e (Some v) (cond m (slice_get vs (n - 1 - c)) None) ≡ cond l (slice_get (v ∷ vs) (n - c)) None
      by true true m p q r = let z : n - c ≡ zero = grind (arith, nat_tests) in rw z refl
      by true false m p q r = grind (arith, nat_tests)
      by false true true p q r = let z : n - c ≡ suc (n - 1 - c) = grind (arith, nat_tests) in rw z refl
      by false true false p q r = absurd (let w : ⊥ = grind (arith, nat_tests) in w)
      by false false true p q r = absurd (let w : ⊥ = grind (arith, nat_tests) in w)
      by false false false p q r = refl

  pub nothing : (b : Bool) → let none : Option V = None in cond b none none ≡ none
  nothing true = refl
  nothing false = refl

  value_at-none : (n c : ℕ) → value_at (n, []) c ≡ None
  value_at-none n c = nothing (nat_le c n)

  find-values_from : (d : Dot) (a : Actor) (n : ℕ) (vs : List V) → length vs ≤ n
      → find show_cmp d (values_from a n vs) ≡ cond (actor_eq d.actor a) (value_at (n, vs) d.counter) None
  find-values_from d a n [] h = sym (ap (λ o. cond (actor_eq d.actor a) o None) (value_at-none n d.counter) ∙ nothing (actor_eq d.actor a))
  find-values_from d a n (v ∷ vs) h =
      (λ i. cond (eq_by_cmp-dot d (record { actor = a; counter = n }) i) (Some v) (find-values_from d a (n - 1) vs (omega arith) i))
      ∙ by (actor_eq d.actor a) (nat_eq d.counter n)
      ∙ ap (λ o. cond (actor_eq d.actor a) o None) (value_at-more n d.counter v vs (omega arith))
    where
      by : (e f : Bool) → cond (e && f) (Some v) (cond e (value_at (n - 1, vs) d.counter) None) ≡ cond e (cond f (Some v) (value_at (n - 1, vs) d.counter)) None
      by true f = refl
      by false f = refl

  pub option_or-none : (o : Option V) → option_or o None ≡ o
  option_or-none None = refl
  option_or-none (Some v) = refl

  pub entry_for-below : (a : Actor) (entries : ClockEntries V) → T (below_all actor_cmp a entries) → entry_for a entries ≡ (0, [])
  entry_for-below a entries h = ap (λ o. unwrap_or o (0, [])) (find-below actor_cmp actor_cmp_total a entries h)

  -- what a dot's value is in the meaning of entries
  pub find-live_of : (d : Dot) (entries : ClockEntries V) → T (is_sorted actor_cmp entries) → IsTrue (list_all is_entry entries)
      → find show_cmp d (live_of entries) ≡ value_at (entry_for d.actor entries) d.counter
  find-live_of d [] h r = sym (value_at-none 0 d.counter)
  find-live_of d (entry ∷ entries) h r =
      let within : length entry.1.1 ≤ entry.1.0 = is_entry-within entry.1.0 (length entry.1.1) (and_first (is_entry entry) (list_all is_entry entries) r) in
      let rest : find show_cmp d (live_of entries) ≡ value_at (entry_for d.actor entries) d.counter =
      find-live_of d entries (T-second (below_all actor_cmp entry.0 entries) _ h) (and_second (is_entry entry) (list_all is_entry entries) r) in
      find-append show_cmp d (values_from entry.0 entry.1.0 entry.1.1) (live_of entries)
      ∙ (λ i. option_or (find-values_from d entry.0 entry.1.0 entry.1.1 within i) (rest i))
      ∙ by (actor_eq d.actor entry.0) refl
      ∙ ap (λ b. value_at (unwrap_or (cond b (Some entry.1) (find actor_cmp d.actor entries)) (0, [])) d.counter) (sym (eq_by_cmp-actor d.actor entry.0))
    where
      by : (e : Bool) → actor_eq d.actor entry.0 ≡ e
          → option_or (cond e (value_at entry.1 d.counter) None) (value_at (entry_for d.actor entries) d.counter)
          ≡ value_at (unwrap_or (cond e (Some entry.1) (find actor_cmp d.actor entries)) (0, [])) d.counter
      by true e =
          let same : d.actor ≡ entry.0 = actor_eq-same d.actor entry.0 e in
          let gone : entry_for d.actor entries ≡ (0, []) = ap (λ a. entry_for a entries) same ∙ entry_for-below entry.0 entries (T-first _ (is_sorted actor_cmp entries) h) in
          ap (λ o. option_or (value_at entry.1 d.counter) (value_at o d.counter)) gone
          ∙ ap (option_or (value_at entry.1 d.counter)) (value_at-none 0 d.counter)
          ∙ option_or-none (value_at entry.1 d.counter)
      by false e = refl

  -- and the greatest counter of an actor
  pub counter_in-known_of : (a : Actor) (entries : ClockEntries V) → T (is_sorted actor_cmp entries) → counter_in (known_of entries) a ≡ (entry_for a entries).0
  counter_in-known_of a [] h = refl
  counter_in-known_of a (entry ∷ entries) h =
      ap (λ b. cond b (max entry.1.0 (counter_in (known_of entries) a)) (counter_in (known_of entries) a)) (actor_eq-back entry.0 a)
      ∙ by (actor_eq a entry.0) refl (counter_in-known_of a entries (T-second (below_all actor_cmp entry.0 entries) _ h))
      ∙ ap (λ b. (unwrap_or (cond b (Some entry.1) (find actor_cmp a entries)) (0, [])).0) (sym (eq_by_cmp-actor a entry.0))
    where
      zero_max : (n : ℕ) → max n 0 ≡ n
      zero_max n = omega arith

      by : (e : Bool) → actor_eq a entry.0 ≡ e → counter_in (known_of entries) a ≡ (entry_for a entries).0
          → cond e (max entry.1.0 (counter_in (known_of entries) a)) (counter_in (known_of entries) a)
          ≡ (unwrap_or (cond e (Some entry.1) (find actor_cmp a entries)) (0, [])).0
      by true e rest =
          let same : a ≡ entry.0 = actor_eq-same a entry.0 e in
          let gone : entry_for a entries ≡ (0, []) = ap (λ b. entry_for b entries) same ∙ entry_for-below entry.0 entries (T-first _ (is_sorted actor_cmp entries) h) in
          ap (max entry.1.0) (rest ∙ ap (λ r. r.0) gone) ∙ zero_max entry.1.0
      by false e rest = rest

  below_all-values_from : (d : Dot) (a : Actor) (n : ℕ) (vs : List V) → actor_cmp d.actor a ≡ Less → T (below_all show_cmp d (values_from a n vs))
  below_all-values_from d a n [] h = tt
  below_all-values_from d a n (v ∷ vs) h =
      T-both (is_lt (show_cmp d (record { actor = a; counter = n }))) (below_all show_cmp d (values_from a (n - 1) vs))
      (T-is _ (ap (λ o. is_lt (ordering_then o (nat_cmp n d.counter))) h)) (below_all-values_from d a (n - 1) vs h)

  below_all-live_of : (d : Dot) (entries : ClockEntries V) → T (below_all actor_cmp d.actor entries) → T (below_all show_cmp d (live_of entries))
  below_all-live_of d [] h = tt
  below_all-live_of d (entry ∷ entries) h =
      below_all-append show_cmp d (values_from entry.0 entry.1.0 entry.1.1) (live_of entries)
      (below_all-values_from d entry.0 entry.1.0 entry.1.1 (T-less _ (T-first (is_lt (actor_cmp d.actor entry.0)) _ h)))
      (below_all-live_of d entries (T-second (is_lt (actor_cmp d.actor entry.0)) _ h))

  below_all-older : (a : Actor) (n m : ℕ) (vs : List V) → m < n → T (below_all show_cmp (let d : Dot = record { actor = a; counter = n } in d) (values_from a m vs))
  below_all-older a n m [] h = tt
  below_all-older a n m (v ∷ vs) h =
      T-both (is_lt (show_cmp (record { actor = a; counter = n }) (record { actor = a; counter = m }))) (below_all show_cmp (record { actor = a; counter = n }) (values_from a (m - 1) vs))
      (T-is _ (ap (λ o. is_lt (ordering_then o (nat_cmp m n))) (tied_itself actor_cmp_total a) ∙ ap is_lt (less m n h)))
      (below_all-older a n (m - 1) vs (omega arith))
    where
      less : (m n : ℕ) → m < n → nat_cmp m n ≡ Less
      less m n h = let t : nat_lt m n ≡ true = grind (arith, nat_tests) in ap (λ b. cond b Less (cond (nat_eq m n) Equal Greater)) t

  is_sorted-values_from : (a : Actor) (n : ℕ) (vs : List V) → length vs ≤ n → T (is_sorted show_cmp (values_from a n vs))
  is_sorted-values_from a n [] h = tt
  is_sorted-values_from a n (v ∷ vs) h =
      T-both (below_all show_cmp (record { actor = a; counter = n }) (values_from a (n - 1) vs)) _
      (below_all-older a n (n - 1) vs (omega arith)) (is_sorted-values_from a (n - 1) vs (omega arith))

  is_before-values_from : (a : Actor) (n : ℕ) (vs : List V) (entries : ClockEntries V) → T (below_all actor_cmp a entries) → T (is_before show_cmp (values_from a n vs) (live_of entries))
  is_before-values_from a n [] entries h = tt
  is_before-values_from a n (v ∷ vs) entries h =
      T-both (below_all show_cmp (record { actor = a; counter = n }) (live_of entries)) (is_before show_cmp (values_from a (n - 1) vs) (live_of entries))
      (below_all-live_of (record { actor = a; counter = n }) entries h) (is_before-values_from a (n - 1) vs entries h)

  -- the values stand in the order in which they are shown
  pub is_sorted-live_of : (entries : ClockEntries V) → T (is_sorted actor_cmp entries) → IsTrue (list_all is_entry entries) → T (is_sorted show_cmp (live_of entries))
  is_sorted-live_of [] h r = tt
  is_sorted-live_of (entry ∷ entries) h r =
      is_sorted-append show_cmp (values_from entry.0 entry.1.0 entry.1.1) (live_of entries)
      (is_sorted-values_from entry.0 entry.1.0 entry.1.1 (is_entry-within entry.1.0 (length entry.1.1) (and_first (is_entry entry) (list_all is_entry entries) r)))
      (is_sorted-live_of entries (T-second (below_all actor_cmp entry.0 entries) _ h) (and_second (is_entry entry) (list_all is_entry entries) r))
      (is_before-values_from entry.0 entry.1.0 entry.1.1 entries (T-first _ (is_sorted actor_cmp entries) h))

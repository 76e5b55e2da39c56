-- Pairs that strictly rise are known by their counters.
use Rattle.std.proofs.Common.{◌≡◌, ℕ, suc, ◌+◌, ◌-◌, ◌≤◌, Bool, true, false, cond, IsTrue, List, [], ◌∷◌, length, take, map, refl, sym, ◌∙◌, ap, arith}
use Rattle.std.specs.Prelude.{T, nat_le, max, Some, None, is_some}
use Rattle.std.specs.List.{list_all}
use Rattle.std.specs.declared.cmp.Ordering.{Ordering}
use Rattle.std.specs.declared.cmp.Ordering.TheVariants.{Less, Equal, Greater}
use Rattle.std.specs.Ordering.{is_lt, ordering_reverse}
use Rattle.std.specs.FinMap.Entries.{find, is_sorted, below_all, by_order, same_entries, put, length-put}
use Rattle.std.proofs.lemmas.Bool.Decides.{nat_tests}
use Rattle.actor_epoch.specs.declared.Actor.{Actor}
use Rattle.actor_epoch.specs.declared.Dot.{Dot}
use Rattle.actor_epoch.specs.Dots.{actor_cmp, actor_eq, counter_in, insert_max, union}
use Rattle.actor_epoch.proofs.Pairs.{actor_cmp-same, counter_in-union}
use Rattle.actor_epoch.proofs.Rising.{and_first, and_second}
use Rattle.actor_epoch.proofs.Order.{actor_cmp_total, actor_eq-same}
use Rattle.dvv_set.specs.ClockEntries.{ClockEntries, AreEntries, known_of, is_entry, entry_for, merged, merge_all}
use Rattle.dvv_set.proofs.Orders.{T-first, T-second, T-both, T-is, find-below, below_all-less, eq_by_cmp-actor}
use Rattle.dvv_set.proofs.ClockEntries.{actor_eq-back, counter_in-known_of}
use Rattle.dvv_set.proofs.Merges.{entry_for-merge_all, AreEntries-merge_all}
use Rattle.std.proofs.lemmas.Bool.{and_from as both}

-- pairs as a map from actors to counters
abbrev pub as_entries : List Dot → List (Actor × ℕ)
as_entries pairs = map (λ pair. (pair.actor, pair.counter)) pairs

abbrev pub is_positive : Dot → Bool
is_positive pair = nat_le 1 pair.counter

-- strictly rising by actor, with counters from 1 on
pub record IsVersionVector (pairs : List Dot) : Type 0 where
  pub sorted : T (is_sorted actor_cmp (as_entries pairs))
  pub positive : IsTrue (list_all is_positive pairs)

as_entries-back : (pairs : List Dot) → map (λ e. let pair : Dot = record { actor = e.0; counter = e.1 } in pair) (as_entries pairs) ≡ pairs
as_entries-back [] = refl
as_entries-back (pair ∷ pairs) = ap (λ ps. pair ∷ ps) (as_entries-back pairs)

none_is_zero : (k : ℕ) → cond (nat_le 1 k) (Some k) None ≡ None → k ≡ 0
none_is_zero k h = by (nat_le 1 k) refl h
  where
    by : (b : Bool) → nat_le 1 k ≡ b → cond b (Some k) None ≡ None → k ≡ 0
    by true e h = cc
    by false e h = grind (arith, nat_tests)

find-as_entries : (a : Actor) (pairs : List Dot) → IsVersionVector pairs → find actor_cmp a (as_entries pairs) ≡ cond (nat_le 1 (counter_in pairs a)) (Some (counter_in pairs a)) None
find-as_entries a [] h = let t : nat_le 1 0 ≡ false = grind (arith, nat_tests) in sym (ap (λ b. cond b (Some 0) None) t)
find-as_entries a (pair ∷ pairs) h =
    ap (λ b. cond b (Some pair.counter) (find actor_cmp a (as_entries pairs))) (eq_by_cmp-actor a pair.actor)
    ∙ by (actor_eq a pair.actor) refl
    (find-as_entries a pairs (record { sorted = T-second (below_all actor_cmp pair.actor (as_entries pairs)) _ h.sorted; positive = and_second (is_positive pair) (list_all is_positive pairs) h.positive }))
    ∙ ap (λ b. cond (nat_le 1 (cond b (max pair.counter (counter_in pairs a)) (counter_in pairs a))) (Some (cond b (max pair.counter (counter_in pairs a)) (counter_in pairs a))) None)
    (actor_eq-back a pair.actor)
  where
    only : (n k : ℕ) → 1 ≤ n → k ≡ 0 → Some n ≡ cond (nat_le 1 (max n k)) (Some (max n k)) None
    only n k p e =
        let same : max n k ≡ n = omega arith in
        let t : nat_le 1 n ≡ true = grind (arith, nat_tests) in
        sym (ap (λ m. cond (nat_le 1 m) (Some m) None) same ∙ ap (λ b. cond b (Some n) None) t)

    by : (b : Bool) → actor_eq a pair.actor ≡ b
        → find actor_cmp a (as_entries pairs) ≡ cond (nat_le 1 (counter_in pairs a)) (Some (counter_in pairs a)) None
        → cond b (Some pair.counter) (find actor_cmp a (as_entries pairs))
        ≡ cond (nat_le 1 (cond b (max pair.counter (counter_in pairs a)) (counter_in pairs a))) (Some (cond b (max pair.counter (counter_in pairs a)) (counter_in pairs a))) None
    by true e rest =
        let same : a ≡ pair.actor = actor_eq-same a pair.actor e in
        let gone : find actor_cmp a (as_entries pairs) ≡ None =
        ap (λ k. find actor_cmp k (as_entries pairs)) same ∙ find-below actor_cmp actor_cmp_total pair.actor (as_entries pairs) (T-first _ (is_sorted actor_cmp (as_entries pairs)) h.sorted) in
        let p : nat_le 1 pair.counter ≡ true = and_first (is_positive pair) (list_all is_positive pairs) h.positive in
        only pair.counter (counter_in pairs a) (let q : 1 ≤ pair.counter = grind (arith, nat_tests) in q) (none_is_zero (counter_in pairs a) (sym rest ∙ gone))
    by false e rest = rest

-- two such lists with the same counters are one
pub same_pairs : (ps qs : List Dot) → IsVersionVector ps → IsVersionVector qs → ((a : Actor) → counter_in ps a ≡ counter_in qs a) → ps ≡ qs
same_pairs ps qs g h same =
    let entries : as_entries ps ≡ as_entries qs =
    same_entries actor_cmp actor_cmp_total actor_cmp-same (as_entries ps) (as_entries qs) g.sorted h.sorted
    (λ a. find-as_entries a ps g ∙ ap (λ n. cond (nat_le 1 n) (Some n) None) (same a) ∙ sym (find-as_entries a qs h)) in
    sym (as_entries-back ps) ∙ ap (map (λ e. let pair : Dot = record { actor = e.0; counter = e.1 } in pair)) entries ∙ as_entries-back qs

below_all-insert_max : (x : Actor) (dot : Dot) (pairs : List Dot) → actor_cmp x dot.actor ≡ Less → T (below_all actor_cmp x (as_entries pairs)) → T (below_all actor_cmp x (as_entries (insert_max dot pairs)))
below_all-insert_max x dot [] l h = T-both (is_lt (actor_cmp x dot.actor)) _ (T-is _ (ap is_lt l)) tt
below_all-insert_max x dot (pair ∷ pairs) l h = by (actor_cmp dot.actor pair.actor) (below_all-insert_max x dot pairs l (T-second (is_lt (actor_cmp x pair.actor)) _ h))
  where
    by : (o : Ordering) → T (below_all actor_cmp x (as_entries (insert_max dot pairs)))
        → T (below_all actor_cmp x (as_entries (by_order o (dot ∷ pair ∷ pairs) ((let both : Dot = record { actor = pair.actor; counter = max dot.counter pair.counter } in both) ∷ pairs) (pair ∷ insert_max dot pairs))))
    by Less rest = T-both (is_lt (actor_cmp x dot.actor)) _ (T-is _ (ap is_lt l)) h
    by Equal rest = h
    by Greater rest = T-both (is_lt (actor_cmp x pair.actor)) _ (T-first (is_lt (actor_cmp x pair.actor)) _ h) rest

is_sorted-insert_max : (dot : Dot) (pairs : List Dot) → T (is_sorted actor_cmp (as_entries pairs)) → T (is_sorted actor_cmp (as_entries (insert_max dot pairs)))
is_sorted-insert_max dot [] h = tt
is_sorted-insert_max dot (pair ∷ pairs) h =
    by (actor_cmp dot.actor pair.actor) refl (is_sorted-insert_max dot pairs (T-second (below_all actor_cmp pair.actor (as_entries pairs)) _ h))
  where
    by : (o : Ordering) → actor_cmp dot.actor pair.actor ≡ o → T (is_sorted actor_cmp (as_entries (insert_max dot pairs)))
        → T (is_sorted actor_cmp (as_entries (by_order o (dot ∷ pair ∷ pairs) ((let both : Dot = record { actor = pair.actor; counter = max dot.counter pair.counter } in both) ∷ pairs) (pair ∷ insert_max dot pairs))))
    by Less e rest =
        T-both (below_all actor_cmp dot.actor (as_entries (pair ∷ pairs))) _
        (T-both (is_lt (actor_cmp dot.actor pair.actor)) _ (T-is _ (ap is_lt e))
        (below_all-less actor_cmp actor_cmp_total dot.actor pair.actor (as_entries pairs) e (T-first _ (is_sorted actor_cmp (as_entries pairs)) h))) h
    by Equal e rest = h
    by Greater e rest =
        T-both (below_all actor_cmp pair.actor (as_entries (insert_max dot pairs))) _
        (below_all-insert_max pair.actor dot pairs (actor_cmp_total.antisymm pair.actor dot.actor ∙ ap ordering_reverse e) (T-first _ (is_sorted actor_cmp (as_entries pairs)) h)) rest

positive-insert_max : (dot : Dot) (pairs : List Dot) → IsTrue (is_positive dot) → IsTrue (list_all is_positive pairs) → IsTrue (list_all is_positive (insert_max dot pairs))
positive-insert_max dot [] p h = both _ true p refl
positive-insert_max dot (pair ∷ pairs) p h = by (actor_cmp dot.actor pair.actor) (positive-insert_max dot pairs p (and_second (is_positive pair) (list_all is_positive pairs) h))
  where
    greater : (m n : ℕ) → nat_le 1 m ≡ true → nat_le 1 (max m n) ≡ true
    greater m n h = grind (arith, nat_tests)

    by : (o : Ordering) → IsTrue (list_all is_positive (insert_max dot pairs))
        → IsTrue (list_all is_positive (by_order o (dot ∷ pair ∷ pairs) ((let both : Dot = record { actor = pair.actor; counter = max dot.counter pair.counter } in both) ∷ pairs) (pair ∷ insert_max dot pairs)))
    by Less rest = both (is_positive dot) _ p h
    by Equal rest = both _ _ (greater dot.counter pair.counter p) (and_second (is_positive pair) (list_all is_positive pairs) h)
    by Greater rest = both (is_positive pair) _ (and_first (is_positive pair) (list_all is_positive pairs) h) rest

pub IsVersionVector-insert_max : (dot : Dot) (pairs : List Dot) → IsTrue (is_positive dot) → IsVersionVector pairs → IsVersionVector (insert_max dot pairs)
IsVersionVector-insert_max dot pairs p h = record { sorted = is_sorted-insert_max dot pairs h.sorted; positive = positive-insert_max dot pairs p h.positive }

length-raise_put : (dot : Dot) (n : ℕ) (pairs : List Dot) → length (insert_max dot pairs) ≡ length (put actor_cmp dot.actor n (as_entries pairs))
length-raise_put dot n [] = refl
length-raise_put dot n (pair ∷ pairs) = by (actor_cmp dot.actor pair.actor) (length-raise_put dot n pairs)
  where
    length-entries : (pairs : List Dot) → length pairs ≡ length (as_entries pairs)
    length-entries [] = refl
    length-entries (pair ∷ pairs) = ap suc (length-entries pairs)

    by : (o : Ordering) → length (insert_max dot pairs) ≡ length (put actor_cmp dot.actor n (as_entries pairs))
        → length (by_order o (dot ∷ pair ∷ pairs) ((let both : Dot = record { actor = pair.actor; counter = max dot.counter pair.counter } in both) ∷ pairs) (pair ∷ insert_max dot pairs))
        ≡ length (by_order o ((dot.actor, n) ∷ as_entries (pair ∷ pairs)) ((pair.actor, n) ∷ as_entries pairs) ((pair.actor, pair.counter) ∷ put actor_cmp dot.actor n (as_entries pairs)))
    by Less rest = ap (λ k. suc (suc k)) (length-entries pairs)
    by Equal rest = ap suc (length-entries pairs)
    by Greater rest = ap suc rest

length-as_entries : (pairs : List Dot) → length (as_entries pairs) ≡ length pairs
length-as_entries [] = refl
length-as_entries (pair ∷ pairs) = ap suc (length-as_entries pairs)

-- one pair more, where its actor is in none
pub length-insert_max : (dot : Dot) (pairs : List Dot) → IsVersionVector pairs → length (insert_max dot pairs) ≡ cond (nat_le 1 (counter_in pairs dot.actor)) (length pairs) (length pairs + 1)
length-insert_max dot pairs h =
    length-raise_put dot 0 pairs
    ∙ length-put actor_cmp actor_cmp_total dot.actor 0 (as_entries pairs) h.sorted
    ∙ (λ i. cond ((ap is_some (find-as_entries dot.actor pairs h) ∙ by (nat_le 1 (counter_in pairs dot.actor))) i) (length-as_entries pairs i) (length-as_entries pairs i + 1))
  where
    by : (b : Bool) → is_some (cond b (Some (counter_in pairs dot.actor)) None) ≡ b
    by true = refl
    by false = refl

pub IsVersionVector-tail : (pair : Dot) (pairs : List Dot) → IsVersionVector (pair ∷ pairs) → IsVersionVector pairs
IsVersionVector-tail pair pairs h = record {
  sorted = T-second (below_all actor_cmp pair.actor (as_entries pairs)) _ h.sorted;
  positive = and_second (is_positive pair) (list_all is_positive pairs) h.positive;
}

pub IsVersionVector-union : (ps qs : List Dot) → IsVersionVector ps → IsVersionVector qs → IsVersionVector (union ps qs)
IsVersionVector-union [] qs g h = h
IsVersionVector-union (pair ∷ ps) qs g h =
    IsVersionVector-insert_max pair (union ps qs) (and_first (is_positive pair) (list_all is_positive ps) g.positive) (IsVersionVector-union ps qs (IsVersionVector-tail pair ps g) h)

module _ {V : Type 0} where
  below_all-known_of : (x : Actor) (entries : ClockEntries V) → T (below_all actor_cmp x entries) → T (below_all actor_cmp x (as_entries (known_of entries)))
  below_all-known_of x [] h = tt
  below_all-known_of x (entry ∷ entries) h =
      T-both (is_lt (actor_cmp x entry.0)) _ (T-first (is_lt (actor_cmp x entry.0)) _ h) (below_all-known_of x entries (T-second (is_lt (actor_cmp x entry.0)) _ h))

  is_sorted-known_of : (entries : ClockEntries V) → T (is_sorted actor_cmp entries) → T (is_sorted actor_cmp (as_entries (known_of entries)))
  is_sorted-known_of [] h = tt
  is_sorted-known_of (entry ∷ entries) h =
      T-both (below_all actor_cmp entry.0 (as_entries (known_of entries))) _
      (below_all-known_of entry.0 entries (T-first _ (is_sorted actor_cmp entries) h)) (is_sorted-known_of entries (T-second (below_all actor_cmp entry.0 entries) _ h))

  positive-known_of : (entries : ClockEntries V) → IsTrue (list_all is_entry entries) → IsTrue (list_all is_positive (known_of entries))
  positive-known_of [] h = refl
  positive-known_of (entry ∷ entries) h =
      both _ _
      (and_first (nat_le 1 entry.1.0) (nat_le (length entry.1.1) entry.1.0) (and_first (is_entry entry) (list_all is_entry entries) h))
      (positive-known_of entries (and_second (is_entry entry) (list_all is_entry entries) h))

  pub IsVersionVector-known_of : (entries : ClockEntries V) → AreEntries entries → IsVersionVector (known_of entries)
  IsVersionVector-known_of entries h = record { sorted = is_sorted-known_of entries h.sorted; positive = positive-known_of entries h.each }

  merged_counter : (own other : ℕ × List V) → (merged own other).0 ≡ max own.0 other.0
  merged_counter own other = by (nat_le other.0 own.0) refl
    where
      by : (b : Bool) → nat_le other.0 own.0 ≡ b
          → (let r : ℕ × List V = cond b (own.0, take (own.0 - other.0 + length other.1) own.1) (other.0, take (other.0 - own.0 + length own.1) other.1) in r).0 ≡ max own.0 other.0
      by true e = grind (arith, nat_tests)
      by false e = grind (arith, nat_tests)

  -- what both sides know, after a merge
  pub known_of-merge_all : (others entries : ClockEntries V) → AreEntries others → AreEntries entries → known_of (merge_all others entries) ≡ union (known_of entries) (known_of others)
  known_of-merge_all others entries g h =
      same_pairs (known_of (merge_all others entries)) (union (known_of entries) (known_of others))
      (IsVersionVector-known_of (merge_all others entries) after)
      (IsVersionVector-union (known_of entries) (known_of others) (IsVersionVector-known_of entries h) (IsVersionVector-known_of others g))
      (λ a. counter_in-known_of a (merge_all others entries) after.sorted
      ∙ ap (λ r. r.0) (entry_for-merge_all a others entries g h)
      ∙ merged_counter (entry_for a entries) (entry_for a others)
      ∙ (λ i. max (sym (counter_in-known_of a entries h.sorted) i) (sym (counter_in-known_of a others g.sorted) i))
      ∙ sym (counter_in-union (known_of entries) (known_of others) a))
    where
      after : AreEntries (merge_all others entries)
      after = AreEntries-merge_all others entries g h

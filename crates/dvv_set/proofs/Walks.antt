-- Walks over the entries of the code, one entry after another.
use Rattle.std.proofs.Common.{◌≡◌, ℕ, zero, suc, ◌+◌, ◌-◌, ◌<◌, ◌≤◌, Bool, true, false, cond, List, [], ◌∷◌, length, take, drop, get_or, refl, sym, ◌∙◌, ap, arith}
use Rattle.std.specs.Prelude.{Option, Some, is_some, nat_le}
use Rattle.std.specs.List.{remove}
use Rattle.std.specs.declared.cmp.Ordering.{Ordering}
use Rattle.std.specs.declared.cmp.Ordering.TheVariants.{Less, Equal, Greater}
use Rattle.std.specs.Ordering.{is_eq, ordering_reverse}
use Rattle.std.specs.FinMap.Entries.{find, by_order}
use Rattle.std.proofs.lemmas.Bool.Decides.{nat_tests}
use Rattle.actor_epoch.specs.declared.Actor.{Actor}
use Rattle.actor_epoch.specs.declared.Dot.{Dot}
use Rattle.actor_epoch.specs.Dots.{actor_cmp, actor_eq, counter_in}
use Rattle.actor_epoch.proofs.Pairs.{actor_cmp-same}
use Rattle.actor_epoch.proofs.Order.{actor_cmp_total, actor_eq-itself, actor_eq-less, actor_eq-greater}
use Rattle.dvv_set.specs.declared.entry.Entry.{Entry}
use Rattle.dvv_set.specs.declared.entry.Place.{Place}
use Rattle.dvv_set.specs.declared.entry.Place.TheVariants.{Taken, Free}
use Rattle.dvv_set.specs.ClockEntries.{merged, newer, count_uncovered}
use Rattle.dvv_set.specs.Stored.{actor_of, clock_entry, clock_entries, one_on, search_actor}
use Rattle.dvv_set.proofs.Places.{further}

actor_cmp-eq : (a b : Actor) → is_eq (actor_cmp a b) ≡ actor_eq b a
actor_cmp-eq a b = by (actor_cmp a b) refl
  where
    by : (o : Ordering) → actor_cmp a b ≡ o → is_eq o ≡ actor_eq b a
    by Less h = sym (actor_eq-greater a b h)
    by Equal h = sym (ap (actor_eq b) (actor_cmp-same a b h) ∙ actor_eq-itself b)
    by Greater h = sym (actor_eq-less b a (actor_cmp_total.antisymm b a ∙ ap ordering_reverse h))

found : {X : Type 0} (b : Bool) (x : X) (o : Option X) → is_some (cond b (Some x) o) ≡ cond b true (is_some o)
found true x o = refl
found false x o = refl

pub further-taken : (n : ℕ) → further n (Taken 0) ≡ Taken n
further-taken n = let e : n + 0 ≡ n = omega arith in ap Taken e

pub further-free : (n : ℕ) → further n (Free 0) ≡ Free n
further-free n = let e : n + 0 ≡ n = omega arith in ap Free e

pub further-one : (n : ℕ) (p : Place) → further n (one_on p) ≡ further (n + 1) p
further-one n (Taken at) = let e : n + (at + 1) ≡ (n + 1) + at = omega arith in ap Taken e
further-one n (Free at) = let e : n + (at + 1) ≡ (n + 1) + at = omega arith in ap Free e

pub first-rest : {A : Type 0} (xs : List A) (d : A) → 0 < length xs → xs ≡ get_or xs 0 d ∷ remove xs 0
first-rest [] d h = absurd (omega arith)
first-rest (x ∷ xs) d h = refl

pub take_within : {A : Type 0} (n : ℕ) (xs : List A) → length (take n xs) ≤ length xs
take_within zero xs = omega arith
take_within (suc n) [] = omega arith
take_within (suc n) (x ∷ xs) = let rest = take_within n xs in omega arith

module _ {V : Type 0} where
  -- whether an actor has an entry among those from an index on
  pub has-next : (entries : List (Entry V)) (a : Actor) (i : ℕ) (d : Entry V) → i < length entries
      → is_some (find actor_cmp a (clock_entries (drop i entries))) ≡ cond (actor_eq (actor_of (get_or entries i d).pair) a) true (is_some (find actor_cmp a (clock_entries (drop (i + 1) entries))))
  has-next entries a i d h = let one : i + 1 ≡ suc i = omega arith in rw one (by entries i h)
    where
      by : (entries : List (Entry V)) (i : ℕ) → i < length entries
          → is_some (find actor_cmp a (clock_entries (drop i entries))) ≡ cond (actor_eq (actor_of (get_or entries i d).pair) a) true (is_some (find actor_cmp a (clock_entries (drop (suc i) entries))))
      by [] i h = absurd (omega arith)
      by (entry ∷ entries) zero h = found _ _ _ ∙ ap (λ b. cond b true (is_some (find actor_cmp a (clock_entries entries)))) (actor_cmp-eq a (actor_of entry.pair))
      by (entry ∷ entries) (suc i) h = by entries i (omega arith)

  -- where it stands among those from an index on
  pub search_actor-next : (entries : List (Entry V)) (a : Actor) (i : ℕ) (d : Entry V) → i < length entries
      → search_actor a (clock_entries (drop i entries)) ≡ by_order (actor_cmp (actor_of (get_or entries i d).pair) a) (one_on (search_actor a (clock_entries (drop (i + 1) entries)))) (Taken 0) (Free 0)
  search_actor-next entries a i d h = let one : i + 1 ≡ suc i = omega arith in rw one (by entries i h)
    where
      by : (entries : List (Entry V)) (i : ℕ) → i < length entries
          → search_actor a (clock_entries (drop i entries)) ≡ by_order (actor_cmp (actor_of (get_or entries i d).pair) a) (one_on (search_actor a (clock_entries (drop (suc i) entries)))) (Taken 0) (Free 0)
      by [] i h = absurd (omega arith)
      by (entry ∷ entries) zero h = refl
      by (entry ∷ entries) (suc i) h = by entries i (omega arith)

  -- how many of the values from an index on pairs don't cover
  pub count_uncovered-next : (pairs : List Dot) (entries : List (Entry V)) (i : ℕ) (d : Entry V) → i < length entries
      → count_uncovered pairs (clock_entries (drop i entries)) ≡ newer (counter_in pairs (actor_of (get_or entries i d).pair)) (clock_entry (get_or entries i d)).1 + count_uncovered pairs (clock_entries (drop (i + 1) entries))
  count_uncovered-next pairs entries i d h = let one : i + 1 ≡ suc i = omega arith in rw one (by entries i h)
    where
      by : (entries : List (Entry V)) (i : ℕ) → i < length entries
          → count_uncovered pairs (clock_entries (drop i entries)) ≡ newer (counter_in pairs (actor_of (get_or entries i d).pair)) (clock_entry (get_or entries i d)).1 + count_uncovered pairs (clock_entries (drop (suc i) entries))
      by [] i h = absurd (omega arith)
      by (entry ∷ entries) zero h = refl
      by (entry ∷ entries) (suc i) h = by entries i (omega arith)

  -- what two entries are merged to, by which has seen more
  pub merged-own_more : (own other : ℕ × List V) → other.0 ≤ own.0 → merged own other ≡ (own.0, take (own.0 - other.0 + length other.1) own.1)
  merged-own_more own other h =
      let t : nat_le other.0 own.0 ≡ true = grind (arith, nat_tests) in
      ap (λ b. cond b (own.0, take (own.0 - other.0 + length other.1) own.1) (other.0, take (other.0 - own.0 + length own.1) other.1)) t

  pub merged-other_more : (own other : ℕ × List V) → own.0 < other.0 → merged own other ≡ (other.0, take (other.0 - own.0 + length own.1) other.1)
  merged-other_more own other h =
      let t : nat_le other.0 own.0 ≡ false = grind (arith, nat_tests) in
      ap (λ b. cond b (own.0, take (own.0 - other.0 + length other.1) own.1) (other.0, take (other.0 - own.0 + length own.1) other.1)) t

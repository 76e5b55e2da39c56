-- Entries that have room for one value more.
use Rattle.std.proofs.Common.{◌≡◌, ℕ, zero, suc, ◌+◌, ◌<◌, ◌≤◌, ◌↔◌, Bool, true, false, not, ◌&&◌, cond, IsTrue, List, [], ◌∷◌, length, take, get_or, refl, ap, arith}
use Rattle.std.specs.Prelude.{nat_lt, ◌==◌}
use Rattle.std.specs.List.{list_all, insert}
use Rattle.std.proofs.Math.ListN.{set}
use Rattle.std.proofs.lemmas.Bool.{eqb-true}
use Rattle.std.proofs.lemmas.Bool.Decides.{nat_tests}
use Rattle.std.proofs.lemmas.List.Filters.{length-filter_both}
use Rattle.actor_epoch.specs.declared.Actor.{Actor}
use Rattle.actor_epoch.proofs.Rising.{and_first, and_second}
use Rattle.actor_epoch.specs.Dots.{actor_eq}
use Rattle.dvv_set.specs.declared.entry.Entry.{Entry}
use Rattle.dvv_set.specs.ClockEntries.{live_of}
use Rattle.dvv_set.specs.Held.{values_of}
use Rattle.dvv_set.specs.Stored.{clock_entry, clock_entries, has_room, values_room}
pub use Rattle.std.proofs.lemmas.List.{nil_from_length as no_items}

-- fewer values in the same room
pub room_fewer : (n k c : ℕ) → k ≤ n → nat_lt n c ≡ true → nat_lt k c ≡ true
room_fewer n k c h r = grind (arith, nat_tests)

pub above_room : (n c : ℕ) → n + 1 ≤ c → nat_lt n c ≡ true
above_room n c r = grind (arith, nat_tests)

pub below_room : (n c : ℕ) → nat_lt n c ≡ true → n < c
below_room n c r = grind (arith, nat_tests)

-- what a test for items says
pub some_items : {A : Type 0} (xs : List A) → (length xs == 0) ≡ false → 0 < length xs
some_items xs h = grind (arith, nat_tests)

pub none_items : {A : Type 0} (xs : List A) → (length xs == 0) ≡ true → xs ≡ []
none_items xs h = no_items xs (eqb-true (length xs) 0 h)

pub fewer_items : {A : Type 0} (all : List A) (x : A) (xs : List A) → all ≡ x ∷ xs → length xs < length all
fewer_items all x xs h = omega (arith, ap length h)

-- a room that the list grew into, and more
pub in_more_room : (n k c d : ℕ) → n ≡ k → k ≤ c → c ≤ d → n ≤ d
in_more_room n k c d h r more = omega arith

-- the actors that are there and those that are new
pub few_more : (more new k n : ℕ) → more ≡ new → new ≤ k → k ≡ n → n ≤ 64 → more ≤ 65
few_more more new k n m h e few = omega arith

pub few_pairs : (more new : ℕ) → more ≡ new → new ≤ 64 → more ≤ 65
few_pairs more new m few = omega arith

pub within_same : (n k m : ℕ) → n ≡ k → k ≤ m → n ≤ m
within_same n k m h within = omega arith

-- what is known fits into the room that is there
pub fits_same : (n k r m : ℕ) → n ≡ k → r ≡ m → k ≤ m → n ≤ r
fits_same n k r m h e within = omega arith

pub full_same : (P : Type 0) (m n k : ℕ) → n ≡ k → (P ↔ (m < k)) → (P ↔ (m < n))
full_same P m n k h full = (λ p. rw h (full.0 p), λ below. full.1 (rw h at below))

pub more_room : (c d e : ℕ) → c ≤ d → d ≤ e → c ≤ e
more_room c d e h more = omega arith

module _ {V : Type 0} where
  pub rooms-get : (entries : List (Entry V)) (i : ℕ) (d : Entry V) → i < length entries → IsTrue (list_all has_room entries) → IsTrue (has_room (get_or entries i d))
  rooms-get [] i d h r = absurd (omega arith)
  rooms-get (entry ∷ entries) zero d h r = and_first (has_room entry) (list_all has_room entries) r
  rooms-get (entry ∷ entries) (suc i) d h r = rooms-get entries i d (omega arith) (and_second (has_room entry) (list_all has_room entries) r)

  pub rooms-set : (entries : List (Entry V)) (i : ℕ) (next : Entry V) → IsTrue (has_room next) → IsTrue (list_all has_room entries) → IsTrue (list_all has_room (set entries i next))
  rooms-set [] i next h r = r
  rooms-set (entry ∷ entries) zero next h r = λ j. h j && and_second (has_room entry) (list_all has_room entries) r j
  rooms-set (entry ∷ entries) (suc i) next h r =
      λ j. and_first (has_room entry) (list_all has_room entries) r j && rooms-set entries i next h (and_second (has_room entry) (list_all has_room entries) r) j

  pub rooms-insert : (entries : List (Entry V)) (i : ℕ) (next : Entry V) → IsTrue (has_room next) → IsTrue (list_all has_room entries) → IsTrue (list_all has_room (insert entries i next))
  rooms-insert entries zero next h r = λ j. h j && r j
  rooms-insert [] (suc i) next h r = λ j. h j && r j
  rooms-insert (entry ∷ entries) (suc i) next h r =
      λ j. and_first (has_room entry) (list_all has_room entries) r j && rooms-insert entries i next h (and_second (has_room entry) (list_all has_room entries) r) j

  -- one more of the first entries
  pub rooms-next : (entries : List (Entry V)) (i : ℕ) (next : Entry V) → i < length entries → IsTrue (has_room next) → IsTrue (list_all has_room (take i entries)) → IsTrue (list_all has_room (take (i + 1) (set entries i next)))
  rooms-next entries i next l h r = let one : i + 1 ≡ suc i = omega arith in rw one (by entries i l r)
    where
      by : (entries : List (Entry V)) (i : ℕ) → i < length entries → IsTrue (list_all has_room (take i entries)) → IsTrue (list_all has_room (take (suc i) (set entries i next)))
      by [] i l r = absurd (omega arith)
      by (entry ∷ entries) zero l r = λ j. h j && true
      by (entry ∷ entries) (suc i) l r =
          λ j. and_first (has_room entry) (list_all has_room (take i entries)) r j && by entries i (omega arith) (and_second (has_room entry) (list_all has_room (take i entries)) r) j

  -- an entry with the same values in another place
  pub clock_entries-same : (entries : List (Entry V)) (i : ℕ) (d next : Entry V) → clock_entry next ≡ clock_entry (get_or entries i d) → clock_entries (set entries i next) ≡ clock_entries entries
  clock_entries-same [] i d next n = refl
  clock_entries-same (entry ∷ entries) zero d next n = ap (λ first. first ∷ clock_entries entries) n
  clock_entries-same (entry ∷ entries) (suc i) d next n = ap (λ rest. clock_entry entry ∷ rest) (clock_entries-same entries i d next n)

  -- where there is room for a value, each entry has it
  pub room-each : (entries : List (Entry V)) (n : ℕ) → n + 1 ≤ values_room entries → IsTrue (list_all has_room entries)
  room-each entries n h = by (list_all has_room entries) refl h
    where
      by : (b : Bool) → list_all has_room entries ≡ b → n + 1 ≤ cond b (length (live_of (clock_entries entries)) + 1) 0 → list_all has_room entries ≡ true
      by true e h = e
      by false e h = absurd (omega arith)

  pub each-room : (entries : List (Entry V)) (a : Actor) → IsTrue (list_all has_room entries) → length (values_of a (live_of (clock_entries entries))) + 1 ≤ values_room entries
  each-room entries a h =
      let live = live_of (clock_entries entries) in
      let is : values_room entries ≡ length live + 1 = ap (λ b. cond b (length live + 1) 0) h in
      let both = length-filter_both (λ entry. actor_eq entry.0.actor a) (λ entry. not (actor_eq entry.0.actor a)) (λ entry. refl) live in
      omega (arith, is, both)

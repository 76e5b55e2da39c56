-- What is ready for a value is so entry by entry.
use Rattle.std.proofs.Common.{◌≡◌, ℕ, ◌+◌, ◌<◌, ◌≤◌, ◌&&◌, cond, IsTrue, List, [], length, refl, sym, ◌∙◌, ap, arith, Bool, true, false}
use Rattle.std.specs.Prelude.{max, Option, Some, None, nat_le, unwrap_or, is_some}
use Rattle.std.specs.FinMap.Entries.{put, find, length-put}
use Rattle.actor_epoch.specs.declared.Actor.{Actor}
use Rattle.actor_epoch.specs.declared.Dot.{Dot}
use Rattle.actor_epoch.specs.Dots.{actor_cmp, counter_in, covers}
use Rattle.actor_epoch.specs.Contexts.{is_well_formed}
use Rattle.actor_epoch.proofs.Order.{actor_cmp_total, covers-counter_in}
use Rattle.std.proofs.lemmas.Bool.Decides.{nat_tests}
use Rattle.dvv_set.specs.Clocks.{DotState, event}
use Rattle.dvv_set.specs.Held.{without, known_with, known_after}
use Rattle.dvv_set.specs.ClockEntries.{ClockEntries, AreEntries, dot_state_of, known_of, entry_for, with_value, entries_of_pairs, entries_without, count_new}
use Rattle.dvv_set.proofs.ClockEntries.{counter_in-known_of}
use Rattle.dvv_set.proofs.Events.{AreEntries-without, AreEntries-event, dot_state_of-without, dot_state_of-event}
use Rattle.actor_epoch.proofs.Pairs.{counter_in-union}
use Rattle.dvv_set.proofs.Known.{IsVersionVector, IsVersionVector-known_of, length-insert_max}
use Rattle.std.proofs.lemmas.List.{length-map}
use Rattle.dvv_set.proofs.Counts.{length-discard, length-known_of, count_new-within}

pub first_holds : (c n : ℕ) → 1 ≤ c → nat_le c n ≡ (nat_le 1 c && nat_le c n)
first_holds c n h = grind (arith, nat_tests)

pub first_fails : (c n : ℕ) → c < 1 → nat_le 1 c ≡ (nat_le 1 c && nat_le c n)
first_fails c n h = grind (arith, nat_tests)

module _ {V : Type 0} where
  pub covers-entries : (entries : ClockEntries V) (d : Dot) → AreEntries entries → covers (known_of entries) d ≡ (nat_le 1 d.counter && nat_le d.counter (entry_for d.actor entries).0)
  covers-entries entries d h = covers-counter_in (known_of entries) d ∙ ap (λ n. nat_le 1 d.counter && nat_le d.counter n) (counter_in-known_of d.actor entries h.sorted)

  known-without : (pairs : Option (List Dot)) (m : DotState V) → (without pairs m).known ≡ known_with pairs m.known
  known-without None m = refl
  known-without (Some ps) m = refl

  module _ (entries : ClockEntries V) (pairs : Option (List Dot)) (f : (ps : List Dot) → pairs ≡ Some ps → IsTrue (is_well_formed ps)) (h : AreEntries entries) where
    after : AreEntries (entries_without pairs entries)
    after = AreEntries-without pairs entries f h

    known_is : known_of (entries_without pairs entries) ≡ known_with pairs (known_of entries)
    known_is = ap (λ m. m.known) (dot_state_of-without pairs entries f h) ∙ known-without pairs (dot_state_of entries)

    pub ready-counter : (a : Actor) → (entry_for a (entries_without pairs entries)).0 ≡ counter_in (known_with pairs (known_of entries)) a
    ready-counter a = sym (counter_in-known_of a (entries_without pairs entries) after.sorted) ∙ ap (λ k. counter_in k a) known_is

    pub ready-length : (a : Actor) (value : V) → length (put actor_cmp a (with_value value (entry_for a (entries_without pairs entries))) (entries_without pairs entries)) ≡ length (known_after a (known_with pairs (known_of entries)))
    ready-length a value =
        sym (length-known_of (put actor_cmp a (with_value value (entry_for a (entries_without pairs entries))) (entries_without pairs entries)))
        ∙ ap (λ m. length m.known) (dot_state_of-event a value (entries_without pairs entries) after)
        ∙ ap (λ k. length (known_after a k)) known_is

    pub ready-meaning : (a : Actor) (value : V) → dot_state_of (put actor_cmp a (with_value value (entry_for a (entries_without pairs entries))) (entries_without pairs entries)) ≡ event a value (without pairs (dot_state_of entries))
    ready-meaning a value = dot_state_of-event a value (entries_without pairs entries) after ∙ ap (event a value) (dot_state_of-without pairs entries f h)

    pub ready-entries : AreEntries (entries_without pairs entries)
    ready-entries = after

    pub ready-next : (a : Actor) (value : V) → AreEntries (put actor_cmp a (with_value value (entry_for a (entries_without pairs entries))) (entries_without pairs entries))
    ready-next a value = AreEntries-event a value (entries_without pairs entries) after

    pub ready-room : (a : Actor) (value : V) → length (entries_without pairs entries) ≤ length (known_after a (known_with pairs (known_of entries)))
    ready-room a value =
        let long = ready-length a value in
        let grown = length-put actor_cmp actor_cmp_total a (with_value value (entry_for a (entries_without pairs entries))) (entries_without pairs entries) after.sorted in
        omega (arith, long, by (is_some (find actor_cmp a (entries_without pairs entries))) (length (entries_without pairs entries)), grown)
      where
        by : (b : Bool) (n : ℕ) → n ≤ cond b n (n + 1)
        by true n = omega arith
        by false n = omega arith

    -- the counter of an actor in what is known, with a context
    pub seen-is : (a : Actor) → max (entry_for a entries).0 (counter_in (unwrap_or pairs []) a) ≡ counter_in (known_with pairs (known_of entries)) a
    seen-is a = ap (λ n. max n (counter_in (unwrap_or pairs []) a)) (sym (counter_in-known_of a entries h.sorted)) ∙ by pairs
      where
        by : (ps : Option (List Dot)) → max (counter_in (known_of entries) a) (counter_in (unwrap_or ps []) a) ≡ counter_in (known_with ps (known_of entries)) a
        by None = omega arith
        by (Some ps) = sym (counter_in-union (known_of entries) ps a)

    -- how many actors are known with a context
    pub known-length : length (known_with pairs (known_of entries)) ≡ length entries + count_new (entries_of_pairs (unwrap_or pairs [])) entries
    known-length = by pairs f
      where
        by : (ps : Option (List Dot)) → ((qs : List Dot) → ps ≡ Some qs → IsTrue (is_well_formed qs)) → length (known_with ps (known_of entries)) ≡ length entries + count_new (entries_of_pairs (unwrap_or ps [])) entries
        by None f = omega (arith, length-known_of entries)
        by (Some qs) f = length-discard entries qs h (f qs refl)

    -- and after an event
    pub after-length : (a : Actor) → length (known_after a (known_with pairs (known_of entries)))
        ≡ cond (nat_le 1 (counter_in (known_with pairs (known_of entries)) a)) (length entries + count_new (entries_of_pairs (unwrap_or pairs [])) entries) (length entries + count_new (entries_of_pairs (unwrap_or pairs [])) entries + 1)
    after-length a =
        length-insert_max (record { actor = a; counter = counter_in (known_with pairs (known_of entries)) a + 1 }) (known_with pairs (known_of entries)) pairs_are
        ∙ ap (λ n. cond (nat_le 1 (counter_in (known_with pairs (known_of entries)) a)) n (n + 1)) known-length
      where
        pairs_are : IsVersionVector (known_with pairs (known_of entries))
        pairs_are = rw (← known_is) (IsVersionVector-known_of (entries_without pairs entries) after)

    -- those of the entries, the new ones of the context, and one, are the most
    pub after-new : (a : Actor) → length (known_after a (known_with pairs (known_of entries))) ≤ length entries + count_new (entries_of_pairs (unwrap_or pairs [])) entries + 1
    after-new a = one_at_most (nat_le 1 (counter_in (known_with pairs (known_of entries)) a)) _ _ (after-length a)
      where
        one_at_most : (b : Bool) (l k : ℕ) → l ≡ cond b k (k + 1) → l ≤ k + 1
        one_at_most true l k e = omega arith
        one_at_most false l k e = omega arith

    -- those of the entries, of the context, and one, are the most
    pub after-most : (a : Actor) → length (known_after a (known_with pairs (known_of entries))) ≤ length entries + length (unwrap_or pairs []) + 1
    after-most a =
        let all = after-length a in
        let new = count_new-within (entries_of_pairs (unwrap_or pairs [])) entries in
        let long : length (entries_of_pairs {V = V} (unwrap_or pairs [])) ≡ length (unwrap_or pairs []) = length-map (unwrap_or pairs []) (λ pair. (pair.actor, (pair.counter, (let none : List V = [] in none)))) in
        at_most (nat_le 1 (counter_in (known_with pairs (known_of entries)) a)) _ _ _ all (omega arith)
      where
        at_most : (b : Bool) (l k n : ℕ) → l ≡ cond b k (k + 1) → k ≤ n → l ≤ n + 1
        at_most true l k n e h = omega arith
        at_most false l k n e h = omega arith

pub one_more : (n k l : ℕ) → n ≡ 0 → l ≡ cond (nat_le 1 n) k (k + 1) → k + 1 ≡ l
one_more n k l z e = grind (arith, nat_tests)

pub no_more : (n k l : ℕ) → (n ≡ 0 → ⊥) → l ≡ cond (nat_le 1 n) k (k + 1) → k ≡ l
no_more n k l z e = grind (arith, nat_tests)

-- an actor whose counter isn't 0 has one in what is known with a context
pub own_counts : (own given seen : ℕ) → (own ≡ 0 → ⊥) → max own given ≡ seen → seen ≡ 0 → ⊥
own_counts own given seen some is none = let zero : own ≡ 0 = omega (arith, is, none) in some zero

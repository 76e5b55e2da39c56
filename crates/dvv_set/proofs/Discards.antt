-- A discard of all that a clock knows.
use Rattle.std.proofs.Common.{◌≡◌, ℕ, Bool, true, false, not, ◌||◌, cond, IsTrue, List, [], ◌∷◌, refl, ◌∙◌, ap, arith}
use Rattle.std.specs.Prelude.{T, max, filter, nat_le}
use Rattle.std.specs.List.{list_any, list_all}
use Rattle.std.specs.Ordering.{is_lt}
use Rattle.std.specs.FinMap.Entries.{is_sorted, below_all}
use Rattle.std.proofs.lemmas.Bool.Decides.{nat_tests}
use Rattle.actor_epoch.specs.declared.Actor.{Actor}
use Rattle.actor_epoch.specs.declared.Dot.{Dot}
use Rattle.actor_epoch.specs.Dots.{actor_cmp, dot_eq, covers, counter_in, union}
use Rattle.actor_epoch.specs.Contexts.{is_rising}
use Rattle.actor_epoch.proofs.Rising.{and_first, and_second}
use Rattle.actor_epoch.proofs.Order.{is_below_all, rising-below, rising-tail}
use Rattle.actor_epoch.proofs.Pairs.{counter_in-union}
use Rattle.dvv_set.specs.Clocks.{DotState, discard}
use Rattle.dvv_set.specs.Laws.{IsClock}
use Rattle.dvv_set.proofs.Orders.{T-both, T-is}
use Rattle.dvv_set.proofs.Known.{IsVersionVector, IsVersionVector-union, as_entries, same_pairs}

below_all-entries : (a : Actor) (pairs : List Dot) → IsTrue (is_below_all a pairs) → T (below_all actor_cmp a (as_entries pairs))
below_all-entries a [] h = tt
below_all-entries a (pair ∷ pairs) h =
    T-both (is_lt (actor_cmp a pair.actor)) _ (T-is _ (and_first (is_lt (actor_cmp a pair.actor)) (is_below_all a pairs) h))
    (below_all-entries a pairs (and_second (is_lt (actor_cmp a pair.actor)) (is_below_all a pairs) h))

is_sorted-rising : (pairs : List Dot) → IsTrue (is_rising pairs) → T (is_sorted actor_cmp (as_entries pairs))
is_sorted-rising [] h = tt
is_sorted-rising (pair ∷ pairs) h =
    T-both (below_all actor_cmp pair.actor (as_entries pairs)) _
    (below_all-entries pair.actor pairs (rising-below pair pairs h)) (is_sorted-rising pairs (rising-tail pair pairs h))

-- pairs with themselves
union-same : (pairs : List Dot) → IsVersionVector pairs → union pairs pairs ≡ pairs
union-same pairs are =
    same_pairs (union pairs pairs) pairs (IsVersionVector-union pairs pairs are are) are (λ a. counter_in-union pairs pairs a ∙ twice (counter_in pairs a))
  where
    twice : (n : ℕ) → max n n ≡ n
    twice n = omega arith

-- and so pairs that rise, with counters from 1 on
pub union-itself : (pairs : List Dot) → IsTrue (is_rising pairs) → IsTrue (list_all (λ pair. nat_le 1 pair.counter) pairs) → union pairs pairs ≡ pairs
union-itself pairs rising positive = union-same pairs (record { sorted = is_sorted-rising pairs rising; positive = positive })

module _ {V : Type 0} where
  all_covered : (pairs : List Dot) (live : List (Dot × V)) → ((d : Dot) → IsTrue (list_any (λ entry. dot_eq entry.0 d) live) → IsTrue (covers pairs d))
      → filter (λ entry. not (covers pairs entry.0)) live ≡ []
  all_covered pairs [] h = refl
  all_covered pairs (entry ∷ live) h =
      ap (λ b. cond (not b) (entry ∷ filter (λ entry. not (covers pairs entry.0)) live) (filter (λ entry. not (covers pairs entry.0)) live))
      (h entry.0 (λ i. first entry.0 i || list_any (λ (other : Dot × V). dot_eq other.0 entry.0) live))
      ∙ all_covered pairs live (λ d k. h d (later (dot_eq entry.0 d) _ k))
    where
      first : (d : Dot) → (dot_eq d d) ≡ true
      first d = grind (arith, nat_tests)

      later : (a b : Bool) → b ≡ true → (a || b) ≡ true
      later true b h = refl
      later false b h = h

  pub discard-all : (clock : DotState V) → IsClock clock → discard clock.known clock ≡ record { known = clock.known; live = [] }
  discard-all clock is =
      let knows = union-itself clock.known is.rising is.positive in
      let lives = all_covered clock.known clock.live is.live_known in
      λ i. record { known = knows i; live = lives i }

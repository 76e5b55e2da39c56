-- What a context saw, where there may be none: none is as one without pairs.
use Rattle.std.proofs.Common.{◌≡◌, ℕ, suc, ◌+◌, Bool, true, false, not, cond, List, [], ◌∷◌, length, refl, sym, ◌∙◌, ap, arith}
use Rattle.std.specs.Prelude.{Option, Some, None, max, filter, unwrap_or}
use Rattle.std.specs.List.{list_any}
use Rattle.std.specs.declared.cmp.Ordering.{Ordering}
use Rattle.std.specs.declared.cmp.Ordering.TheVariants.{Less, Equal, Greater}
use Rattle.std.specs.Ordering.{is_lt}
use Rattle.std.specs.FinMap.Entries.{by_order}
use Rattle.riak_msgs.specs.Contents.{Content}
use Rattle.actor_epoch.specs.declared.Actor.{Actor}
use Rattle.actor_epoch.specs.declared.Dot.{Dot}
use Rattle.actor_epoch.specs.Dots.{actor_cmp, covers, counter_in, next_dot, insert_max, union}
use Rattle.actor_epoch.specs.Contexts.{is_rising}
use Rattle.actor_epoch.proofs.Order.{actor_eq-itself, rising-tail}
use Rattle.actor_epoch.proofs.Pairs.{actor_cmp-same, counter_in-insert_max}
use Rattle.actor_epoch.proofs.Rising.{and_first}
use Rattle.dvv_set.specs.Clocks.{DotState, discard, event}
use Rattle.dvv_set.specs.Held.{IsWithin, actors_after, known_after, known_with, without}
use Rattle.vnode_machine.specs.Sound.{IsForm}
use Rattle.vnode_machine.proofs.Forms.{counter-most}
use Rattle.vnode_machine.proofs.Tests.{or_left, or_right}
pub use Rattle.actor_epoch.proofs.Order.{is_lt-less as less}

-- a rising list without what no context saw
insert_max-rising : (pair : Dot) (pairs : List Dot) → is_rising (pair ∷ pairs) ≡ true → insert_max pair pairs ≡ pair ∷ pairs
insert_max-rising pair [] h = refl
insert_max-rising pair (next ∷ pairs) h =
    ap (λ o. by_order o (pair ∷ next ∷ pairs) ((let one : Dot = record { actor = next.actor; counter = max pair.counter next.counter } in one) ∷ pairs) (next ∷ insert_max pair pairs))
    (less (actor_cmp pair.actor next.actor) (and_first (is_lt (actor_cmp pair.actor next.actor)) (is_rising (next ∷ pairs)) h))

union-nil : (pairs : List Dot) → is_rising pairs ≡ true → union pairs [] ≡ pairs
union-nil [] h = refl
union-nil (pair ∷ pairs) h = ap (λ ps. insert_max pair ps) (union-nil pairs (rising-tail pair pairs h)) ∙ insert_max-rising pair pairs h

uncovered-nil : {X : Type 0} (live : List (Dot × X)) → filter (λ entry. not (covers [] entry.0)) live ≡ live
uncovered-nil [] = refl
uncovered-nil (entry ∷ live) = ap (λ es. entry ∷ es) (uncovered-nil live)

known_with-pairs : (seen : Option (List Dot)) (known : List Dot) → is_rising known ≡ true → known_with seen known ≡ union known (unwrap_or seen [])
known_with-pairs None known h = sym (union-nil known h)
known_with-pairs (Some pairs) known h = refl

pub without-pairs : {X : Type 0} (seen : Option (List Dot)) (clock : DotState X) → is_rising clock.known ≡ true → without seen clock ≡ discard (unwrap_or seen []) clock
without-pairs None clock h = λ i. record { known = sym (union-nil clock.known h) i; live = sym (uncovered-nil clock.live) i }
without-pairs (Some pairs) clock h = refl

-- so many actors there are after a write
pub actors_after-pairs : (seen : Option (List Dot)) (known : List Dot) (own : Actor) → is_rising known ≡ true
    → actors_after known seen own ≡ actors_after known (Some (unwrap_or seen [])) own
actors_after-pairs seen known own h = ap (λ ps. length (known_after own ps)) (known_with-pairs seen known h)

-- one more than the pairs, where none passes a test that all of the actor's pass
pub length-raise_new : (own : Actor) (test : Dot → Bool) → ((n : ℕ) → test (record { actor = own; counter = n }) ≡ true)
    → (n : ℕ) (pairs : List Dot) → list_any test pairs ≡ false → length (insert_max (record { actor = own; counter = n }) pairs) ≡ suc (length pairs)
length-raise_new own test all n [] h = refl
length-raise_new own test all n (pair ∷ pairs) h =
    by (actor_cmp own pair.actor) refl (length-raise_new own test all n pairs (or_right (test pair) (list_any test pairs) h))
  where
    by : (o : Ordering) → actor_cmp own pair.actor ≡ o → length (insert_max (record { actor = own; counter = n }) pairs) ≡ suc (length pairs)
        → length (by_order o ((let d : Dot = record { actor = own; counter = n } in d) ∷ pair ∷ pairs) ((let d : Dot = record { actor = pair.actor; counter = max n pair.counter } in d) ∷ pairs) (pair ∷ insert_max (record { actor = own; counter = n }) pairs))
        ≡ suc (suc (length pairs))
    by Less e rest = refl
    by Equal e rest =
        let same = ap (λ a. test (record { actor = a; counter = pair.counter })) (actor_cmp-same own pair.actor e) in
        let holds : true ≡ false = sym (all pair.counter) ∙ same ∙ or_left (test pair) (list_any test pairs) h in
        cc
    by Greater e rest = ap suc rest

-- an actor's counter once its next dot is known
counter_in-next : (own : Actor) (pairs : List Dot) → counter_in (insert_max (next_dot own pairs) pairs) own ≡ counter_in pairs own + 1
counter_in-next own pairs =
    counter_in-insert_max (next_dot own pairs) pairs own
    ∙ (λ i. cond (actor_eq-itself own i) (max (counter_in pairs own + 1) (counter_in pairs own)) (counter_in pairs own))
    ∙ greatest (counter_in pairs own)
  where
    greatest : (n : ℕ) → max (n + 1) n ≡ n + 1
    greatest n = omega arith

-- a write whose result is of the form is within the limits
pub form-within : (own : Actor) (value : Option Content) (clock : DotState (Option Content)) (seen : Option (List Dot)) → is_rising clock.known ≡ true
    → IsForm (record { own = Some own; clock = event own value (discard (unwrap_or seen []) clock) }) → IsWithin clock.known seen own
form-within own value clock seen rising form =
    let all : List Dot = union clock.known (unwrap_or seen []) in
    let counter = ap (λ ps. counter_in ps own) (known_with-pairs seen clock.known rising) in
    let few = actors_after-pairs seen clock.known own rising in
    let last = counter-most (known_after own all) own form.clock.pairs.within in
    record {
      few = omega (arith, few, form.clock.most);
      counter = omega (arith, counter, last, counter_in-next own all);
    }

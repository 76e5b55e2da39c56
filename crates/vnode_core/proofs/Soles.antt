-- A write over all that a clock of one pair knows.
use Rattle.std.proofs.Common.{◌≡◌, ℕ, ◌+◌, true, cond, List, [], ◌∷◌, sym, ◌∙◌, ap, arith}
use Rattle.std.specs.Prelude.{max, Option, None, Some, IfSome, SomeIff}
use Rattle.std.specs.FinMap.Entries.{by_order}
use Rattle.std.specs.declared.cmp.Ordering.TheVariants.{Equal}
use Rattle.std.proofs.lemmas.Bool.Decides.{nat_tests}
use Rattle.actor_epoch.specs.declared.Actor.{Actor}
use Rattle.actor_epoch.specs.declared.Dot.{Dot}
use Rattle.actor_epoch.specs.Dots.{actor_cmp, actor_eq, counter_in, insert_max}
use Rattle.dvv_set.specs.Clocks.{DotState, discard, event}
use Rattle.dvv_set.specs.Laws.{IsClock}
use Rattle.dvv_set.proofs.Discards.{discard-all}
use Rattle.riak_msgs.specs.Content.{Content}
use Rattle.vnode_machine.specs.Machine.{same_pairs}
use Rattle.vnode_machine.proofs.Sights.{same_pairs-same}
use Rattle.vnode_core.specs.Replies.{sole}

actor_eq-refl : (a : Actor) → actor_eq a a ≡ true
actor_eq-refl a = grind (arith, nat_tests)

pub actor_cmp-refl : (a : Actor) → actor_cmp a a ≡ Equal
actor_cmp-refl a = grind (arith, nat_tests)

-- the one pair
abbrev pub alone : Actor → ℕ → List Dot
alone a n = record { actor = a; counter = n } ∷ []

pub counter_in-alone : (a : Actor) (n : ℕ) → counter_in (alone a n) a ≡ n
counter_in-alone a n = ap (λ b. cond b (max n 0) 0) (actor_eq-refl a) ∙ most n
  where
    most : (n : ℕ) → max n 0 ≡ n
    most n = omega arith

insert_max-alone : (a : Actor) (n : ℕ) → insert_max (record { actor = a; counter = n + 1 }) (alone a n) ≡ alone a (n + 1)
insert_max-alone a n =
    ap (λ o. by_order o (record { actor = a; counter = n + 1 } ∷ alone a n) (record { actor = a; counter = max (n + 1) n } ∷ []) (record { actor = a; counter = n } ∷ insert_max (record { actor = a; counter = n + 1 }) [])) (actor_cmp-refl a)
    ∙ ap (alone a) (most n)
  where
    most : (n : ℕ) → max (n + 1) n ≡ n + 1
    most n = omega arith

module _ {V : Type 0} where
  pub event-alone : (a : Actor) (n : ℕ) (value : V) → event a value (record { known = alone a n; live = [] })
      ≡ record { known = alone a (n + 1); live = (record { actor = a; counter = n + 1 }, value) ∷ [] }
  event-alone a n value =
      ap (λ k. event-at k) (counter_in-alone a n) ∙ (λ i. record { known = insert_max-alone a n i; live = (record { actor = a; counter = n + 1 }, value) ∷ [] })
    where
      event-at : ℕ → DotState V
      event-at k = let dot : Dot = record { actor = a; counter = k + 1 } in record { known = insert_max dot (alone a n); live = (dot, value) ∷ [] }

  pub event-over : (a : Actor) (n : ℕ) (value : V) (pairs : List Dot) (clock : DotState V) → IsClock clock → alone a n ≡ clock.known → same_pairs pairs clock.known ≡ true
      → event a value (discard pairs clock) ≡ record { known = alone a (n + 1); live = (record { actor = a; counter = n + 1 }, value) ∷ [] }
  event-over a n value pairs clock is only same =
      ap (λ ps. event a value (discard ps clock)) (same_pairs-same pairs clock.known same)
      ∙ ap (event a value) (discard-all clock is)
      ∙ ap (λ ps. event a value (record { known = ps; live = [] })) (sym only)
      ∙ event-alone a n value

-- the next dot of the actor that alone is known
pub next-sole : (P : Type 0) (actor only : Actor) (n : ℕ) (next : Option ℕ) (pairs : List Dot) (clock : DotState (Option Content)) → IsClock clock → alone only n ≡ clock.known
    → only ≡ actor → same_pairs pairs clock.known ≡ true → SomeIff next P (n + 1)
    → IfSome next (λ counter. (content : Content) → event actor (Some content) (discard pairs clock) ≡ sole (record { actor = actor; counter = counter }) content)
next-sole P actor only n None pairs clock is known own same next_is = tt
next-sole P actor only n (Some counter) pairs clock is known own same next_is = λ content.
    event-over actor n (Some content) pairs clock is (ap (λ a. alone a n) (sym own) ∙ known) same
    ∙ ap (λ m. sole (record { actor = actor; counter = m }) content) (sym next_is.1)

-- The siblings after a write or delete of the primary: its own number, and those that it didn't see.
use Rattle.std.proofs.Common.{◌≡◌, ℕ, suc, ◌+◌, ◌≤◌, Bool, true, false, not, ◌&&◌, ◌||◌, cond, List, [], ◌∷◌, ◌++◌, refl, sym, ◌∙◌, ap, subst, inl, inr}
use Rattle.std.specs.Prelude.{◌==◌, filter, flat_map, reverse, Option, Some, None}
use Rattle.std.specs.Option.{option_map_or}
use Rattle.std.specs.List.{list_any}
use Rattle.std.proofs.lemmas.List.Elements.{filter-append}
use Rattle.riak_msgs.specs.declared.Key.{Key}
use Rattle.riak_msgs.specs.Contents.{Content}
use Rattle.riak_msgs.specs.KeyOrder.{key_eq}
use Rattle.sibling_register.specs.History.{Event, count_of, is_update, numbers_to, written}
use Rattle.sibling_register.specs.Siblings.{siblings, is_among}
use Rattle.sibling_register.proofs.Following.{left_by, siblings-own}
use Rattle.actor_epoch.specs.declared.Actor.{Actor}
use Rattle.actor_epoch.specs.declared.Dot.{Dot}
use Rattle.actor_epoch.specs.Dots.{covers}
use Rattle.actor_epoch.specs.Given.{Context}
use Rattle.vnode_machine.specs.Lives.{dot_of}
use Rattle.vnode_machine.proofs.Keys.{key_eq-refl}
use Rattle.vnode_machine.proofs.Tests.{nat_eq-refl}
use Rattle.copy_laws.specs.Copies.{Command, commands_of, brought}
use Rattle.copy_laws.specs.Sides.{Partition, Number, has_number, dot_at, content_at, saw_brought, is_covered_by, is_seen_by_primary, is_seen_elsewhere, siblings_of, siblings_at, joint_siblings}
use Rattle.copy_laws.specs.Joining.{Log, Fallbacks, IsJoined, HasDot, value_at}
use Rattle.copy_laws.specs.Leaving.{saw_number}
use Rattle.copy_laws.specs.JointAnswers.{unseen_at}
use Rattle.copy_laws.proofs.Tests.{not_zero, or_true}
use Rattle.copy_laws.proofs.Since.{IsUpdate, clock_at, dot_given, pairs_at, value-at}
use Rattle.copy_laws.proofs.Later.{dot-later}
use Rattle.copy_laws.proofs.Fallback.{dot_eq-refl}
use Rattle.copy_laws.proofs.JointLists.{on_side, among-reverse, among-diversion}
use Rattle.copy_laws.proofs.PrimaryDots.{own-number-dot}
use Rattle.copy_laws.proofs.Tracked.{exact-at}
use Rattle.copy_laws.proofs.JoinedFacts.{joint-out}
use Rattle.copy_laws.proofs.JoinLaw.{copies_join}
use Rattle.copy_laws.proofs.Rises.{Each, Chain, one-life}
use Rattle.copy_laws.proofs.Ordered.{primary-reaps}
use Rattle.copy_laws.proofs.Leaving.{same-number}

abbrev on : ℕ → ℕ → Number
on side n = record { side = side; number = n }

-- a filter over several sides
filter-sides : (p : Number → Bool) (f : ℕ → List Number) (sides : List ℕ) → filter p (flat_map f sides) ≡ flat_map (λ side. filter p (f side)) sides
filter-sides p f [] = refl
filter-sides p f (side ∷ sides) = filter-append p (f side) (flat_map f sides) ∙ ap (λ t. filter p (f side) ++ t) (filter-sides p f sides)

-- the same of each side
same-sides : (f g : ℕ → List Number) (sides : List ℕ) → ((side : ℕ) → is_among sides side ≡ true → f side ≡ g side) → flat_map f sides ≡ flat_map g sides
same-sides f g [] e = refl
same-sides f g (side ∷ sides) e =
    λ i. e side (ap (λ b. b || is_among sides side) (nat_eq-refl side)) i ++ same-sides f g sides (λ other h. e other (ap (λ b. (side == other) || b) h ∙ or_true (side == other))) i

-- a test that is two, on each number of a side
module _ (p q r : Number → Bool) (side : ℕ) where
  step : (b : Bool) (n : ℕ) (numbers : List Number) → filter r (cond b (on side n ∷ numbers) numbers) ≡ cond (b && r (on side n)) (on side n ∷ filter r numbers) (filter r numbers)
  step true n numbers = refl
  step false n numbers = refl

  on_side-both : ((n : ℕ) → p (on side n) ≡ (q (on side n) && r (on side n))) → (numbers : List ℕ) → on_side p side numbers ≡ filter r (on_side q side numbers)
  on_side-both e [] = refl
  on_side-both e (n ∷ numbers) =
      (λ i. cond (e n i) (on side n ∷ on_side-both e numbers i) (on_side-both e numbers i)) ∙ sym (step (q (on side n)) n (on_side q side numbers))

  -- and where some numbers are left out before
  on_side-left : (a : ℕ → Bool) (P : ℕ → Type 0) → ((n : ℕ) → P n → (a n && p (on side n)) ≡ (q (on side n) && r (on side n))) → (numbers : List ℕ) → Each P numbers
      → on_side p side (filter a numbers) ≡ filter r (on_side q side numbers)
  on_side-left a P e [] h = refl
  on_side-left a P e (n ∷ numbers) h =
      left (a n) ∙ (λ i. cond (e n h.0 i) (on side n ∷ on_side-left a P e numbers h.1 i) (on_side-left a P e numbers h.1 i)) ∙ sym (step (q (on side n)) n (on_side q side numbers))
    where
      left : (b : Bool) → on_side p side (cond b (n ∷ filter a numbers) (filter a numbers)) ≡ cond (b && p (on side n)) (on side n ∷ on_side p side (filter a numbers)) (on_side p side (filter a numbers))
      left true = refl
      left false = refl

-- what an update leaves of another side
unseen-more : (k b sees seen covered : Bool) → k ≡ true → not ((k && sees) || seen || covered) ≡ (not (seen || covered) && not sees)
unseen-more true b true true covered e = refl
unseen-more true b true false true e = refl
unseen-more true b true false false e = refl
unseen-more true b false true covered e = refl
unseen-more true b false false true e = refl
unseen-more true b false false false e = refl
unseen-more false b sees seen covered e = cc

module _ (partition : Partition) (event : Event Content Context) (log : Log) (update : is_update event.operation ≡ true)
    (joined : IsJoined partition (Command event ∷ log) (brought log event.key) event.key) where
  abbrev v : ℕ
  v = partition.primary

  abbrev l : ℕ
  l = partition.last_epoch

  abbrev key : Key
  key = event.key

  abbrev come : Fallbacks
  come = brought log key

  abbrev after : Log
  after = Command event ∷ log

  abbrev new : ℕ
  new = suc (count_of (commands_of log) key)

  abbrev dot : Dot
  dot = dot_given v l key log event

  is : IsUpdate v l key event
  is = (key_eq-refl key, update)

  dotted : HasDot partition after come key (on 0 new) dot
  dotted = own-number-dot partition after come key joined [] event log refl is dot (exact-at partition after come key joined [] event log refl is)

  -- no fallback covers the new dot
  new-unseen : is_seen_elsewhere partition after come key (on 0 new) ≡ false
  new-unseen = by ((copies_join partition after come key joined dot (written event.operation)).0 value)
    where
      value : value_at (clock_at v l key after) dot ≡ Some (written event.operation)
      value =
          value-at v l key event log is dot
          ∙ ap (λ b. cond b (Some (written event.operation)) (cond (covers (pairs_at v l key log event) dot) None (value_at (clock_at v l key log) dot))) (dot_eq-refl v l key dot)

      by : (number : Number) × (has_number (joint_siblings partition after come key) number ≡ true) × HasDot partition after come key number dot × (content_at partition after come key number ≡ written event.operation)
          → is_seen_elsewhere partition after come key (on 0 new) ≡ false
      by h = (joint-out partition after come key joined (on 0 new) (ap (has_number (joint_siblings partition after come key)) (sym (same-number partition after come key joined (on 0 new) dot h.0 h.2 dotted)) ∙ h.1)).unseen

  -- each sibling of its own side has a dot
  abbrev IsDotted : ℕ → Type 0
  IsDotted n = (n ≤ count_of (commands_of log) key) × ((d : Dot) × (dot_of v l (commands_of log) key n ≡ Some d))

  own-dotted : Each IsDotted (siblings (commands_of log) key)
  own-dotted =
      elim (one-life v l key (commands_of log) (primary-reaps v l key partition log joined.hand_off.primary_legal.0)) [
        | inl h ↦ subst (Each IsDotted) (sym h.1) tt
        | inr h ↦ chain h.0.actor (h.0.counter + 1) (siblings (commands_of log) key) h.3
      ]
    where
      chain : (actor : Actor) (top : ℕ) (ns : List ℕ) → Chain v l key (commands_of log) actor top ns → Each IsDotted ns
      chain actor top [] h = tt
      chain actor top (n ∷ ns) h = ((h.2, (record { actor = actor; counter = h.0 }, h.3)), chain actor h.0 ns h.4)

  abbrev unseen : Number → Bool
  unseen number = not (option_map_or (saw_number event log number) (dot_at partition log come key number) false)

  abbrev apart_now : Number → Bool
  apart_now number = not (is_seen_elsewhere partition log come key number)

  abbrev apart_then : Number → Bool
  apart_then number = not (is_seen_elsewhere partition after come key number)

  own-side : siblings_of partition after come key 0 ≡ on 0 new ∷ filter unseen (siblings_of partition log come key 0)
  own-side =
      ap (on_side apart_then 0) (siblings-own event (commands_of log) key (key_eq-refl key) ∙ ap (λ b. cond b (new ∷ left_by event.saw own) (left_by event.saw own)) update)
      ∙ ap (λ b. cond (not b) (on 0 new ∷ on_side apart_then 0 (left_by event.saw own)) (on_side apart_then 0 (left_by event.saw own))) new-unseen
      ∙ (λ i. on 0 new ∷ on_side-left apart_then apart_now unseen 0 (λ n. not (is_among event.saw n)) IsDotted one own own-dotted i)
    where
      own : List ℕ
      own = siblings (commands_of log) key

      swap : (a b : Bool) → (a && b) ≡ (b && a)
      swap true true = refl
      swap true false = refl
      swap false true = refl
      swap false false = refl

      covered : Option Dot → Bool
      covered o = option_map_or (λ d. list_any (λ side. not (side == 0) && is_covered_by (come side) key d) (numbers_to partition.diversions)) o false

      one : (n : ℕ) → IsDotted n → (not (is_among event.saw n) && apart_then (on 0 n)) ≡ (apart_now (on 0 n) && unseen (on 0 n))
      one n h =
          (λ i. not (is_among event.saw n) && not (covered (dot-later key v l (event ∷ []) (commands_of log) n h.0 i)))
          ∙ swap (not (is_among event.saw n)) (apart_now (on 0 n))
          ∙ ap (λ o. apart_now (on 0 n) && not (option_map_or (λ d. is_among event.saw n) o false)) (sym h.1.1)

  other-side : (side : ℕ) → (side == 0) ≡ false → siblings_of partition after come key side ≡ filter unseen (siblings_of partition log come key side)
  other-side side z =
      ap (λ b. on_side apart_then side (siblings (cond b (event ∷ commands_of log) (come side)) key)) z
      ∙ on_side-both apart_then apart_now unseen side (λ n. one n (side == 0) z (dot_of partition.fallback (partition.opened side) (come side) key n)) (siblings (come side) key)
      ∙ ap (λ b. filter unseen (on_side apart_now side (siblings (cond b (commands_of log) (come side)) key))) (sym z)
    where
      covered : Dot → Bool
      covered d = list_any (λ other. not (other == side) && is_covered_by (come other) key d) (numbers_to partition.diversions)

      one : (n : ℕ) (b : Bool) → b ≡ false → (o : Option Dot)
          → not (option_map_or (λ d. (not b && ((key_eq key key && saw_brought event log (on side n) d) || is_seen_by_primary log key (on side n) d)) || covered d) (cond b (dot_of v l (event ∷ commands_of log) key n) o) false)
          ≡ (not (option_map_or (λ d. (not b && is_seen_by_primary log key (on side n) d) || covered d) (cond b (dot_of v l (commands_of log) key n) o) false)
          && not (option_map_or (λ d. cond b (is_among event.saw n) (saw_brought event log (on side n) d)) (cond b (dot_of v l (commands_of log) key n) o) false))
      one n true e o = cc
      one n false e None = refl
      one n false e (Some d) = unseen-more (key_eq key key) false (saw_brought event log (on side n) d) (is_seen_by_primary log key (on side n) d) (covered d) (key_eq-refl key)

  -- so the siblings after it are its own number, and those that it didn't see
  pub siblings-next : siblings_at partition after key ≡ on 0 new ∷ unseen_at partition log event
  siblings-next =
      (λ i. own-side i ++ same-sides (siblings_of partition after come key) (λ side. filter unseen (siblings_of partition log come key side)) (reverse (numbers_to partition.diversions)) other i)
      ∙ ap (λ t. on 0 new ∷ filter unseen (siblings_of partition log come key 0) ++ t) (sym (filter-sides unseen (siblings_of partition log come key) (reverse (numbers_to partition.diversions))))
      ∙ ap (λ t. on 0 new ∷ t) (sym (filter-append unseen (siblings_of partition log come key 0) (flat_map (siblings_of partition log come key) (reverse (numbers_to partition.diversions)))))
    where
      other : (side : ℕ) → is_among (reverse (numbers_to partition.diversions)) side ≡ true → siblings_of partition after come key side ≡ filter unseen (siblings_of partition log come key side)
      other side h = other-side side (not_zero side (among-diversion partition.diversions side (sym (among-reverse (numbers_to partition.diversions) side) ∙ h)).0)

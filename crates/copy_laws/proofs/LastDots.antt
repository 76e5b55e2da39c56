-- The last dot that a vnode gave for a key that was never reaped, and a clock that has it.
use Rattle.std.proofs.Common.{◌≡◌, ℕ, Bool, true, false, ◌&&◌, cond, [], ◌∷◌, length, refl, sym, ◌∙◌, ap, arith, inl, inr}
use Rattle.std.specs.Prelude.{◌⊎◌, nat_le, Option, Some, None, option_and_then}
use Rattle.std.specs.Option.{option_map_or}
use Rattle.std.specs.List.{list_all}
use Rattle.std.proofs.lemmas.Bool.Decides.{nat_tests}
use Rattle.riak_msgs.specs.declared.Key.{Key}
use Rattle.riak_msgs.specs.Contents.{Content}
use Rattle.riak_msgs.specs.KeyOrder.{key_eq}
use Rattle.sibling_register.specs.History.{Event, events_of, count_of, is_update}
use Rattle.sibling_register.proofs.Following.{count_of-own}
use Rattle.actor_epoch.specs.declared.Dot.{Dot}
use Rattle.actor_epoch.specs.Dots.{counter_in, covers}
use Rattle.actor_epoch.specs.Given.{Context}
use Rattle.vnode_machine.specs.Machine.{Stored, stored}
use Rattle.vnode_machine.specs.Lives.{latest_dot, dot_of, ends_in_update}
use Rattle.vnode_machine.specs.Replay.{HasReplay, replay}
use Rattle.vnode_machine.proofs.Counters.{covers-counter}
use Rattle.vnode_machine.proofs.Invariants.{IsKept, actor_of}
use Rattle.vnode_machine.proofs.Numbers.{dot_of-own}
use Rattle.vnode_machine.proofs.Bases.{not-alive}
use Rattle.vnode_machine.proofs.Steps.{known}
use Rattle.vnode_machine.proofs.Tests.{and_left}
use Rattle.copy_laws.specs.LastDots.{knows_last_dot}
use Rattle.copy_laws.proofs.Clocks.{Clock, knows}
use Rattle.copy_laws.proofs.Later.{H, are_updates}
use Rattle.copy_laws.proofs.Fallback.{knows-number}

-- the last number of a key that was never reaped has the latest dot
last-dot : (v l : ℕ) (key : Key) (history : H) → are_updates key history ≡ true → (dot : Dot) → latest_dot v l history key ≡ Some dot
    → dot_of v l history key (count_of history key) ≡ Some dot
last-dot v l key [] updates dot e = cc
last-dot v l key (event ∷ before) updates dot e = by (last-dot v l key before) (key_eq event.key key) refl (is_update event.operation) refl updates
  where
    other : key_eq event.key key ≡ false → (are_updates key before ≡ true → (d : Dot) → latest_dot v l before key ≡ Some d → dot_of v l before key (count_of before key) ≡ Some d) → are_updates key before ≡ true
        → dot_of v l (event ∷ before) key (count_of (event ∷ before) key) ≡ Some dot
    other p rest all =
        let latest : latest_dot v l (event ∷ before) key ≡ latest_dot v l before key = rw p refl in
        let here : dot_of v l (event ∷ before) key (count_of (event ∷ before) key) ≡ dot_of v l before key (count_of before key) = rw p refl in
        here ∙ rest all dot (sym latest ∙ e)

    by : (are_updates key before ≡ true → (d : Dot) → latest_dot v l before key ≡ Some d → dot_of v l before key (count_of before key) ≡ Some d) → (a : Bool) → key_eq event.key key ≡ a → (u : Bool) → is_update event.operation ≡ u
        → list_all (λ (x : Event Content Context). is_update x.operation) (cond a (event ∷ events_of before key) (events_of before key)) ≡ true
        → dot_of v l (event ∷ before) key (count_of (event ∷ before) key) ≡ Some dot
    by rest true p true q all = ap (dot_of v l (event ∷ before) key) (count_of-own event before key p) ∙ dot_of-own event before key v l p q ∙ e
    by rest true p false q all = let no : false ≡ true = sym q ∙ and_left (is_update event.operation) (are_updates key before) all in cc
    by rest false p u q all = other p rest all

module _ (v l : ℕ) (key : Key) (history : H) (replays : HasReplay v l history) (updates : are_updates key history ≡ true) (here : Clock) where
  -- a clock has the last dot of a key that is stored so
  abbrev has_own : Option (Stored Content) → Bool
  has_own o =
      option_map_or
      (λ own. nat_le (counter_in (option_map_or (λ (s : Stored Content). s.clock) o (record { known = []; live = [] })).known own) (counter_in here.known own))
      (option_and_then (λ (s : Stored Content). s.own) o) true

  -- the last number's dot is there, and the clock knows it
  abbrev IsLastKnown : Type 0
  IsLastKnown = (dot : Dot) × (dot_of v l history key (count_of history key) ≡ Some dot) × (knows here dot ≡ true)

  in-reach : (c n m : ℕ) → (nat_le 1 c && nat_le c n) ≡ true → nat_le c m ≡ true → (nat_le 1 c && nat_le c m) ≡ true
  in-reach c n m h k = grind (arith, nat_tests)

  none : (es : H) → (list_all (λ (x : Event Content Context). is_update x.operation) es ≡ true) → ends_in_update es ≡ false → length es ≡ 0
  none [] h k = refl
  none (event ∷ es) h k = let no : false ≡ true = sym k ∙ and_left (is_update event.operation) (list_all (λ (x : Event Content Context). is_update x.operation) es) h in cc

  held : (s : Stored Content) → stored (replay v l history) key ≡ Some s → IsKept v l (replay v l history).last_epoch history key (Some s) → has_own (Some s) ≡ true → IsLastKnown
  held s e kept h =
      let dot : Dot = record { actor = actor_of s; counter = counter_in s.clock.known (actor_of s) } in
      let number_is = last-dot v l key history updates dot kept.latest in
      let known_there : covers s.clock.known dot ≡ true =
      ap (λ o. covers (option_map_or (λ (t : Stored Content). t.clock) o (record { known = []; live = [] })).known dot) (sym e)
      ∙ knows-number v l key history replays updates (count_of history key) dot number_is in
      let reached : nat_le (counter_in s.clock.known (actor_of s)) (counter_in here.known (actor_of s)) ≡ true =
      sym (ap (λ o. option_map_or (λ own. nat_le (counter_in s.clock.known own) (counter_in here.known own)) o true) kept.owned) ∙ h in (
        dot,
        number_is,
        covers-counter here.known dot
            ∙ in-reach (counter_in s.clock.known (actor_of s)) (counter_in s.clock.known (actor_of s)) (counter_in here.known (actor_of s)) (sym (covers-counter s.clock.known dot) ∙ known_there) reached,
      )

  -- so there was no event of the key, or the clock knows the last one's dot
  pub last-known : knows_last_dot here (replay v l history) key ≡ true → (count_of history key ≡ 0) ⊎ IsLastKnown
  last-known h = by (stored (replay v l history) key) refl ((known v l history replays).keys key) h
    where
      by : (o : Option (Stored Content)) → stored (replay v l history) key ≡ o → IsKept v l (replay v l history).last_epoch history key o → has_own o ≡ true
          → (count_of history key ≡ 0) ⊎ IsLastKnown
      by None e kept h = inl (none (events_of history key) updates (not-alive (events_of history key) kept))
      by (Some s) e kept h = inr (held s e kept h)

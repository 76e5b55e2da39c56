-- The machine's contexts are a naming of its positions.
use Rattle.std.proofs.Common.{◌≡◌, ℕ, suc, ◌+◌, ◌≤◌, Bool, true, false, not, ◌||◌, cond, List, [], ◌∷◌, ◌++◌, length, refl, sym, ◌∙◌, ap, arith, subst}
use Rattle.std.specs.Prelude.{nat_eq, Option, Some, None, IsTrue, is_some}
use Rattle.std.specs.List.{list_any}
use Rattle.std.proofs.lemmas.Bool.Decides.{nat_tests}
use Rattle.riak_msgs.specs.declared.Key.{Key}
use Rattle.riak_msgs.specs.Contents.{Content}
use Rattle.riak_msgs.specs.KeyOrder.{key_eq}
use Rattle.sibling_register.specs.History.{Event, Operation, Write, Tombstone, Reap, events_of, count_of}
use Rattle.sibling_register.specs.Siblings.{is_defined}
use Rattle.sibling_register.specs.Naming.{IsEquivalence, IsNamingOf, is_untouched}
use Rattle.actor_epoch.specs.declared.Dot.{Dot}
use Rattle.actor_epoch.specs.Dots.{counter_in}
use Rattle.actor_epoch.specs.Given.{Context, Malformed, Pairs}
use Rattle.vnode_machine.specs.Machine.{Stored, State, stored, same_pairs, same_context, apply_operation}
use Rattle.vnode_machine.specs.Replay.{replay, naming, HasReplay}
use Rattle.vnode_machine.proofs.Keys.{find_stored, find_reaped}
use Rattle.vnode_machine.proofs.Invariants.{H, clock_in, HasGrown, IsEarlier, actor_of}
use Rattle.vnode_machine.proofs.Sights.{same_pairs-same, Each, known_at}
use Rattle.vnode_machine.proofs.Steps.{IsKnown, last_of, known}
use Rattle.vnode_machine.proofs.Mirrors.{held-same}
use Rattle.vnode_machine.proofs.Counters.{actor_eq-refl}
use Rattle.vnode_machine.proofs.Tests.{nat_eq-refl}

pub same_pairs-refl : (pairs : List Dot) → same_pairs pairs pairs ≡ true
same_pairs-refl [] = refl
same_pairs-refl (pair ∷ pairs) = rw (actor_eq-refl pair.actor, nat_eq-refl pair.counter) (same_pairs-refl pairs)

same-equivalence : IsEquivalence same_context
same-equivalence = record { reflexive = reflexive; symmetric = symmetric; transitive = transitive }
  where
    reflexive : (a : Context) → IsTrue (same_context a a)
    reflexive Malformed = refl
    reflexive (Pairs a) = same_pairs-refl a

    symmetric : (a b : Context) → IsTrue (same_context a b) → IsTrue (same_context b a)
    symmetric Malformed Malformed h = refl
    symmetric Malformed (Pairs b) h = cc
    symmetric (Pairs a) Malformed h = cc
    symmetric (Pairs a) (Pairs b) h = subst (λ c. same_pairs c a ≡ true) (same_pairs-same a b h) (same_pairs-refl a)

    transitive : (a b c : Context) → IsTrue (same_context a b) → IsTrue (same_context b c) → IsTrue (same_context a c)
    transitive Malformed Malformed c h k = k
    transitive Malformed (Pairs b) c h k = cc
    transitive (Pairs a) Malformed c h k = cc
    transitive (Pairs a) (Pairs b) Malformed h k = cc
    transitive (Pairs a) (Pairs b) (Pairs c) h k = subst (λ x. same_pairs x c ≡ true) (sym (same_pairs-same a b h)) k

-- an event of another key leaves what is stored
stored-elsewhere : (state : State Content) (at : Key) (given : Option Context) (operation : Operation Content) (key : Key) → key_eq at key ≡ false
    → stored (apply_operation state at given operation) key ≡ stored state key
stored-elsewhere state at given (Write content) key e = find_stored key at _ state.keys ∙ rw e refl
stored-elsewhere state at given Tombstone key e = find_stored key at _ state.keys ∙ rw e refl
stored-elsewhere state at given Reap key e = find_reaped at key state.keys ∙ rw e refl

-- no more events exactly where none lies between
count-between : (between position : H) (key : Key) → count_of position key ≤ count_of (between ++ position) key
count-between [] position key = omega arith
count-between (event ∷ between) position key = by (key_eq event.key key) (count-between between position key)
  where
    by : (b : Bool) → count_of position key ≤ count_of (between ++ position) key
        → count_of position key ≤ length (cond b (event ∷ events_of (between ++ position) key) (events_of (between ++ position) key))
    by true h = omega (arith, h)
    by false h = h

count-untouched : (between position : H) (key : Key) → nat_eq (count_of position key) (count_of (between ++ position) key) ≡ is_untouched between key
count-untouched [] position key = nat_eq-refl (count_of position key)
count-untouched (event ∷ between) position key = by (key_eq event.key key) (count-between between position key) (count-untouched between position key)
  where
    more : (n m : ℕ) → n ≤ m → nat_eq n (suc m) ≡ false
    more n m h = grind (arith, nat_tests)

    by : (b : Bool) → count_of position key ≤ count_of (between ++ position) key
        → nat_eq (count_of position key) (count_of (between ++ position) key) ≡ is_untouched between key
        → nat_eq (count_of position key) (length (cond b (event ∷ events_of (between ++ position) key) (events_of (between ++ position) key)))
        ≡ not (b || list_any (λ (e : Event Content Context). key_eq e.key key) between)
    by true h e = more (count_of position key) (count_of (between ++ position) key) h
    by false h e = e

Each-at : (P : H → Type 0) (between position : H) → Each P (between ++ position) → P position
Each-at P [] [] h = h
Each-at P [] (event ∷ position) h = h.0
Each-at P (event ∷ between) position h = Each-at P between position h.1

module _ (v l : ℕ) where
  pub replay-earlier : (later position : H) → HasReplay v l (later ++ position) → HasReplay v l position
  replay-earlier [] position h = h
  replay-earlier (event ∷ later) position h = replay-earlier later position h.0

  stored-between : (between position : H) (key : Key) → is_untouched between key ≡ true → stored (replay v l (between ++ position)) key ≡ stored (replay v l position) key
  stored-between [] position key h = refl
  stored-between (event ∷ between) position key h =
      stored-elsewhere (replay v l (between ++ position)) event.key event.context event.operation key (neither (key_eq event.key key) (list_any (λ (e : Event Content Context). key_eq e.key key) between) h)
      ∙ stored-between between position key (nor (key_eq event.key key) (list_any (λ (e : Event Content Context). key_eq e.key key) between) h)
    where
      neither : (a b : Bool) → not (a || b) ≡ true → a ≡ false
      neither true b h = cc
      neither false b h = refl

      nor : (a b : Bool) → not (a || b) ≡ true → not b ≡ true
      nor true b h = cc
      nor false b h = h

  abbrev same_names : H → H → Key → Bool
  same_names p q key = same_pairs (known_at v l p key) (known_at v l q key)

  untouched : (between position : H) (key : Key) → IsKnown v l (between ++ position) → is_defined (between ++ position) key ≡ true
      → same_names position (between ++ position) key ≡ true → is_untouched between key ≡ true
  untouched between position key known defined s =
      sym (count-untouched between position key)
      ∙ by (stored (replay v l (between ++ position)) key) (held-same v l (between ++ position) known key ∙ defined)
      (ap (λ ps. counter_in ps) (same_pairs-same (known_at v l position key) (known_at v l (between ++ position) key) s))
      (Each-at (λ q. IsEarlier v l (last_of v l (between ++ position)) (between ++ position) key (stored (replay v l (between ++ position)) key) (known_at v l q key) (count_of q key))
      between position (known.earlier key)).grown
    where
      none_more : (b : Bool) (c d : ℕ) → c ≡ d → c + cond b 0 1 ≤ d → b ≡ true
      none_more true c d e h = refl
      none_more false c d e h = absurd (omega (arith, e, h))

      by : (o : Option (Stored Content)) → is_some o ≡ true → counter_in (known_at v l position key) ≡ counter_in (clock_in o).known
          → HasGrown (known_at v l position key) (count_of position key) (count_of (between ++ position) key) o
          → nat_eq (count_of position key) (count_of (between ++ position) key) ≡ true
      by None h e g = cc
      by (Some s) h e g = none_more (nat_eq (count_of position key) (count_of (between ++ position) key)) (counter_in (known_at v l position key) (actor_of s)) (counter_in s.clock.known (actor_of s)) (ap (λ f. f (actor_of s)) e) g

  named_same : (between position : H) (key : Key) → is_untouched between key ≡ true → same_names position (between ++ position) key ≡ true
  named_same between position key h =
      ap (λ o. same_pairs (known_at v l position key) (clock_in o).known) (stored-between between position key h) ∙ same_pairs-refl (known_at v l position key)

  pub naming-law : (history : H) → HasReplay v l history → IsNamingOf (naming v l) history
  naming-law history replays = record {
    equivalence = same-equivalence;
    names = λ later between position key e here there.
        let Replays : H → Type 0 = λ h. HasReplay v l h in (
          untouched between position key (known v l (between ++ position) (replay-earlier later (between ++ position) (subst Replays (sym e) replays))) there,
          named_same between position key,
        );
  }

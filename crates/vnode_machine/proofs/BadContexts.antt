-- A context that the machine refuses names no position of the key.
use Rattle.std.proofs.Common.{◌≡◌, ℕ, ◌+◌, ◌≤◌, Bool, true, false, not, ◌&&◌, ◌||◌, cond, List, [], ◌∷◌, refl, sym, ◌∙◌, ap, arith, subst}
use Rattle.std.specs.Prelude.{nat_eq, nat_lt, max, Option, Some, None, IsTrue, ◌==◌}
use Rattle.std.specs.List.{list_any}
use Rattle.std.proofs.lemmas.Bool.Decides.{nat_tests}
use Rattle.riak_msgs.specs.declared.Key.{Key}
use Rattle.riak_msgs.specs.Contents.{Content}
use Rattle.sibling_register.specs.History.{count_of}
use Rattle.sibling_register.specs.Naming.{named}
use Rattle.sibling_register.specs.Answers.{NamesNone}
use Rattle.actor_epoch.specs.declared.Actor.{Actor}
use Rattle.actor_epoch.specs.declared.Dot.{Dot}
use Rattle.actor_epoch.specs.Dots.{actor_eq, counter_in}
use Rattle.actor_epoch.specs.Contexts.{is_well_formed}
use Rattle.actor_epoch.specs.Given.{Context, Malformed, Pairs}
use Rattle.vnode_machine.specs.Machine.{Stored, State, stored, names_unissued_dot, is_bad_context}
use Rattle.vnode_machine.specs.Replay.{replay, naming, HasReplay, IsWithinLimits}
use Rattle.vnode_machine.proofs.Invariants.{H, HasGrown, IsEarlier, actor_of}
use Rattle.vnode_machine.proofs.Bases.{IsOwned}
use Rattle.vnode_machine.proofs.Sights.{ahead_of, ahead-owned, owned-kept, same_pairs-same, Each, known_at, named-position}
use Rattle.vnode_machine.proofs.Steps.{last_of, known}
use Rattle.vnode_machine.proofs.Formed.{known-of-form}
use Rattle.vnode_machine.proofs.Counters.{is_low, are_low}
use Rattle.vnode_machine.proofs.Tests.{and_left, and_right}

-- a list none of whose elements passes one test or the other
none_of : (early later : Dot → Bool) (pairs : List Dot) → list_any early pairs ≡ false → list_any later pairs ≡ false → list_any (λ pair. early pair || later pair) pairs ≡ false
none_of early later [] h k = refl
none_of early later (pair ∷ pairs) h k = by (early pair) (later pair) (list_any early pairs) (list_any later pairs) h k (none_of early later pairs)
  where
    by : (a b c d : Bool) → (a || c) ≡ false → (b || d) ≡ false → (c ≡ false → d ≡ false → list_any (λ p. early p || later p) pairs ≡ false)
        → ((a || b) || list_any (λ p. early p || later p) pairs) ≡ false
    by true b c d h k rest = cc
    by false true c d h k rest = cc
    by false false c d h k rest = rest h k

none_early : (v n last : ℕ) (pairs : List Dot) → n ≡ v → IsTrue (are_low v last pairs) → list_any (λ pair. (pair.actor.vnode == n) && nat_lt last pair.actor.epoch) pairs ≡ false
none_early v n last [] e h = refl
none_early v n last (pair ∷ pairs) e h =
    by ((pair.actor.vnode == n) && nat_lt last pair.actor.epoch) (ap (λ m. not ((pair.actor.vnode == m) && nat_lt last pair.actor.epoch)) e ∙ and_left (is_low v last pair) (are_low v last pairs) h)
    (none_early v n last pairs e (and_right (is_low v last pair) (are_low v last pairs) h))
  where
    by : (b : Bool) → not b ≡ true → list_any (λ p. (p.actor.vnode == n) && nat_lt last p.actor.epoch) pairs ≡ false → (b || list_any (λ p. (p.actor.vnode == n) && nat_lt last p.actor.epoch) pairs) ≡ false
    by true h rest = cc
    by false h rest = rest

none_later : (own : Actor) (top : ℕ) (pairs : List Dot) → counter_in pairs own ≤ top → list_any (λ pair. actor_eq pair.actor own && nat_lt top pair.counter) pairs ≡ false
none_later own top [] h = refl
none_later own top (pair ∷ pairs) h = by (actor_eq pair.actor own) pair.counter h (none_later own top pairs)
  where
    below : (n m t : ℕ) → max n m ≤ t → nat_lt t n ≡ false
    below n m t h = grind (arith, nat_tests)

    rest_below : (n m t : ℕ) → max n m ≤ t → m ≤ t
    rest_below n m t h = omega (arith, h)

    by : (b : Bool) (n : ℕ) → cond b (max n (counter_in pairs own)) (counter_in pairs own) ≤ top
        → (counter_in pairs own ≤ top → list_any (λ p. actor_eq p.actor own && nat_lt top p.counter) pairs ≡ false)
        → ((b && nat_lt top n) || list_any (λ p. actor_eq p.actor own && nat_lt top p.counter) pairs) ≡ false
    by true n h rest = rw (below n (counter_in pairs own) top h) (rest (rest_below n (counter_in pairs own) top h))
    by false n h rest = rest h

none_ahead : (known : List Dot) (count now : ℕ) (o : Option (Stored Content)) → IsOwned o → HasGrown known count now o → list_any (ahead_of o) known ≡ false
none_ahead known count now None owned h = none_at_all known
  where
    none_at_all : (pairs : List Dot) → list_any (ahead_of None) pairs ≡ false
    none_at_all [] = refl
    none_at_all (pair ∷ pairs) = none_at_all pairs
none_ahead known count now (Some s) owned h = any_same (ahead_of (Some s)) (λ pair. actor_eq pair.actor (actor_of s) && nat_lt (counter_in s.clock.known (actor_of s)) pair.counter) (ahead-owned s owned) known ∙ none_later (actor_of s) (counter_in s.clock.known (actor_of s)) known (less (counter_in known (actor_of s)) (cond (nat_eq count now) 0 1) (counter_in s.clock.known (actor_of s)) h)
  where
    any_same : (p q : Dot → Bool) → ((d : Dot) → p d ≡ q d) → (ds : List Dot) → list_any p ds ≡ list_any q ds
    any_same p q f [] = refl
    any_same p q f (d ∷ ds) = λ i. f d i || any_same p q f ds i

    less : (a b t : ℕ) → a + b ≤ t → a ≤ t
    less a b t h = omega (arith, h)

Each-replay : (v l : ℕ) (history : H) → HasReplay v l history → Each (λ q. HasReplay v l q) history
Each-replay v l [] h = h
Each-replay v l (event ∷ before) h = (h, Each-replay v l before h.0)

module _ (v l : ℕ) (limits : IsWithinLimits v l) (history : H) (replays : HasReplay v l history) (key : Key) where
  abbrev state : State Content
  state = replay v l history

  -- the context of a position is not bad
  good : (q : H) → HasReplay v l q → is_well_formed (known_at v l q key) ≡ true
      → IsEarlier v l (last_of v l history) history key (stored state key) (known_at v l q key) (count_of q key)
      → is_bad_context state key (Some (Pairs (known_at v l q key))) ≡ false
  good q q_replays form earlier =
      let k = known v l history replays in
      let ahead : list_any (names_unissued_dot state key) (known_at v l q key) ≡ false =
      none_of (λ pair. (pair.actor.vnode == state.vnode) && nat_lt state.last_epoch pair.actor.epoch) (ahead_of (stored state key)) (known_at v l q key)
      (none_early v state.vnode state.last_epoch (known_at v l q key) k.vnode earlier.low)
      (none_ahead (known_at v l q key) (count_of q key) (count_of history key) (stored state key) (owned-kept v l (last_of v l history) history key (stored state key) (k.keys key)) earlier.grown) in
      λ i. not (form i) || ahead i

  abbrev IsPosition : H → Type 0
  IsPosition q = IsEarlier v l (last_of v l history) history key (stored state key) (known_at v l q key) (count_of q key)

  good_named : (pairs : List Dot) (q : H) → named (naming v l) history key (Pairs pairs) ≡ Some q → is_bad_context state key (Some (Pairs pairs)) ≡ false
  good_named pairs q e =
      let found = named-position v l IsPosition history key (Pairs pairs) ((known v l history replays).earlier key) q e in
      let q_replays = (named-position v l (λ p. HasReplay v l p) history key (Pairs pairs) (Each-replay v l history replays) q e).0 in
      subst (λ ps. is_bad_context state key (Some (Pairs ps)) ≡ false) (sym (same_pairs-same pairs (known_at v l q key) found.2))
      (good q q_replays (known-of-form v l limits q q_replays key found.1) found.0)

  -- so a bad context names none
  pub bad-names-none : (given : Option Context) → is_bad_context state key given ≡ true → NamesNone (naming v l) history key given
  bad-names-none None h = cc
  bad-names-none (Some Malformed) h = by (named (naming v l) history key Malformed) refl
    where
      by : (q : Option H) → named (naming v l) history key Malformed ≡ q → named (naming v l) history key Malformed ≡ None
      by None e = e
      by (Some q) e = let found = named-position v l (λ p. HasReplay v l p) history key Malformed (Each-replay v l history replays) q e in let no : false ≡ true = found.2 in cc
  bad-names-none (Some (Pairs pairs)) h = by (named (naming v l) history key (Pairs pairs)) refl
    where
      by : (q : Option H) → named (naming v l) history key (Pairs pairs) ≡ q → named (naming v l) history key (Pairs pairs) ≡ None
      by None e = e
      by (Some q) e = let no : true ≡ false = sym h ∙ good_named pairs q e in cc

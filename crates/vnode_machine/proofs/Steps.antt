-- Every list that has a replay keeps the machine tied to the register, event by event.
use Rattle.std.proofs.Common.{◌≡◌, ℕ, ◌+◌, ◌≤◌, Bool, true, false, not, ◌&&◌, cond, List, [], ◌∷◌, length, refl, sym, ◌∙◌, ap, arith, subst}
use Rattle.std.specs.Prelude.{Option, Some, None, IsTrue, is_some, ◌==◌}
use Rattle.std.specs.List.{list_any}
use Rattle.riak_msgs.specs.declared.Key.{Key}
use Rattle.riak_msgs.specs.Contents.{Content}
use Rattle.riak_msgs.specs.KeyOrder.{key_eq}
use Rattle.sibling_register.specs.History.{Event, Operation, Write, Tombstone, Reap, is_update, written, events_of, count_of, numbers_to}
use Rattle.sibling_register.specs.Siblings.{siblings, is_defined}
use Rattle.actor_epoch.specs.declared.Actor.{Actor}
use Rattle.actor_epoch.specs.declared.Dot.{Dot}
use Rattle.actor_epoch.specs.Contexts.{is_well_formed}
use Rattle.actor_epoch.specs.Given.{Context, Malformed, Pairs}
use Rattle.vnode_machine.specs.Machine.{Stored, State, stored, next_actor, holds_dead, is_bad_context, names_unissued_dot, apply_operation}
use Rattle.vnode_machine.specs.Lives.{lives_begun, is_alive}
use Rattle.vnode_machine.specs.Replay.{replay, seen_by, AcceptsEvent, HasReplay}
use Rattle.vnode_machine.proofs.Keys.{find_stored, find_reaped, key_eq-same, key_eq-refl}
use Rattle.vnode_machine.proofs.Pairwise.{Pairwise}
use Rattle.vnode_machine.proofs.Invariants.{H, clock_in, IsKept, IsEarlier, earlier-self}
use Rattle.vnode_machine.proofs.Bases.{own_in, last_in, IsBehind, behind_none, behind_own, last-owned, base, not-alive}
use Rattle.vnode_machine.proofs.Updates.{IsSeen, next_in, updated-stored, updated-earlier}
use Rattle.vnode_machine.proofs.Others.{stored-other, earlier-other, reaped-siblings, reaped-earlier}
use Rattle.vnode_machine.proofs.Sights.{low-ahead, owned-kept, behind-of, Each, Each-map, known_at, live-each, seen-context, seen-all}
use Rattle.vnode_machine.proofs.Counters.{are_low}
use Rattle.vnode_machine.proofs.Tests.{or_right}

pub not_first : (b : Bool) (n : ℕ) (rest : Option ℕ) → cond b (Some n) rest ≡ None → b ≡ false
not_first true n rest h = cc
not_first false n rest h = refl

module _ (v l : ℕ) where
  abbrev pub last_of : H → ℕ
  last_of history = (replay v l history).last_epoch

  -- what holds at the end of a list that has a replay
  pub record IsKnown (history : H) : Type 0 where
    pub vnode : (replay v l history).vnode ≡ v
    pub epochs : last_of history ≡ l + lives_begun history
    pub keys : (key : Key) → IsKept v l (last_of history) history key (stored (replay v l history) key)
    pub earlier : (key : Key) → Each (λ q. IsEarlier v l (last_of history) history key (stored (replay v l history) key) (known_at v l q key) (count_of q key)) history

  -- what an event changes
  pub record IsStep (event : Event Content Context) (history : H) (last' : ℕ) (o : Option (Stored Content)) : Type 0 where
    pub vnode : (replay v l (event ∷ history)).vnode ≡ (replay v l history).vnode
    pub last_is : last_of (event ∷ history) ≡ last'
    pub le : last_of history ≤ last'
    pub epochs : last' ≡ l + lives_begun (event ∷ history)
    pub found : (key : Key) → stored (replay v l (event ∷ history)) key ≡ cond (key_eq event.key key) o (stored (replay v l history) key)
    pub own : IsKept v l last' (event ∷ history) event.key o
    pub earlier : (known : List Dot) (count : ℕ) → IsEarlier v l (last_of history) history event.key (stored (replay v l history) event.key) known count
        → IsEarlier v l last' (event ∷ history) event.key o known count

  module _ (event : Event Content Context) (history : H) (last' : ℕ) (o : Option (Stored Content)) (known : IsKnown history) (step : IsStep event history last' o) where
    keys_after : (key : Key) → IsKept v l (last_of (event ∷ history)) (event ∷ history) key (stored (replay v l (event ∷ history)) key)
    keys_after key =
        subst (λ n. IsKept v l n (event ∷ history) key (stored (replay v l (event ∷ history)) key)) (sym step.last_is)
        (subst (IsKept v l last' (event ∷ history) key) (sym (step.found key)) (by (key_eq event.key key) refl))
      where
        by : (b : Bool) → key_eq event.key key ≡ b → IsKept v l last' (event ∷ history) key (cond b o (stored (replay v l history) key))
        by true e = subst (λ k. IsKept v l last' (event ∷ history) k o) (key_eq-same event.key key e) step.own
        by false e = stored-other v l (last_of history) last' step.le event history key e (stored (replay v l history) key) (known.keys key)

    earlier_after : (key : Key) (old : List Dot) (count : ℕ)
        → IsEarlier v l (last_of history) history key (stored (replay v l history) key) old count
        → IsEarlier v l (last_of (event ∷ history)) (event ∷ history) key (stored (replay v l (event ∷ history)) key) old count
    earlier_after key old count h =
        subst (λ n. IsEarlier v l n (event ∷ history) key (stored (replay v l (event ∷ history)) key) old count) (sym step.last_is)
        (subst (λ p. IsEarlier v l last' (event ∷ history) key p old count) (sym (step.found key)) (by (key_eq event.key key) refl))
      where
        by : (b : Bool) → key_eq event.key key ≡ b → IsEarlier v l last' (event ∷ history) key (cond b o (stored (replay v l history) key)) old count
        by true e =
            subst (λ k. IsEarlier v l last' (event ∷ history) k o old count) (key_eq-same event.key key e)
            (step.earlier old count (subst (λ k. IsEarlier v l (last_of history) history k (stored (replay v l history) k) old count) (sym (key_eq-same event.key key e)) h))
        by false e = earlier-other v l (last_of history) last' step.le event history key e (stored (replay v l history) key) old count h

    pub known-step : IsKnown (event ∷ history)
    known-step = record {
      vnode = step.vnode ∙ known.vnode;
      epochs = step.last_is ∙ step.epochs;
      keys = keys_after;
      earlier = λ key. (
        earlier-self v l (last_of (event ∷ history)) (event ∷ history) key (stored (replay v l (event ∷ history)) key) (keys_after key),
        Each-map (λ q. IsEarlier v l (last_of history) history key (stored (replay v l history) key) (known_at v l q key) (count_of q key))
            (λ q. IsEarlier v l (last_of (event ∷ history)) (event ∷ history) key (stored (replay v l (event ∷ history)) key) (known_at v l q key) (count_of q key))
            (λ q h. earlier_after key (known_at v l q key) (count_of q key) h) history (known.earlier key),
      );
    }

  module _ (history : H) (known : IsKnown history) (at : Key) where
    abbrev state : State Content
    state = replay v l history

    abbrev before : Option (Stored Content)
    before = stored state at

    -- a key that is stored is in a life
    pub alive : (o : Option (Stored Content)) → IsKept v l state.last_epoch history at o → is_alive history at ≡ is_some o
    alive None h = not-alive (events_of history at) h
    alive (Some s) h = h.alive

    -- and it is defined
    pub held_by : (o : Option (Stored Content)) → IsKept v l state.last_epoch history at o → is_defined history at ≡ is_some o
    held_by None h = ap (λ (ns : List ℕ). not (length ns == 0)) h
    held_by (Some s) h = h.defined

    epochs_by : (o : Option (Stored Content)) → IsKept v l state.last_epoch history at o
        → last_in state.last_epoch o ≡ l + cond (is_alive history at) (lives_begun history) (lives_begun history + 1)
    epochs_by None h = rw (alive None h) (grow (lives_begun history) known.epochs)
      where
        grow : (b : ℕ) → state.last_epoch ≡ l + b → state.last_epoch + 1 ≡ l + (b + 1)
        grow b h = omega (arith, h)
    epochs_by (Some s) h = last-owned state.last_epoch s h.owned ∙ rw (alive (Some s) h) known.epochs

    begun : (alive update : Bool) → update ≡ true
        → cond alive (lives_begun history) (lives_begun history + 1) ≡ cond (update && not alive) (lives_begun history + 1) (lives_begun history)
    begun true true h = refl
    begun false true h = refl
    begun alive false h = cc

    abbrev own : Actor
    own = own_in (next_actor state) before

    -- a write or tombstone that discards these pairs
    update_step : (operation : Operation Content) (given : Option Context) (saw : List ℕ) (pairs : List Dot)
        → let event : Event Content Context = record { key = at; operation = operation; context = given; saw = saw } in
        is_update operation ≡ true
        → (replay v l (event ∷ history)).vnode ≡ state.vnode → last_of (event ∷ history) ≡ last_in state.last_epoch before
        → ((key : Key) → stored (replay v l (event ∷ history)) key ≡ cond (key_eq at key) (Some (next_in own pairs (written operation) before)) (stored state key))
        → IsTrue (are_low v state.last_epoch pairs) → IsBehind pairs before → Pairwise (IsSeen pairs saw) (clock_in before).live (siblings history at)
        → IsStep event history (last_in state.last_epoch before) (Some (next_in own pairs (written operation) before))
    update_step operation given saw pairs update vnode last found low behind seen =
        let event : Event Content Context = record { key = at; operation = operation; context = given; saw = saw } in
        let b = base v l event history at (key_eq-refl at) update state.vnode state.last_epoch known.vnode known.epochs pairs low before (known.keys at) behind in
        record {
          vnode = vnode;
          last_is = last;
          le = b.le;
          epochs = epochs_by before (known.keys at) ∙ ap (λ n. l + n) (begun (is_alive history at) (is_update operation) update);
          found = found;
          own = updated-stored v l state.last_epoch (last_in state.last_epoch before) event history at (key_eq-refl at) update before own pairs b seen;
          earlier = updated-earlier v l state.last_epoch (last_in state.last_epoch before) event history at (key_eq-refl at) update before own pairs b seen;
        }

    write_step : (content : Content) (given : Option Context) (saw : List ℕ) (pairs : List Dot)
        → ((key : Key) → stored (apply_operation state at given (Write content)) key ≡ cond (key_eq at key) (Some (next_in own pairs (Some content) before)) (stored state key))
        → IsTrue (are_low v state.last_epoch pairs) → IsBehind pairs before → Pairwise (IsSeen pairs saw) (clock_in before).live (siblings history at)
        → IsKnown ((let event : Event Content Context = record { key = at; operation = Write content; context = given; saw = saw } in event) ∷ history)
    write_step content given saw pairs found low behind seen =
        let event : Event Content Context = record { key = at; operation = Write content; context = given; saw = saw } in
        known-step event history (last_in state.last_epoch before) (Some (next_in own pairs (Some content) before)) known
        (update_step (Write content) given saw pairs refl refl refl found low behind seen)

    tombstone_step : (given : Option Context) (saw : List ℕ) (pairs : List Dot)
        → ((key : Key) → stored (apply_operation state at given Tombstone) key ≡ cond (key_eq at key) (Some (next_in own pairs None before)) (stored state key))
        → IsTrue (are_low v state.last_epoch pairs) → IsBehind pairs before → Pairwise (IsSeen pairs saw) (clock_in before).live (siblings history at)
        → IsKnown ((let event : Event Content Context = record { key = at; operation = Tombstone; context = given; saw = saw } in event) ∷ history)
    tombstone_step given saw pairs found low behind seen =
        let event : Event Content Context = record { key = at; operation = Tombstone; context = given; saw = saw } in
        known-step event history (last_in state.last_epoch before) (Some (next_in own pairs None before)) known
        (update_step Tombstone given saw pairs refl refl refl found low behind seen)

    low_own : (o : Option (Stored Content)) → IsKept v l state.last_epoch history at o → IsTrue (are_low v state.last_epoch (clock_in o).known)
    low_own None h = refl
    low_own (Some s) h = h.low

    good : (pairs : List Dot) (rest : Option ℕ) → cond (is_bad_context state at (Some (Pairs pairs))) (Some 4) rest ≡ None → list_any (names_unissued_dot state at) pairs ≡ false
    good pairs rest h = or_right (not (is_well_formed pairs)) (list_any (names_unissued_dot state at) pairs) (not_first (is_bad_context state at (Some (Pairs pairs))) 4 rest h)

    reap_step : (saw : List ℕ) → IsTrue (holds_dead state at) → saw ≡ numbers_to (count_of history at)
        → IsStep (record { key = at; operation = Reap; context = None; saw = saw }) history state.last_epoch None
    reap_step saw dead all =
        let event : Event Content Context = record { key = at; operation = Reap; context = None; saw = saw } in
        record {
          vnode = refl;
          last_is = refl;
          le = omega arith;
          epochs = known.epochs;
          found = λ key. find_reaped at key state.keys;
          own = reaped-siblings v l state.last_epoch event history at (key_eq-refl at) refl all before (known.keys at);
          earlier = λ old count h. reaped-earlier v l state.last_epoch event history at (key_eq-refl at) refl all before old count (known.keys at) h;
        }

    -- an accepted event
    pub accepted-step : (operation : Operation Content) (given : Option Context) (saw : List ℕ) → AcceptsEvent state at given operation → saw ≡ seen_by v l history at given operation
        → IsKnown ((let event : Event Content Context = record { key = at; operation = operation; context = given; saw = saw } in event) ∷ history)
    accepted-step (Write content) None saw accepts e =
        write_step content None saw [] (λ key. find_stored key at _ state.keys) refl (behind_none before)
        (subst (λ ns. Pairwise (IsSeen [] ns) (clock_in before).live (siblings history at)) (sym e)
        (live-each v l state.last_epoch history at (IsSeen [] []) before (known.keys at) (λ own top entry number one. refl)))
    accepted-step (Write content) (Some Malformed) saw accepts e = cc
    accepted-step (Write content) (Some (Pairs pairs)) saw accepts e =
        write_step content (Some (Pairs pairs)) saw pairs (λ key. find_stored key at _ state.keys)
        (low-ahead v state at pairs known.vnode (good pairs _ accepts)) (behind-of state at pairs (owned-kept v l state.last_epoch history at before (known.keys at)) (good pairs _ accepts))
        (subst (λ ns. Pairwise (IsSeen pairs ns) (clock_in before).live (siblings history at)) (sym e)
        (seen-context v l state.last_epoch history at before (known.keys at) pairs (known.earlier at)))
    accepted-step Tombstone None saw accepts e =
        tombstone_step None saw (clock_in before).known (λ key. find_stored key at _ state.keys)
        (low_own before (known.keys at)) (behind_own before)
        (subst (λ ns. Pairwise (IsSeen (clock_in before).known ns) (clock_in before).live (siblings history at)) (sym e)
        (seen-all v l state.last_epoch history at before (known.keys at)))
    accepted-step Tombstone (Some Malformed) saw accepts e = cc
    accepted-step Tombstone (Some (Pairs pairs)) saw accepts e =
        tombstone_step (Some (Pairs pairs)) saw pairs (λ key. find_stored key at _ state.keys)
        (low-ahead v state at pairs known.vnode (good pairs _ accepts)) (behind-of state at pairs (owned-kept v l state.last_epoch history at before (known.keys at)) (good pairs _ accepts))
        (subst (λ ns. Pairwise (IsSeen pairs ns) (clock_in before).live (siblings history at)) (sym e)
        (seen-context v l state.last_epoch history at before (known.keys at) pairs (known.earlier at)))
    accepted-step Reap None saw accepts e =
        known-step (record { key = at; operation = Reap; context = None; saw = saw }) history state.last_epoch None known (reap_step saw accepts e)
    accepted-step Reap (Some context) saw accepts e = absurd accepts

  known-opening : IsKnown []
  known-opening = record {
    vnode = refl;
    epochs = refl_zero l;
    keys = λ key. refl;
    earlier = λ key. earlier-self v l l [] key None refl;
  }
    where
      refl_zero : (n : ℕ) → n ≡ n + 0
      refl_zero n = omega arith

  pub known : (history : H) → HasReplay v l history → IsKnown history
  known [] replays = known-opening
  known (event ∷ before) replays = accepted-step before (known before replays.0) event.key event.operation event.context event.saw replays.1 replays.2

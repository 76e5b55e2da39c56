-- The machine issues no dot twice.
use Rattle.std.proofs.Common.{◌≡◌, ℕ, suc, ◌+◌, ◌≤◌, Bool, true, false, not, ◌&&◌, ◌||◌, cond, List, [], ◌∷◌, refl, sym, ◌∙◌, ap, arith, subst, add-one}
use Rattle.std.specs.Prelude.{option_and_then, nat_le, nat_eq, ◌==◌, Option, Some, None, IsTrue, is_some, unwrap_or}
use Rattle.std.specs.Option.{option_map_or}
use Rattle.std.specs.List.{list_any, list_all}
use Rattle.std.specs.FinMap.Entries.{find}
use Rattle.std.proofs.lemmas.Bool.Decides.{nat_tests}
use Rattle.riak_msgs.specs.declared.Key.{Key}
use Rattle.riak_msgs.specs.Contents.{Content}
use Rattle.riak_msgs.specs.KeyOrder.{key_cmp, key_eq}
use Rattle.sibling_register.specs.History.{Event, Operation, Write, Tombstone, Reap}
use Rattle.actor_epoch.specs.declared.Actor.{Actor}
use Rattle.actor_epoch.specs.declared.Dot.{Dot}
use Rattle.actor_epoch.specs.Dots.{actor_eq, dot_eq, counter_in, insert_max, union, next_dot}
use Rattle.dvv_set.specs.Clocks.{discard, event}
use Rattle.actor_epoch.specs.Given.{Context}
use Rattle.vnode_machine.specs.Machine.{Stored, State, opening, stored, clock_of, actor_for, next_actor, epoch_after, pairs_of, del_pairs, updated, apply_operation, state_after, known_by, issued_at, issued}
use Rattle.vnode_machine.specs.Laws.{AreDifferent, NoDotTwice}
use Rattle.vnode_machine.proofs.Invariants.{actor_of}
use Rattle.vnode_machine.proofs.Bases.{own_in, own-owned, last-owned}
use Rattle.vnode_machine.proofs.Keys.{find_stored, find_reaped, key_eq-same}
use Rattle.actor_epoch.proofs.Pairs.{counter_in-insert_max, counter_in-union}
use Rattle.vnode_machine.proofs.Counters.{actor_eq-refl}
use Rattle.vnode_machine.proofs.Tests.{and_both, and_left, and_right}
use Rattle.dvv_set.proofs.ClockEntries.{actor_eq-back as actor_eq-sym}

-- no dot of this actor is past this counter
abbrev pub is_below : Actor → ℕ → List Dot → Bool
is_below own n ds = list_all (λ d. not (actor_eq d.actor own) || nat_le d.counter n) ds

abbrev pub is_low : ℕ → List Dot → Bool
is_low last ds = list_all (λ d. nat_le d.actor.epoch last) ds

-- what holds of what is stored, of the last epoch and of the dots so far
pub record IsSound (look : Key → Option (Stored Content)) (last : ℕ) (ds : List Dot) : Type 0 where
  low : IsTrue (is_low last ds)
  owned : (key : Key) (s : Stored Content) → look key ≡ Some s → s.own ≡ Some (actor_of s)
  own : (key : Key) (s : Stored Content) → look key ≡ Some s → (actor_of s).epoch ≤ last
  top : (key : Key) (s : Stored Content) → look key ≡ Some s → IsTrue (is_below (actor_of s) (counter_in s.clock.known (actor_of s)) ds)
  apart : (k j : Key) (s t : Stored Content) → look k ≡ Some s → look j ≡ Some t → key_eq k j ≡ false → actor_eq (actor_of s) (actor_of t) ≡ false
  different : AreDifferent ds

epochs_differ : (d own : Actor) (last : ℕ) → nat_le d.epoch last ≡ true → own.epoch ≡ suc last → actor_eq d own ≡ false
epochs_differ d own last h e = let differ : nat_eq d.epoch own.epoch ≡ false = grind (arith, nat_tests) in rw differ (and_false (nat_eq d.vnode own.vnode))
  where
    and_false : (b : Bool) → (b && false) ≡ false
    and_false true = refl
    and_false false = refl

-- a new actor has no dot yet
below_new : (own : Actor) (last n : ℕ) (ds : List Dot) → IsTrue (is_low last ds) → own.epoch ≡ suc last → IsTrue (is_below own n ds)
below_new own last n [] h e = refl
below_new own last n (d ∷ ds) h e =
    and_both (not (actor_eq d.actor own) || nat_le d.counter n) (is_below own n ds)
    (let differ : actor_eq d.actor own ≡ false = epochs_differ d.actor own last (and_left (nat_le d.actor.epoch last) (is_low last ds) h) e in rw differ refl)
    (below_new own last n ds (and_right (nat_le d.actor.epoch last) (is_low last ds) h) e)

or_more : (a : Bool) (c n m : ℕ) → n ≤ m → (a || nat_le c n) ≡ true → (a || nat_le c m) ≡ true
or_more true c n m l h = refl
or_more false c n m l h = grind (arith, nat_tests)

below_more : (own : Actor) (n m : ℕ) (ds : List Dot) → n ≤ m → IsTrue (is_below own n ds) → IsTrue (is_below own m ds)
below_more own n m [] l h = refl
below_more own n m (d ∷ ds) l h =
    and_both (not (actor_eq d.actor own) || nat_le d.counter m) (is_below own m ds)
    (or_more (not (actor_eq d.actor own)) d.counter n m l (and_left (not (actor_eq d.actor own) || nat_le d.counter n) (is_below own n ds) h))
    (below_more own n m ds l (and_right (not (actor_eq d.actor own) || nat_le d.counter n) (is_below own n ds) h))

low_more : (n m : ℕ) (ds : List Dot) → n ≤ m → IsTrue (is_low n ds) → IsTrue (is_low m ds)
low_more n m [] l h = refl
low_more n m (d ∷ ds) l h =
    and_both (nat_le d.actor.epoch m) (is_low m ds)
    (let one : nat_le d.actor.epoch n ≡ true = and_left (nat_le d.actor.epoch n) (is_low n ds) h in more d.actor.epoch one)
    (low_more n m ds l (and_right (nat_le d.actor.epoch n) (is_low n ds) h))
  where
    more : (e : ℕ) → nat_le e n ≡ true → nat_le e m ≡ true
    more e h = grind (arith, nat_tests)

-- so the next counter is new
next_new : (own : Actor) (n : ℕ) (ds : List Dot) → IsTrue (is_below own n ds)
    → IsTrue (not (list_any (λ other. dot_eq other (record { actor = own; counter = suc n })) ds))
next_new own n [] h = refl
next_new own n (d ∷ ds) h =
    both (dot_eq d (record { actor = own; counter = suc n })) _
    (by (actor_eq d.actor own) (and_left (not (actor_eq d.actor own) || nat_le d.counter n) (is_below own n ds) h))
    (next_new own n ds (and_right (not (actor_eq d.actor own) || nat_le d.counter n) (is_below own n ds) h))
  where
    both : (a b : Bool) → a ≡ false → not b ≡ true → not (a || b) ≡ true
    both a b p q = rw p q

    by : (a : Bool) → (not a || nat_le d.counter n) ≡ true → (a && (d.counter == suc n)) ≡ false
    by true h = grind (arith, nat_tests)
    by false h = refl

-- a write or tombstone more, at an actor and counter that fit
put_sound : (look look' : Key → Option (Stored Content)) (last last' : ℕ) (ds : List Dot) (at : Key) (next : Stored Content) (c : ℕ)
    → IsSound look last ds → ((k : Key) → look' k ≡ cond (key_eq at k) (Some next) (look k))
    → next.own ≡ Some (actor_of next) → last ≤ last' → (actor_of next).epoch ≤ last' → IsTrue (is_below (actor_of next) c ds) → suc c ≤ counter_in next.clock.known (actor_of next)
    → ((k : Key) (s : Stored Content) → look k ≡ Some s → key_eq at k ≡ false → actor_eq (actor_of next) (actor_of s) ≡ false)
    → IsSound look' last' ((let dot : Dot = record { actor = (actor_of next); counter = suc c } in dot) ∷ ds)
put_sound look look' last last' ds at next c sound found owned le epoch below counter others = record {
  owned = λ k s e. owned_by k s (key_eq at k) (sym (found k) ∙ e);
  low = and_both (nat_le (actor_of next).epoch last') (is_low last' ds) (test (actor_of next).epoch last' epoch) (low_more last last' ds le sound.low);
  own = λ k s e. own_by k s (key_eq at k) (sym (found k) ∙ e);
  top = λ k s e. top_by k s (key_eq at k) refl (sym (found k) ∙ e);
  apart = λ k j s t e f d. apart_by k j s t (key_eq at k) (key_eq at j) refl refl (sym (found k) ∙ e) (sym (found j) ∙ f) d;
  different = (next_new (actor_of next) c ds below, sound.different);
}
  where
    test : (a b : ℕ) → a ≤ b → nat_le a b ≡ true
    test a b h = grind (arith, nat_tests)

    same : (s t : Stored Content) → Some s ≡ Some t → s ≡ t
    same s t e = cc

    owned_by : (k : Key) (s : Stored Content) (b : Bool) → cond b (Some next) (look k) ≡ Some s → s.own ≡ Some (actor_of s)
    owned_by k s true e = let P : Stored Content → Type 0 = λ t. t.own ≡ Some (actor_of t) in subst P (same next s e) owned
    owned_by k s false e = sound.owned k s e

    own_by : (k : Key) (s : Stored Content) (b : Bool) → cond b (Some next) (look k) ≡ Some s → (actor_of s).epoch ≤ last'
    own_by k s true e = let P : Stored Content → Type 0 = λ t. (actor_of t).epoch ≤ last' in subst P (same next s e) epoch
    own_by k s false e = let o : (actor_of s).epoch ≤ last = sound.own k s e in omega (arith, le)

    right : (a b : Bool) → b ≡ true → (a || b) ≡ true
    right true b h = refl
    right false b h = h

    apart_head : (b x : Bool) → b ≡ false → (not b || x) ≡ true
    apart_head b x h = rw h refl

    top_by : (k : Key) (s : Stored Content) (b : Bool) → key_eq at k ≡ b → cond b (Some next) (look k) ≡ Some s
        → IsTrue (is_below (actor_of s) (counter_in s.clock.known (actor_of s)) ((let dot : Dot = record { actor = (actor_of next); counter = suc c } in dot) ∷ ds))
    top_by k s true q e =
        let P : Stored Content → Type 0 = λ t. IsTrue (is_below (actor_of t) (counter_in t.clock.known (actor_of t)) ((let dot : Dot = record { actor = (actor_of next); counter = suc c } in dot) ∷ ds)) in
        subst P (same next s e)
        (and_both (not (actor_eq (actor_of next) (actor_of next)) || nat_le (suc c) (counter_in next.clock.known (actor_of next))) (is_below (actor_of next) (counter_in next.clock.known (actor_of next)) ds)
        (right (not (actor_eq (actor_of next) (actor_of next))) (nat_le (suc c) (counter_in next.clock.known (actor_of next))) (test (suc c) (counter_in next.clock.known (actor_of next)) counter))
        (below_more (actor_of next) c (counter_in next.clock.known (actor_of next)) ds (omega (arith, counter)) below))
    top_by k s false q e =
        and_both (not (actor_eq (actor_of next) (actor_of s)) || nat_le (suc c) (counter_in s.clock.known (actor_of s))) (is_below (actor_of s) (counter_in s.clock.known (actor_of s)) ds)
        (apart_head (actor_eq (actor_of next) (actor_of s)) (nat_le (suc c) (counter_in s.clock.known (actor_of s))) (others k s e q))
        (sound.top k s e)

    apart_by : (k j : Key) (s t : Stored Content) (a b : Bool) → key_eq at k ≡ a → key_eq at j ≡ b
        → cond a (Some next) (look k) ≡ Some s → cond b (Some next) (look j) ≡ Some t → key_eq k j ≡ false → actor_eq (actor_of s) (actor_of t) ≡ false
    apart_by k j s t true true p q e f d = let one : key_eq k j ≡ true = ap (λ x. key_eq x j) (sym (key_eq-same at k p)) ∙ q in cc
    apart_by k j s t true false p q e f d = ap (λ (x : Stored Content). actor_eq (actor_of x) (actor_of t)) (sym (same next s e)) ∙ others j t f q
    apart_by k j s t false true p q e f d = ap (λ (x : Stored Content). actor_eq (actor_of s) (actor_of x)) (sym (same next t f)) ∙ actor_eq-sym (actor_of s) (actor_of next) ∙ others k s e p
    apart_by k j s t false false p q e f d = sound.apart k j s t e f d

-- a reap
reap_sound : (look look' : Key → Option (Stored Content)) (last : ℕ) (ds : List Dot) (test : Key → Bool)
    → IsSound look last ds → ((k : Key) → look' k ≡ cond (test k) None (look k)) → IsSound look' last ds
reap_sound look look' last ds test sound found = record {
  low = sound.low;
  owned = λ k s e. sound.owned k s (kept (test k) (look k) s (sym (found k) ∙ e));
  own = λ k s e. sound.own k s (kept (test k) (look k) s (sym (found k) ∙ e));
  top = λ k s e. sound.top k s (kept (test k) (look k) s (sym (found k) ∙ e));
  apart = λ k j s t e f. sound.apart k j s t (kept (test k) (look k) s (sym (found k) ∙ e)) (kept (test j) (look j) t (sym (found j) ∙ f));
  different = sound.different;
}
  where
    kept : (b : Bool) (o : Option (Stored Content)) (s : Stored Content) → cond b None o ≡ Some s → o ≡ Some s
    kept true o s e = cc
    kept false o s e = e

-- the actor, its last counter and the last epoch fit
pub record Fits (look : Key → Option (Stored Content)) (last : ℕ) (ds : List Dot) (at : Key) (own : Actor) (c last' : ℕ) : Type 0 where
  le : last ≤ last'
  epoch : own.epoch ≤ last'
  below : IsTrue (is_below own c ds)
  others : (k : Key) (s : Stored Content) → look k ≡ Some s → key_eq at k ≡ false → actor_eq own (actor_of s) ≡ false

fits : (look : Key → Option (Stored Content)) (last : ℕ) (ds : List Dot) (at : Key) (new : Actor) (pairs : List Dot) → IsSound look last ds → new.epoch ≡ last + 1
    → (o : Option (Stored Content)) → look at ≡ o
    → let own : Actor = unwrap_or (option_and_then (λ (s : Stored Content). s.own) o) new in
    Fits look last ds at own (counter_in (union (option_map_or (λ (s : Stored Content). s.clock) o (record { known = []; live = [] })).known pairs) own) (cond (is_some (option_and_then (λ (s : Stored Content). s.own) o)) last (last + 1))
fits look last ds at new pairs sound e None h =
    let is : new.epoch ≡ suc last = e ∙ add-one last in
    record {
      le = omega arith;
      epoch = omega (arith, e);
      below = below_new new last _ ds sound.low is;
      others = λ k s f q. actor_eq-sym new (actor_of s) ∙ epochs_differ (actor_of s) new last (test (actor_of s).epoch last (sound.own k s f)) is;
    }
  where
    test : (a b : ℕ) → a ≤ b → nat_le a b ≡ true
    test a b h = grind (arith, nat_tests)
fits look last ds at new pairs sound e (Some s0) h =
    let owned = sound.owned at s0 h in
    let known : List Dot = union s0.clock.known pairs in
    subst (λ n. Fits look last ds at (own_in new (Some s0)) (counter_in known (own_in new (Some s0))) n) (sym (last-owned last s0 owned))
    (subst (λ a. Fits look last ds at a (counter_in known a) last) (sym (own-owned new s0 owned)) (record {
      le = omega arith;
      epoch = sound.own at s0 h;
      below = below_more (actor_of s0) (counter_in s0.clock.known (actor_of s0)) _ ds (rw (counter_in-union s0.clock.known pairs (actor_of s0)) (omega arith)) (sound.top at s0 h);
      others = λ k s f q. sound.apart at k s0 s h f q;
    }))

module _ (state : State Content) (ds : List Dot) (at : Key) where
  -- a write or tombstone of the machine
  update_sound : (pairs : List Dot) (value : Option Content) → IsSound (stored state) state.last_epoch ds
      → IsSound (λ key. find key_cmp key (updated state at pairs value)) (epoch_after state at) (next_dot (actor_for state at) (known_by state at pairs) ∷ ds)
  update_sound pairs value sound =
      let own : Actor = actor_for state at in
      let known : List Dot = union (clock_of state at).known pairs in
      let c : ℕ = counter_in known own in
      let next : Stored Content = record { own = Some own; clock = event own value (discard pairs (clock_of state at)) } in
      let f = fits (stored state) state.last_epoch ds at (next_actor state) pairs sound refl (stored state at) refl in
      let P : ℕ → Type 0 = λ n. IsSound (λ key. find key_cmp key (updated state at pairs value)) (epoch_after state at) ((let dot : Dot = record { actor = own; counter = n } in dot) ∷ ds) in
      subst P (sym (add-one c))
      (put_sound (stored state) (λ key. find key_cmp key (updated state at pairs value)) state.last_epoch (epoch_after state at) ds at next c sound
      (λ k. find_stored k at next state.keys) refl f.le f.epoch f.below (top c known own) f.others)
    where
      top : (c : ℕ) (known : List Dot) (own : Actor) → suc c ≤ counter_in (insert_max (record { actor = own; counter = c + 1 }) known) own
      top c known own = rw (counter_in-insert_max (record { actor = own; counter = c + 1 }) known own, actor_eq-refl own) (omega arith)

  -- any event
  step_sound : (given : Option Context) (operation : Operation Content) → IsSound (stored state) state.last_epoch ds
      → IsSound (stored (apply_operation state at given operation)) (apply_operation state at given operation).last_epoch (issued_at state at given operation ds)
  step_sound given (Write content) sound = update_sound (pairs_of given) (Some content) sound
  step_sound given Tombstone sound = update_sound (del_pairs state at given) None sound
  step_sound given Reap sound =
      reap_sound (stored state) (stored (apply_operation state at given Reap)) state.last_epoch ds (λ other. key_eq at other) sound (λ k. find_reaped at k state.keys)

opening_sound : (v f : ℕ) → IsSound (stored (opening v f)) (opening {V = Content} v f).last_epoch []
opening_sound v f = record { low = refl; owned = λ k s e. cc; own = λ k s e. cc; top = λ k s e. cc; apart = λ k j s t e f d. cc; different = tt }

sound_after : (v f : ℕ) (history : List (Event Content Context)) → IsSound (stored (state_after (opening v f) history)) (state_after (opening v f) history).last_epoch (issued (opening v f) history)
sound_after v f [] = opening_sound v f
sound_after v f (event ∷ before) = step_sound (state_after (opening v f) before) (issued (opening v f) before) event.key event.context event.operation (sound_after v f before)

pub no_dot_twice : (v f : ℕ) (history : List (Event Content Context)) → NoDotTwice v f history
no_dot_twice v f history = (sound_after v f history).different

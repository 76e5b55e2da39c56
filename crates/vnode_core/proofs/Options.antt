-- The checks of a put, by what was found of its key.
use Rattle.std.proofs.Common.{◌≡◌, ℕ, Bool, true, false, not, ◌||◌, ◌&&◌, List, [], ◌∷◌, refl, sym, ◌∙◌, ap, subst}
use Rattle.std.specs.Prelude.{Option, Some, None, nat_lt, ◌==◌, is_some, option_map, option_and_then}
use Rattle.std.specs.Option.{option_map_or}
use Rattle.std.specs.List.{list_any}
use Rattle.riak_msgs.specs.declared.Key.{Key}
use Rattle.riak_msgs.specs.Contents.{Content}
use Rattle.riak_msgs.specs.declared.PutAsk.{PutAsk}
use Rattle.sibling_register.specs.Refusals.{bad_context, match_found, modified, not_found, first_of}
use Rattle.actor_epoch.specs.declared.Actor.{Actor}
use Rattle.actor_epoch.specs.declared.Dot.{Dot}
use Rattle.actor_epoch.specs.Dots.{actor_eq, counter_in}
use Rattle.actor_epoch.specs.Given.{Context, Pairs, context_of}
use Rattle.vnode_machine.specs.Asks.{put_command}
use Rattle.vnode_machine.specs.Machine.{State, Stored, stored, is_bad_context, has_value, matches_clock, own_of, clock_of, put_check, pairs_of, room_checks}
use Rattle.vnode_core.specs.declared.refusal.Refusal.{Refusal}
use Rattle.vnode_core.specs.declared.refusal.Refusal.TheVariants.{NoMemory}
use Rattle.vnode_core.specs.Checks.{pairs_in, AreRead, is_ahead, last_dot, has_value_in, is_current_in, options_check}
use Rattle.vnode_machine.specs.Sound.{IsFormed, IsSound}
use Rattle.vnode_core.specs.Refusals.{RefusedBy}
use Rattle.vnode_machine.proofs.Invariants.{clock_in}

pub pairs-given : (seen : Option (List Dot)) → pairs_of (option_map Pairs seen) ≡ pairs_in seen
pairs-given None = refl
pairs-given (Some pairs) = refl

-- what was found is of the form
pub formed-found : (state : State Content) → IsSound state → (key : Key) (o : Option (Stored Content)) → o ≡ stored state key → IsFormed o
formed-found state is key o h = subst IsFormed (sym h) (is.keys key)

-- what one check refuses another does
refused-map : (check other : Option ℕ) → ((n : ℕ) → check ≡ Some n → other ≡ Some n) → (refusal : Refusal) → RefusedBy refusal check → RefusedBy refusal other
refused-map check other f NoMemory h = absurd h
refused-map check other f refusal h = f _ h

first-some : (a b c : Bool) (i j k : ℕ) (rest : List (Bool × ℕ)) (n : ℕ) → first_of ((a, i) ∷ (b, j) ∷ (c, k) ∷ []) ≡ Some n → first_of ((a, i) ∷ (b, j) ∷ (c, k) ∷ rest) ≡ Some n
first-some true b c i j k rest n h = h
first-some false true c i j k rest n h = h
first-some false false true i j k rest n h = h
first-some false false false i j k rest n h = cc

first-none : (a b c : Bool) (i j k : ℕ) (rest : List (Bool × ℕ)) → first_of ((a, i) ∷ (b, j) ∷ (c, k) ∷ []) ≡ None → first_of ((a, i) ∷ (b, j) ∷ (c, k) ∷ rest) ≡ first_of rest
first-none true b c i j k rest h = cc
first-none false true c i j k rest h = cc
first-none false false true i j k rest h = cc
first-none false false false i j k rest h = refl

ahead-same : (vnode last_epoch : ℕ) (own : Option Actor) (known pairs : List Dot)
    → list_any (is_ahead vnode last_epoch (option_map (λ (own : Actor). (let d : Dot = record { actor = own; counter = counter_in known own } in d)) own)) pairs
    ≡ list_any (λ (pair : Dot). ((pair.actor.vnode == vnode) && nat_lt last_epoch pair.actor.epoch)
    || option_map_or (λ own. actor_eq pair.actor own && nat_lt (counter_in known own) pair.counter) own false) pairs
ahead-same vnode last_epoch None known pairs = refl
ahead-same vnode last_epoch (Some own) known pairs = refl

-- the last dot of a key that was found
last-found : (o : Option (Stored Content))
    → last_dot o ≡ option_map (λ (own : Actor). (let d : Dot = record { actor = own; counter = counter_in (clock_in o).known own } in d)) (option_and_then (λ (s : Stored Content). s.own) o)
last-found None = refl
last-found (Some s) = refl

-- a context that was read, and what was found of its key
module _ (state : State Content) (key : Key) (given : Option Context) (seen : Option (List Dot)) (reads : given ≡ option_map Pairs seen) (read : AreRead seen)
    (o : Option (Stored Content)) (found : o ≡ stored state key) where
  abbrev last : Option Dot
  last = last_dot o

  last-is : last ≡ option_map (λ (own : Actor). (let d : Dot = record { actor = own; counter = counter_in (clock_of state key).known own } in d)) (own_of state key)
  last-is = ap last_dot found ∙ last-found (stored state key)

  pub bad-is : is_bad_context state key given ≡ list_any (is_ahead state.vnode state.last_epoch last) (pairs_in seen)
  bad-is = ap (is_bad_context state key) reads ∙ by seen read
    where
      by : (seen : Option (List Dot)) → AreRead seen → is_bad_context state key (option_map Pairs seen) ≡ list_any (is_ahead state.vnode state.last_epoch last) (pairs_in seen)
      by None read = refl
      by (Some pairs) read =
          let runs = sym (ahead-same state.vnode state.last_epoch (own_of state key) (clock_of state key).known pairs)
          ∙ ap (λ l. list_any (is_ahead state.vnode state.last_epoch l) pairs) (sym last-is) in
          λ i. not (read i) || runs i

-- a key that was found, and a context that was read and doesn't run ahead
module _ (state : State Content) (put : PutAsk) (seen : Option (List Dot)) (given : context_of put.context ≡ option_map Pairs seen) (read : AreRead seen)
    (o : Option (Stored Content)) (found : o ≡ stored state put.key)
    (behind : list_any (is_ahead state.vnode state.last_epoch (last_dot o)) (pairs_in seen) ≡ false) where
  not-bad : is_bad_context state put.key (context_of put.context) ≡ false
  not-bad = bad-is state put.key (context_of put.context) seen given read o found ∙ behind

  value-is : has_value_in o ≡ has_value state put.key
  value-is = ap has_value_in found ∙ by (stored state put.key)
    where
      by : (o : Option (Stored Content)) → has_value_in o ≡ list_any (λ entry. is_some entry.1) (option_map_or (λ (s : Stored Content). s.clock) o (record { known = []; live = [] })).live
      by None = refl
      by (Some s) = refl

  current-is : is_current_in o seen ≡ matches_clock state put.key (context_of put.context)
  current-is = ap (λ o. is_current_in o seen) found ∙ by (stored state put.key) refl seen ∙ ap (matches_clock state put.key) (sym given)
    where
      by : (o : Option (Stored Content)) → stored state put.key ≡ o → (seen : Option (List Dot)) → is_current_in o seen ≡ matches_clock state put.key (option_map Pairs seen)
      by None h None = refl
      by (Some s) h None = refl
      by None h (Some pairs) = rw h refl
      by (Some s) h (Some pairs) = rw h refl

  abbrev none_match : Bool
  none_match = put.if_none_match && has_value_in o

  abbrev not_present : Bool
  not_present = (put.if_not_modified && not put.if_none_match) && not (has_value_in o)

  abbrev not_current : Bool
  not_current = (put.if_not_modified && not put.if_none_match) && not (is_current_in o seen)

  abbrev rest : List (Bool × ℕ)
  rest = room_checks state put.key (pairs_of (context_of put.context))

  -- the options, then the room
  check-is : put_check state (put_command put)
      ≡ first_of ((none_match, match_found) ∷ (not_present, not_found) ∷ (not_current, modified) ∷ rest)
  check-is =
      let value = sym value-is in
      let current = sym current-is in
      λ i. first_of (
      (not-bad i, bad_context)
      ∷ (put.if_none_match && value i, match_found) ∷ ((put.if_not_modified && not put.if_none_match) && not (value i), not_found)
      ∷ ((put.if_not_modified && not put.if_none_match) && not (current i), modified) ∷ rest)

  pub options-refuse : (refusal : Refusal) → RefusedBy refusal (options_check put o seen) → RefusedBy refusal (put_check state (put_command put))
  options-refuse refusal h = refused-map (options_check put o seen) (put_check state (put_command put)) (λ n e. check-is ∙ first-some none_match not_present not_current match_found not_found modified rest n e) refusal h

  pub rooms-follow : options_check put o seen ≡ None → put_check state (put_command put) ≡ first_of (room_checks state put.key (pairs_in seen))
  rooms-follow h = check-is ∙ first-none none_match not_present not_current match_found not_found modified rest h ∙ ap (λ ps. first_of (room_checks state put.key ps)) (ap pairs_of given ∙ pairs-given seen)

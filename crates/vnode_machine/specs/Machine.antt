-- The vnode machine: its state, what it refuses, and what a command changes.
use Rattle.std.specs.Prelude.{Bool, true, false, not, ◌&&◌, ◌||◌, ◌==◌, ◌+◌, ◌-◌, ◌^◌, if◌then◌else◌, List, [], ◌∷◌, ◌++◌, ℕ, min, Option, Some, None, is_some, nat_le, nat_lt, unwrap_or, option_and_then}
use Rattle.std.specs.Option.{option_map_or}
use Rattle.std.specs.List.{list_any}
use Rattle.std.specs.Ordering.{eq_by_cmp}
use Rattle.std.specs.Cmp.Lexicographic.{pointwise}
use Rattle.std.specs.FinMap.Entries.{find, put, where_key}
use Rattle.riak_msgs.specs.declared.Key.{Key}
use Rattle.riak_msgs.specs.KeyOrder.{key_cmp}
use Rattle.sibling_register.specs.History.{Event, Operation, Write, Tombstone, Reap}
use Rattle.sibling_register.specs.Refusals.{bad_context, too_many_siblings, max_siblings, first_of, option_checks, actor_checks}
use Rattle.sibling_register.specs.Answers.{PutCommand, DelCommand}
use Rattle.actor_epoch.specs.declared.Actor.{Actor}
use Rattle.actor_epoch.specs.declared.Dot.{Dot}
use Rattle.actor_epoch.specs.Limits.{max_epoch, max_counter, max_actors}
use Rattle.actor_epoch.specs.Dots.{actor_eq, dot_eq, counter_in, next_dot}
use Rattle.actor_epoch.specs.Contexts.{is_well_formed}
use Rattle.actor_epoch.specs.Given.{Context, Malformed, Pairs}
use Rattle.dvv_set.specs.Clocks.{DotState, discard, event, join}
use Rattle.dvv_set.specs.Held.{actors_after, uncovered}

-- a stored key: the actor of its life at this vnode, where it has one, and what its clock means, with no content as a
-- tombstone's value
pub record Stored (V : Type 0) : Type 0 where
  pub own : Option Actor
  pub clock : DotState (Option V)

-- a vnode: its id, the last epoch that it gave (0 before any), how many events of each kind it accepted, the stored keys
-- in their order, and the number of its close where it is closed, which no event here does
pub record State (V : Type 0) : Type 0 where
  pub vnode : ℕ
  pub last_epoch : ℕ
  pub writes : ℕ
  pub tombstones : ℕ
  pub reaps : ℕ
  pub keys : List (Key × Stored V)
  pub closed : Option ℕ

-- the pairs of a context that is given or not
abbrev pub pairs_of : Option Context → List Dot
pairs_of None = []
pairs_of (Some Malformed) = []
pairs_of (Some (Pairs pairs)) = pairs

-- two lists have the same pairs
abbrev pub same_pairs : List Dot → List Dot → Bool
same_pairs = pointwise dot_eq

-- two contexts have the same pairs, or both are malformed
abbrev pub same_context : Context → Context → Bool
same_context Malformed Malformed = true
same_context Malformed (Pairs others) = false
same_context (Pairs pairs) Malformed = false
same_context (Pairs pairs) (Pairs others) = same_pairs pairs others

-- a count stops at the greatest that 64 bits hold
abbrev pub counted : ℕ → ℕ
counted n = min (n + 1) (2 ^ 64 - 1)

module _ {V : Type 0} where
  -- before any event
  abbrev pub opening : (vnode last_epoch : ℕ) → State V
  opening vnode last_epoch = record { vnode = vnode; last_epoch = last_epoch; writes = 0; tombstones = 0; reaps = 0; keys = []; closed = None }

  abbrev pub stored : State V → Key → Option (Stored V)
  stored state key = find key_cmp key state.keys

  abbrev pub is_held : State V → Key → Bool
  is_held state key = is_some (stored state key)

  -- the key's clock, an empty one where the key is absent
  abbrev pub clock_of : State V → Key → DotState (Option V)
  clock_of state key = option_map_or (λ s. s.clock) (stored state key) (record { known = []; live = [] })

  -- the actor of the key's life, where it has one
  abbrev pub own_of : State V → Key → Option Actor
  own_of state key = option_and_then (λ s. s.own) (stored state key)

  -- the actor of the next life
  abbrev pub next_actor : State V → Actor
  next_actor state = record { vnode = state.vnode; epoch = state.last_epoch + 1 }

  -- the actor at which a write or tombstone of the key happens
  abbrev pub actor_for : State V → Key → Actor
  actor_for state key = unwrap_or (own_of state key) (next_actor state)

  abbrev pub has_value : State V → Key → Bool
  has_value state key = list_any (λ entry. is_some entry.1) (clock_of state key).live

  -- a dead key holds tombstones alone
  abbrev pub holds_dead : State V → Key → Bool
  holds_dead state key = is_held state key && not (has_value state key)

  -- names an epoch of this vnode above the last one given, or the key's own actor with a counter above the stored one
  abbrev pub names_unissued_dot : State V → Key → Dot → Bool
  names_unissued_dot state key pair =
      ((pair.actor.vnode == state.vnode) && nat_lt state.last_epoch pair.actor.epoch)
      || option_map_or (λ own. actor_eq pair.actor own && nat_lt (counter_in (clock_of state key).known own) pair.counter) (own_of state key) false

  -- a given context that is malformed, or has a pair that runs ahead
  abbrev pub is_bad_context : State V → Key → Option Context → Bool
  is_bad_context state key None = false
  is_bad_context state key (Some Malformed) = true
  is_bad_context state key (Some (Pairs pairs)) = not (is_well_formed pairs) || list_any (names_unissued_dot state key) pairs

  -- as many siblings as a key may have aren't covered, so that with one more they were too many
  abbrev pub has_too_many_siblings : State V → Key → List Dot → Bool
  has_too_many_siblings state key pairs = nat_le max_siblings (uncovered pairs (clock_of state key))

  -- too many actors: of the stored clock, of the context, and the key's own
  abbrev pub has_too_many_actors : State V → Key → List Dot → Bool
  has_too_many_actors state key pairs =
      nat_lt max_actors (actors_after (clock_of state key).known (Some pairs) (actor_for state key))

  abbrev pub is_out_of_epochs : State V → Key → Bool
  is_out_of_epochs state key = not (is_some (own_of state key)) && (state.last_epoch == max_epoch)

  -- of a key without an actor the next one has no counter, but where a copy brought a forged clock that knows it
  abbrev pub is_out_of_counters : State V → Key → Bool
  is_out_of_counters state key = counter_in (clock_of state key).known (actor_for state key) == max_counter

  -- whether the given context's entries are the stored clock's
  abbrev pub matches_clock : State V → Key → Option Context → Bool
  matches_clock state key None = false
  matches_clock state key (Some Malformed) = false
  matches_clock state key (Some (Pairs pairs)) = is_held state key && same_pairs pairs (join (clock_of state key))

  -- what a delete discards: its context's pairs, or without a context all that is stored
  abbrev pub del_pairs : State V → Key → Option Context → List Dot
  del_pairs state key None = join (clock_of state key)
  del_pairs state key (Some context) = pairs_of (Some context)

  -- the checks of a put or delete that discards these pairs, in their order
  abbrev pub room_checks : State V → Key → List Dot → List (Bool × ℕ)
  room_checks state key pairs =
      (has_too_many_siblings state key pairs, too_many_siblings)
      ∷ actor_checks (has_too_many_actors state key pairs) (is_out_of_epochs state key) (is_out_of_counters state key)

  -- the refusal of a write or tombstone, where there is one
  abbrev pub update_check : State V → Key → Option Context → List Dot → Option ℕ
  update_check state key given pairs = first_of ((is_bad_context state key given, bad_context) ∷ room_checks state key pairs)

  -- the number of the first check of a put that holds, if one does
  abbrev pub put_check : State V → PutCommand V Context → Option ℕ
  put_check state put =
      first_of (
      (is_bad_context state put.key put.context, bad_context)
      ∷ option_checks put.if_none_match put.if_not_modified (has_value state put.key) (matches_clock state put.key put.context)
      ++ room_checks state put.key (pairs_of put.context))

  -- the number of the first check of a delete that holds, if one does
  abbrev pub del_check : State V → DelCommand Context → Option ℕ
  del_check state del = update_check state del.key del.context (del_pairs state del.key del.context)

  -- what is known of a key once a write or tombstone has discarded these pairs
  abbrev pub known_by : State V → Key → List Dot → List Dot
  known_by state key pairs = (discard pairs (clock_of state key)).known

  -- a write or tombstone: discard by these pairs, then event at the key's actor
  abbrev pub updated : State V → Key → List Dot → Option V → List (Key × Stored V)
  updated state key pairs value =
      let own = actor_for state key in
      put key_cmp key (record { own = Some own; clock = event own value (discard pairs (clock_of state key)) }) state.keys

  -- a key that has no actor takes the next epoch
  abbrev pub epoch_after : State V → Key → ℕ
  epoch_after state key = if is_some (own_of state key) then state.last_epoch else state.last_epoch + 1

  -- what an accepted event changes
  abbrev pub apply_operation : State V → Key → Option Context → Operation V → State V
  apply_operation state key given (Write content) = record state {
    last_epoch = epoch_after state key;
    writes = counted state.writes;
    keys = updated state key (pairs_of given) (Some content);
  }
  apply_operation state key given Tombstone = record state {
    last_epoch = epoch_after state key;
    tombstones = counted state.tombstones;
    keys = updated state key (del_pairs state key given) None;
  }
  apply_operation state key given Reap = record state {
    reaps = counted state.reaps;
    keys = where_key key_cmp (λ other. not (eq_by_cmp key_cmp key other)) state.keys;
  }

  -- the state after a list of events
  abbrev pub state_after : State V → List (Event V Context) → State V
  state_after first [] = first
  state_after first (event ∷ before) = apply_operation (state_after first before) event.key event.context event.operation

  abbrev pub issued_at : State V → Key → Option Context → Operation V → List Dot → List Dot
  issued_at state key given (Write content) earlier = next_dot (actor_for state key) (known_by state key (pairs_of given)) ∷ earlier
  issued_at state key given Tombstone earlier = next_dot (actor_for state key) (known_by state key (del_pairs state key given)) ∷ earlier
  issued_at state key given Reap earlier = earlier

  -- the dots that the machine gave to a list of events, of whatever keys and lives, the latest first
  abbrev pub issued : State V → List (Event V Context) → List Dot
  issued first [] = []
  issued first (event ∷ before) = issued_at (state_after first before) event.key event.context event.operation (issued first before)

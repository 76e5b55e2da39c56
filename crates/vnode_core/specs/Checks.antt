-- The checks of a write, by what is stored of its key and the pairs of its context, and who makes it.
use Rattle.std.specs.Prelude.{◌≡◌, Bool, false, not, ◌||◌, ◌&&◌, ◌==◌, List, [], ◌∷◌, ℕ, ◌+◌, nat_le, nat_lt, Option, Some, None, Result, IfOk, IsTrue, is_some, unwrap_or}
use Rattle.std.specs.Borrow.{Bor}
use Rattle.std.specs.Option.{option_map, option_map_or}
use Rattle.std.specs.List.{list_any}
use Rattle.riak_msgs.specs.declared.Key.{Key}
use Rattle.riak_msgs.specs.Contents.{Content}
use Rattle.riak_msgs.specs.declared.PutAsk.{PutAsk}
use Rattle.sibling_register.specs.Refusals.{too_many_siblings, max_siblings, first_of, option_checks, actor_checks}
use Rattle.actor_epoch.specs.declared.Actor.{Actor}
use Rattle.actor_epoch.specs.declared.Dot.{Dot}
use Rattle.actor_epoch.specs.Dots.{actor_eq, counter_in}
use Rattle.actor_epoch.specs.Limits.{max_epoch, max_counter, max_actors}
use Rattle.actor_epoch.specs.Contexts.{is_well_formed}
use Rattle.dvv_set.specs.Clocks.{DotState}
use Rattle.dvv_set.specs.Held.{actors_after, uncovered}
use Rattle.vnode_machine.specs.Machine.{State, Stored, stored, actor_for, epoch_after, same_pairs, room_checks}
use Rattle.clock_store.specs.Keys.{stored_of}
use Rattle.clock_store.specs.declared.stored_clock.StoredClock.{StoredClock}
use Rattle.vnode_core.specs.declared.refusal.Refusal.{Refusal}
use Rattle.vnode_core.specs.Refusals.{GivenBy}
use Rattle.vnode_core.specs.declared.checks.Writer.{Writer}

abbrev pub pairs_in : Option (List Dot) → List Dot
pairs_in seen = unwrap_or seen []

-- what was found of a key, as the machine has it
abbrev pub found_in : Option (Bor StoredClock) → Option (Stored Content)
found_in found = option_map (λ s. stored_of s.now) found

-- pairs that were read are of the form
abbrev pub AreRead : Option (List Dot) → Type 0
AreRead None = Unit {0}
AreRead (Some pairs) = IsTrue (is_well_formed pairs)

-- a pair that no vnode of this id can have given, which gave this epoch last and this dot last
-- in the key's life
abbrev pub is_ahead : (vnode last_epoch : ℕ) → Option Dot → Dot → Bool
is_ahead vnode last_epoch last pair =
    ((pair.actor.vnode == vnode) && nat_lt last_epoch pair.actor.epoch)
    || option_map_or (λ own. actor_eq pair.actor own.actor && nat_lt own.counter pair.counter) last false

-- the last dot of a key's life, where it has one
abbrev pub last_dot : Option (Stored Content) → Option Dot
last_dot None = None
last_dot (Some s) = option_map (λ (own : Actor). (let d : Dot = record { actor = own; counter = counter_in s.clock.known own } in d)) s.own

-- whether there is a value
abbrev pub has_value_in : Option (Stored Content) → Bool
has_value_in None = false
has_value_in (Some s) = list_any (λ entry. is_some entry.1) s.clock.live

-- whether the context is the key's
abbrev pub is_current_in : Option (Stored Content) → Option (List Dot) → Bool
is_current_in None seen = false
is_current_in (Some s) None = false
is_current_in (Some s) (Some pairs) = same_pairs pairs s.clock.known

-- what the options of a put refuse
abbrev pub options_check : PutAsk → Option (Stored Content) → Option (List Dot) → Option ℕ
options_check put found seen =
    first_of (option_checks put.if_none_match put.if_not_modified (has_value_in found) (is_current_in found seen))

-- what is stored of a key at a vnode of this id that gave this epoch last
pub record IsStored (state : State Content) (key : Key) (id last_epoch : ℕ) (s : Stored Content) : Type 0 where
  pub stored : stored state key ≡ Some s
  pub vnode : state.vnode ≡ id
  pub epoch : state.last_epoch ≡ last_epoch

-- what was found of a key at a vnode of this id that gave this epoch last, and that no pair of
-- a context is ahead
pub record IsFound (state : State Content) (key : Key) (id last_epoch : ℕ)
    (found : Option (Stored Content)) (pairs : List Dot) : Type 0 where
  pub stored : stored state key ≡ found
  pub vnode : state.vnode ≡ id
  pub epoch : state.last_epoch ≡ last_epoch
  pub behind : list_any (is_ahead id last_epoch (last_dot found)) pairs ≡ false

-- what the room for one write more refuses
abbrev pub room_check : State Content → Key → Option (List Dot) → Option ℕ
room_check state key seen = first_of (room_checks state key (pairs_in seen))

-- that check's result, wherever this is stored of a key
abbrev pub ChecksStored : {X : Type 0} → (id last_epoch : ℕ) → Stored Content
    → Option (List Dot) → Result X Refusal → Type 0
ChecksStored id last_epoch s seen result =
    (state : State Content) (key : Key) → IsStored state key id last_epoch s
    → GivenBy result (room_check state key seen)

-- and wherever this was found of it
abbrev pub ChecksRoom : {X : Type 0} → (id last_epoch : ℕ) → Option (Stored Content)
    → Option (List Dot) → Result X Refusal → Type 0
ChecksRoom id last_epoch found seen result =
    (state : State Content) (key : Key) → IsFound state key id last_epoch found (pairs_in seen)
    → GivenBy result (room_check state key seen)

-- who writes a key next
abbrev pub writer_of : State Content → Key → Writer
writer_of state key = record { actor = actor_for state key; last_epoch = epoch_after state key }

-- who begins the next life of a vnode of this id that gave this epoch last
abbrev pub first_writer : (id last_epoch : ℕ) → Writer
first_writer id last_epoch = record {
  actor = record { vnode = id; epoch = last_epoch + 1 };
  last_epoch = last_epoch + 1;
}

-- a check's writer, wherever this is stored of a key
abbrev pub GivesWriterOf : (id last_epoch : ℕ) → Stored Content → Result Writer Refusal → Type 0
GivesWriterOf id last_epoch s result =
    (state : State Content) (key : Key) → IsStored state key id last_epoch s
    → IfOk result (λ writer. writer ≡ writer_of state key)

-- a check's writer, wherever this was found of a key
abbrev pub GivesWriter : (id last_epoch : ℕ) → Option (Stored Content) → Option (List Dot)
    → Result Writer Refusal → Type 0
GivesWriter id last_epoch found seen result =
    (state : State Content) (key : Key) → IsFound state key id last_epoch found (pairs_in seen)
    → IfOk result (λ writer. writer ≡ writer_of state key)

-- whether more siblings than a key may have would come of a write that has seen these pairs
abbrev pub siblings_check : DotState (Option Content) → Option (List Dot) → Option ℕ
siblings_check clock seen = first_of ((nat_le max_siblings (uncovered (pairs_in seen) clock), too_many_siblings) ∷ [])

-- whether the clock of a key and this actor have room for a write, where the actor can be had
abbrev pub actor_check : DotState (Option Content) → Option (List Dot) → Actor → (is_out_of_epochs : Bool) → Option ℕ
actor_check clock seen actor is_out_of_epochs =
    first_of (actor_checks (nat_lt max_actors (actors_after clock.known seen actor)) is_out_of_epochs (counter_in clock.known actor == max_counter))

-- who writes a stored key next, at a vnode of this id that gave this epoch last
abbrev pub next_writer : (id last_epoch : ℕ) → Option Actor → Writer
next_writer id last_epoch None = first_writer id last_epoch
next_writer id last_epoch (Some own) = record { actor = own; last_epoch = last_epoch }

-- whether there is room at that actor
abbrev pub writer_check : (id last_epoch : ℕ) → Stored Content → Option (List Dot) → Option ℕ
writer_check id last_epoch s seen =
    actor_check s.clock seen (next_writer id last_epoch s.own).actor (not (is_some s.own) && (last_epoch == max_epoch))

-- A clock as its holder sees it: what it means, and how much it has room for.
use Rattle.std.specs.Prelude.{◌≡◌, IsTrue, ◌≤◌, ◌<◌, ◌+◌, List, ℕ, length, not, filter, Option, Some, None}
use Rattle.std.specs.Option.{option_map}
use Rattle.std.specs.Borrow.{Bor}
use Rattle.actor_epoch.specs.declared.Actor.{Actor}
use Rattle.actor_epoch.specs.declared.Dot.{Dot}
use Rattle.actor_epoch.specs.Limits.{max_actors, max_counter}
use Rattle.actor_epoch.specs.Dots.{actor_eq, covers, counter_in, next_dot, insert_max, union}
use Rattle.actor_epoch.specs.Contexts.{is_well_formed}
use Rattle.dvv_set.specs.Clocks.{DotState, sync, discard}

-- the pairs of a context that a call is given or not
abbrev pub pairs_of : Option (Bor (List Dot)) → Option (List Dot)
pairs_of context = option_map (λ c. c.now) context

-- the pairs that are known without a context, or with one
abbrev pub known_with : Option (List Dot) → List Dot → List Dot
known_with None known = known
known_with (Some pairs) known = union known pairs

-- what stays without what a context saw; no context saw nothing
abbrev pub without : {V : Type 0} → Option (List Dot) → DotState V → DotState V
without None clock = clock
without (Some pairs) clock = discard pairs clock

-- the pairs that are known after the next event of an actor
abbrev pub known_after : Actor → List Dot → List Dot
known_after actor known = insert_max (next_dot actor known) known

-- how many actors are known after that event, without what a context saw
abbrev pub actors_after : List Dot → Option (List Dot) → Actor → ℕ
actors_after known pairs actor = length (known_after actor (known_with pairs known))

-- the last counter of the actor before that event
abbrev pub counter_before : List Dot → Option (List Dot) → Actor → ℕ
counter_before known pairs actor = counter_in (known_with pairs known) actor

-- the limits leave the actor a next dot
pub record IsWithin (known : List Dot) (pairs : Option (List Dot)) (actor : Actor) : Type 0 where
  pub few : actors_after known pairs actor ≤ max_actors
  pub counter : counter_before known pairs actor < max_counter

-- how many live values pairs don't cover
abbrev pub uncovered : {V : Type 0} → List Dot → DotState V → ℕ
uncovered pairs clock = length (filter (λ entry. not (covers pairs entry.0)) clock.live)

-- the live dots of an actor
abbrev pub values_of : {V : Type 0} → Actor → List (Dot × V) → List (Dot × V)
values_of actor live = filter (λ entry. actor_eq entry.0.actor actor) live

pub record Held (V : Type 0) : Type 0 where
  pub meaning : DotState V
  pub actors_room : ℕ
  pub values_room : ℕ

-- more than 64 actors would be known
abbrev pub IsActorsFull : List Dot → Option (List Dot) → Actor → Type 0
IsActorsFull known pairs actor = max_actors < actors_after known pairs actor

-- the actor has no next counter, and there are not too many actors
abbrev pub IsCounterFull : List Dot → Option (List Dot) → Actor → Type 0
IsCounterFull known pairs actor =
    (counter_before known pairs actor ≡ max_counter) × (actors_after known pairs actor ≤ max_actors)

-- a value can be put for an actor without what a context saw: within the limits, and in room that is there
pub record IsReady {V : Type 0} (held : Held V) (pairs : Option (List Dot)) (actor : Actor) : Type 0 where
  pub of_form : (ps : List Dot) → pairs ≡ Some ps → IsTrue (is_well_formed ps)
  pub few : actors_after held.meaning.known pairs actor ≤ max_actors
  pub counter : counter_before held.meaning.known pairs actor < max_counter
  pub actors : actors_after held.meaning.known pairs actor ≤ held.actors_room
  pub values : length (values_of actor held.meaning.live) + 1 ≤ held.values_room

-- another clock can be synced with: within the limit of actors, and in room that is there
pub record IsSyncReady {V : Type 0} (held : Held V) (other : DotState V) : Type 0 where
  pub few : length (sync held.meaning other).known ≤ max_actors
  pub actors : length (sync held.meaning other).known ≤ held.actors_room

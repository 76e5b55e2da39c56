-- What a clock means, and the calls of a dotted version vector set on it.
use Rattle.std.specs.Prelude.{Bool, not, ◌||◌, ◌+◌, if◌then◌else◌, List, [], ◌∷◌, filter, map, unwrap_or, nat_le}
use Rattle.std.specs.List.{list_any}
use Rattle.std.specs.declared.cmp.Ordering.{Ordering}
use Rattle.std.specs.Ordering.{nat_cmp, ordering_then}
use Rattle.std.specs.FinMap.Entries.{find, put}
use Rattle.actor_epoch.specs.declared.Actor.{Actor}
use Rattle.actor_epoch.specs.declared.Dot.{Dot}
use Rattle.actor_epoch.specs.Dots.{actor_cmp, dot_eq, covers, counter_in, insert_max, union}

-- the dots that it knows, as pairs, and those of them that are live, each with its value
pub record DotState (V : Type 0) : Type 0 where
  pub known : List Dot
  pub live : List (Dot × V)

-- the order in which values are shown: by rising actor, newest first in each
abbrev pub show_cmp : Dot → Dot → Ordering
show_cmp a b = ordering_then (actor_cmp a.actor b.actor) (nat_cmp b.counter a.counter)

module _ {V : Type 0} where
  abbrev pub is_live : DotState V → Dot → Bool
  is_live clock dot = list_any (λ entry. dot_eq entry.0 dot) clock.live

  abbrev pub put_all : List (Dot × V) → List (Dot × V) → List (Dot × V)
  put_all [] live = live
  put_all (entry ∷ entries) live = put show_cmp entry.0 entry.1 (put_all entries live)

  -- of a dot that is live on both sides, the value of the side with the greater counter of its actor
  abbrev pub value_in : DotState V → DotState V → Dot × V → V
  value_in own other entry =
      if nat_le (counter_in other.known entry.0.actor) (counter_in own.known entry.0.actor)
      then entry.1
      else unwrap_or (find show_cmp entry.0 other.live) entry.1

  -- a dot is known where either side knows it; it is live where both have it live, or one has it live and the other
  -- doesn't know it
  abbrev pub sync : DotState V → DotState V → DotState V
  sync own other =
      let kept = filter (λ entry. is_live other entry.0 || not (covers other.known entry.0)) own.live in
      let new = filter (λ entry. not (covers own.known entry.0)) other.live in
      record {
        known = union own.known other.known;
        live = put_all new (map (λ entry. (entry.0, value_in own other entry)) kept);
      }

  -- the dots of a context are known, and no longer live
  abbrev pub discard : List Dot → DotState V → DotState V
  discard pairs clock = record {
    known = union clock.known pairs;
    live = filter (λ entry. not (covers pairs entry.0)) clock.live;
  }

  -- the next dot of an actor is known and live with the value
  abbrev pub event : Actor → V → DotState V → DotState V
  event actor value clock =
      let dot : Dot = record { actor = actor; counter = counter_in clock.known actor + 1 } in
      record { known = insert_max dot clock.known; live = put show_cmp dot value clock.live }

  abbrev pub join : DotState V → List Dot
  join clock = clock.known

-- What a list of rows means, and what is always true of it.
use Rattle.std.specs.Prelude.{◌≡◌, ◌<◌, ◌≤◌, ℕ, length, true, List, map, IsTrue, Option, Some, None, slice_get, vec_len, vec_capacity}
use Rattle.std.specs.Option.{option_map}
use Rattle.std.specs.declared.vec.Vec.{Vec}
use Rattle.std.specs.declared.alloc.Global.{Global}
use Rattle.std.specs.FinMap.Entries.{is_sorted}
use Rattle.riak_msgs.specs.declared.Key.{Key}
use Rattle.riak_msgs.specs.Contents.{Content}
use Rattle.riak_msgs.specs.KeyOrder.{key_cmp}
use Rattle.actor_epoch.specs.declared.Actor.{Actor}
use Rattle.actor_epoch.specs.declared.Dot.{Dot}
use Rattle.actor_epoch.specs.Limits.{max_actors}
use Rattle.dvv_set.specs.Clocks.{DotState, sync}
use Rattle.dvv_set.specs.Held.{IsWithin, IsReady, IsSyncReady}
use Rattle.vnode_machine.specs.Machine.{Stored}
use Rattle.clock_store.specs.Contents.{Reservation, Contents}
use Rattle.clock_store.specs.Keys.{empty, stored_of}
use Rattle.clock_store.specs.declared.found.Place.{Place as KeyPlace}
use Rattle.clock_list.specs.declared.place.Place.TheVariants as places
use Rattle.clock_list.specs.declared.row.Row.{Row}
use Rattle.clock_list.specs.declared.list.Room.{Room}
use Rattle.clock_list.specs.declared.list.Room.TheVariants.{At, New}
use Rattle.clock_list.specs.declared.list.ClockList.TheInside.{Inside}
use Rattle.clock_list.specs.Places.{place_in}

abbrev pub entry_of : Row → Key × Stored Content
entry_of row = (row.key, stored_of row.stored)

-- the clock of the key at a place is within its limits after a write
pub record RowFits (items : List Row) (i : ℕ) (seen : Option (List Dot)) (actor : Actor) : Type 0 where
  pub row : Row
  pub get : slice_get items i ≡ Some row
  pub fits : IsWithin row.stored.clock.meaning.known seen actor

-- and has room for it
pub record ReadyAt (items : List Row) (i : ℕ) (seen : Option (List Dot)) (actor : Actor) : Type 0 where
  pub row : Row
  pub get : slice_get items i ≡ Some row
  pub ready : IsReady row.stored.clock seen actor

-- the same of a sync
pub record SyncFitsAt (items : List Row) (i : ℕ) (other : DotState (Option Content)) : Type 0 where
  pub row : Row
  pub get : slice_get items i ≡ Some row
  pub fits : length (sync row.stored.clock.meaning other).known ≤ max_actors

pub record SyncReadyAt (items : List Row) (i : ℕ) (other : DotState (Option Content)) : Type 0 where
  pub row : Row
  pub get : slice_get items i ≡ Some row
  pub ready : IsSyncReady row.stored.clock other

-- what is stored of a key that isn't held: no actor, and a clock that knows nothing
abbrev pub nothing : Stored Content
nothing = record { own = None; clock = empty }

-- a row of this key in which nothing is stored, with room for a sync
pub record IsNewSyncRow (row : Row) (key : Key) (other : DotState (Option Content)) : Type 0 where
  pub same : row.key ≡ key
  pub none : stored_of row.stored ≡ nothing
  pub ready : IsSyncReady row.stored.clock other

-- the same, with room for a write
pub record IsNewRow (row : Row) (key : Key) (seen : Option (List Dot)) (actor : Actor) : Type 0 where
  pub same : row.key ≡ key
  pub none : stored_of row.stored ≡ nothing
  pub ready : IsReady row.stored.clock seen actor

-- a list has room for a tombstone as for a value
abbrev pub reservation_of : Key → Row → Reservation
reservation_of key row = record { key = key; clock = row.stored.clock; may_die = true }

abbrev pub reserved_in : List Row → Option Room → Option Reservation
reserved_in items None = None
reserved_in items (Some (At i key)) = option_map (reservation_of key) (slice_get items i)
reserved_in items (Some (New i row)) = Some (reservation_of row.key row)

-- a list looks for its keys each time: all have one place
abbrev pub first_place : KeyPlace
first_place = record { index = 0 }

abbrev pub place_entry : Row → Key × KeyPlace
place_entry row = (row.key, first_place)

abbrev pub contents_in : List Row → Option Room → Contents
contents_in items room = record { keys = map entry_of items; places = map place_entry items; room = reserved_in items room }

abbrev pub view_of : Inside → Contents
view_of v = contents_in v.rows.items v.room

-- a new row finds room for one more in the list, at the place of its key, and nothing is stored in it
pub record FitsIn (rows : Vec Row Global) (i : ℕ) (row : Row) : Type 0 where
  pub more : vec_len rows < vec_capacity rows
  pub placed : place_in row.key (map entry_of rows.items) ≡ places.New i
  pub none : stored_of row.stored ≡ nothing

abbrev pub IsRowRoom : Vec Row Global → Option Room → Type 0
IsRowRoom rows None = Unit {0}
IsRowRoom rows (Some (At i key)) = place_in key (map entry_of rows.items) ≡ places.At i
IsRowRoom rows (Some (New i row)) = FitsIn rows i row

pub record IsList (v : Inside) : Type 0 where
  pub sorted : IsTrue (is_sorted key_cmp (map entry_of v.rows.items))
  pub room : IsRowRoom v.rows v.room

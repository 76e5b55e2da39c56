-- Keys at their places in a list of rows.
use Rattle.std.proofs.Common.{◌≡◌, ◌<◌, ◌≤◌, ℕ, Bool, true, false, cond, List, [], ◌∷◌, ◌++◌, refl, sym, ◌∙◌, ap, arith, subst, set, map, get_or, length, take, drop, length-set, get_or-set_same}
use lib.Dec.{T}
use Rattle.std.specs.declared.vec.Vec.{Vec}
use Rattle.std.specs.declared.alloc.Global.{Global}
use Rattle.std.specs.Prelude.{Option, Some, None, slice_get, insert, IsTrue}
use Rattle.std.specs.Option.{option_map}
use Rattle.std.proofs.lemmas.Float.{T_from_true}
use Rattle.std.proofs.lemmas.Option.{slice_get-map, slice_get-get_or, slice_get_within, get_or_from_slice_get}
use Rattle.std.proofs.lemmas.List.{map-set, map-append, take-map, drop-map, length-map}
use Rattle.std.proofs.Math.Seq.{map-set_same}
use Rattle.std.specs.FinMap.Entries.{find, put, is_sorted, is_sorted-put}
use Rattle.riak_msgs.specs.declared.Key.{Key}
use Rattle.riak_msgs.specs.Contents.{Content}
use Rattle.riak_msgs.specs.KeyOrder.{key_cmp}
use Rattle.actor_epoch.specs.declared.Actor.{Actor}
use Rattle.actor_epoch.specs.declared.Dot.{Dot}
use Rattle.actor_epoch.specs.Limits.{max_actors}
use Rattle.dvv_set.specs.Clocks.{DotState, discard, event, sync}
use Rattle.dvv_set.specs.Held.{IsWithin, IsReady, IsSyncReady}
use Rattle.vnode_machine.specs.Machine.{Stored}
use Rattle.vnode_machine.proofs.Keys.{key_cmp_total}
use Rattle.clock_list.specs.declared.place.Place.{Place}
use Rattle.clock_list.specs.declared.place.Place.TheVariants.{At, New}
use Rattle.clock_list.specs.declared.list.Room.{Room}
use Rattle.clock_list.specs.declared.list.Room.TheVariants as rooms
use Rattle.clock_list.specs.declared.row.Row.{Row}
use Rattle.clock_list.specs.Places.{place_in}
use Rattle.clock_store.specs.declared.store.WriteKind.{WriteKind}
use Rattle.clock_store.specs.declared.store.WriteKind.TheVariants.{Value, Tombstone}
use Rattle.clock_store.specs.Contents.{Reservation, HasPlaceIfDead, HasWriteRoom}
use Rattle.clock_store.specs.Keys.{Keys, stored_of, empty, clock_at, own_at, written, overwritten}
use Rattle.std.specs.Ordering.{eq_by_cmp}
use Rattle.clock_list.specs.Rows.{entry_of, nothing, place_entry, first_place, RowFits, ReadyAt, SyncFitsAt, SyncReadyAt, reservation_of, contents_in, IsRowRoom, IsList}
use Rattle.clock_list.proofs.Finding.{at_place, new_place}
use Rattle.vnode_machine.proofs.Tests.{unmapped}

-- a key stands at its place
pub record HoldsAt (items : List Row) (key : Key) (i : ℕ) : Type 0 where
  pub row : Row
  pub get : slice_get items i ≡ Some row
  pub find : find key_cmp key (map entry_of items) ≡ Some (stored_of row.stored)
  pub put : (s : Stored Content) → put key_cmp key s (map entry_of items) ≡ set (map entry_of items) i (row.key, s)

pub stands : (items : List Row) (key : Key) (i : ℕ) → place_in key (map entry_of items) ≡ At i → HoldsAt items key i
stands items key i h =
    let at = at_place 0 key (map entry_of items) i h in
    let k : at.k ≡ i = omega (arith, at.is) in
    let row = unmapped entry_of (slice_get items at.k) at.entry (sym (slice_get-map entry_of items at.k) ∙ at.get) in
    record {
      row = row.0;
      get = ap (λ n. slice_get items n) (sym k) ∙ row.1;
      find = at.find ∙ ap (λ e. Some e.1) (sym row.2);
      put = λ s. at.put s ∙ ap (λ n. set (map entry_of items) n (at.entry.0, s)) k ∙ ap (λ e. set (map entry_of items) i (e.0, s)) (sym row.2);
    }

pub within_at : (items : List Row) (key : Key) (i : ℕ) → place_in key (map entry_of items) ≡ At i → i < length items
within_at items key i h = let at = stands items key i h in slice_get_within items i at.row at.get

-- what is read at the place of a key is what is stored of it
pub found_at : (items : List Row) (key : Key) (i : ℕ) (read : Row) → place_in key (map entry_of items) ≡ At i → read ≡ get_or items i read
    → Some (stored_of read.stored) ≡ find key_cmp key (map entry_of items)
found_at items key i read h is =
    let at = stands items key i h in
    ap (λ (r : Row). Some (stored_of r.stored)) (is ∙ get_or_from_slice_get items i at.row read at.get) ∙ sym at.find

pub found_none : (items : List Row) (key : Key) (i : ℕ) → IsTrue (is_sorted key_cmp (map entry_of items)) → place_in key (map entry_of items) ≡ New i
    → None ≡ find key_cmp key (map entry_of items)
found_none items key i sorted h = sym (new_place 0 key (map entry_of items) i sorted h).find

-- a key that is there has a place
pub found_place : (items : List Row) (key : Key) → find key_cmp key (map place_entry items) ≡ option_map (λ s. first_place) (find key_cmp key (map entry_of items))
found_place [] key = refl
found_place (row ∷ items) key = by (eq_by_cmp key_cmp key row.key) (found_place items key)
  where
    by : (b : Bool) → find key_cmp key (map place_entry items) ≡ option_map (λ s. first_place) (find key_cmp key (map entry_of items))
        → cond b (Some first_place) (find key_cmp key (map place_entry items)) ≡ option_map (λ s. first_place) (cond b (Some (stored_of row.stored)) (find key_cmp key (map entry_of items)))
    by true rest = refl
    by false rest = rest

-- the place of a key, as it was found in a slice of the keys
pub placed : (items slice : List Row) (key : Key) (found place : Place) → slice ≡ items → found ≡ place_in key (map entry_of slice) → found ≡ place
    → place_in key (map entry_of items) ≡ place
placed items slice key found place is at eq = ap (λ xs. place_in key (map entry_of xs)) (sym is) ∙ sym at ∙ eq

-- what is put in the place of the same is the same
pub entries_same : (items : List Row) (i : ℕ) (read new : Row) → read ≡ get_or items i read → entry_of new ≡ entry_of read
    → map entry_of (set items i new) ≡ map entry_of items
entries_same items i read new is same = map-set_same entry_of items i new read (same ∙ ap entry_of is)

-- what was put at an index stands there
slice_get-set : {X : Type 0} (xs : List X) (i : ℕ) (x : X) → i < length xs → slice_get (set xs i x) i ≡ Some x
slice_get-set xs i x h =
    let within : i < length (set xs i x) = omega (arith, length-set xs i x) in
    slice_get-get_or (set xs i x) i x within ∙ ap Some (get_or-set_same xs i x x h)

module _ (seen : Option (List Dot)) (actor : Actor) where
  -- a clock at a place, as it is read
  pub fits_at : (items : List Row) (key : Key) (i : ℕ) → place_in key (map entry_of items) ≡ At i → IsWithin (clock_at (map entry_of items) key).known seen actor
      → RowFits items i seen actor
  fits_at items key i h fits =
      let at = stands items key i h in
      let clock : clock_at (map entry_of items) key ≡ at.row.stored.clock.meaning = let o = at.find in rw o refl in
      record { row = at.row; get = at.get; fits = subst (λ (m : DotState (Option Content)). IsWithin m.known seen actor) clock fits }

  pub ready_at : (items : List Row) (i : ℕ) (new : Row) → i < length items → IsReady new.stored.clock seen actor → ReadyAt (set items i new) i seen actor
  ready_at items i new h ready = record { row = new; get = slice_get-set items i new h; ready = ready }

  -- a new key's clock is empty
  pub fits_new : (items : List Row) (key : Key) (i : ℕ) (new : DotState (Option Content)) → IsTrue (is_sorted key_cmp (map entry_of items))
      → place_in key (map entry_of items) ≡ New i → new ≡ empty → IsWithin (clock_at (map entry_of items) key).known seen actor → IsWithin new.known seen actor
  fits_new items key i new sorted h is fits =
      let none = found_none items key i sorted h in
      let clock : clock_at (map entry_of items) key ≡ empty = rw (sym none) refl in
      subst (λ (m : DotState (Option Content)). IsWithin m.known seen actor) (clock ∙ sym is) fits

-- the same of a sync with another clock
module _ (other : DotState (Option Content)) where
  pub sync_fits_at : (items : List Row) (key : Key) (i : ℕ) → place_in key (map entry_of items) ≡ At i → length (sync (clock_at (map entry_of items) key) other).known ≤ max_actors
      → SyncFitsAt items i other
  sync_fits_at items key i h few =
      let at = stands items key i h in
      let clock : clock_at (map entry_of items) key ≡ at.row.stored.clock.meaning = let o = at.find in rw o refl in
      record { row = at.row; get = at.get; fits = subst (λ (m : DotState (Option Content)). length (sync m other).known ≤ max_actors) clock few }

  pub sync_ready_at : (items : List Row) (i : ℕ) (new : Row) → i < length items → IsSyncReady new.stored.clock other → SyncReadyAt (set items i new) i other
  sync_ready_at items i new h ready = record { row = new; get = slice_get-set items i new h; ready = ready }

  pub sync_fits_new : (items : List Row) (key : Key) (i : ℕ) → IsTrue (is_sorted key_cmp (map entry_of items)) → place_in key (map entry_of items) ≡ New i
      → length (sync (clock_at (map entry_of items) key) other).known ≤ max_actors → length (sync empty other).known ≤ max_actors
  sync_fits_new items key i sorted h few =
      let none = found_none items key i sorted h in
      let clock : clock_at (map entry_of items) key ≡ empty = rw (sym none) refl in
      subst (λ (m : DotState (Option Content)). length (sync m other).known ≤ max_actors) clock few

-- a change of a clock and its actor
module _ (change : DotState (Option Content) → DotState (Option Content)) (own : Option Actor → Option Actor) where
  abbrev changed_to : Keys → Key → Keys
  changed_to keys key = put key_cmp key (record { own = own (own_at keys key); clock = change (clock_at keys key) }) keys

  pub changed_at : (items : List Row) (key : Key) (i : ℕ) (read new : Row) → place_in key (map entry_of items) ≡ At i → read ≡ get_or items i read
      → new.key ≡ read.key → new.stored.actor ≡ own read.stored.actor → new.stored.clock.meaning ≡ change read.stored.clock.meaning
      → map entry_of (set items i new) ≡ changed_to (map entry_of items) key
  changed_at items key i read new h is same actor clock =
      let at = stands items key i h in
      let it : read ≡ at.row = is ∙ get_or_from_slice_get items i at.row read at.get in
      let was : clock_at (map entry_of items) key ≡ read.stored.clock.meaning = let o = at.find in rw (o, it) refl in
      let owner : own_at (map entry_of items) key ≡ read.stored.actor = let o = at.find in rw (o, it) refl in
      let stored : stored_of new.stored ≡ record { own = own (own_at (map entry_of items) key); clock = change ((clock_at (map entry_of items) key)) } =
      (λ j. record { own = actor j; clock = clock j }) ∙ (λ j. record { own = own ((sym owner j)); clock = change ((sym was j)) }) in
      map-set entry_of items i new
      ∙ ap (λ k. set (map entry_of items) i (k, stored_of new.stored)) (same ∙ ap (λ (r : Row). r.key) it)
      ∙ sym (at.put (stored_of new.stored))
      ∙ ap (λ s. put key_cmp key s (map entry_of items)) stored

  mapped_insert : (items : List Row) (i : ℕ) (row : Row) → map entry_of (insert items i row) ≡ insert (map entry_of items) i (entry_of row)
  mapped_insert items i row =
      map-append entry_of (take i items) (row ∷ drop i items)
      ∙ ap (λ front. front ++ entry_of row ∷ map entry_of (drop i items)) (sym (take-map entry_of i items))
      ∙ ap (λ back. take i (map entry_of items) ++ entry_of row ∷ back) (sym (drop-map entry_of i items))

  pub changed_new : (items : List Row) (i : ℕ) (made new : Row) → IsTrue (is_sorted key_cmp (map entry_of items)) → place_in made.key (map entry_of items) ≡ New i
      → stored_of made.stored ≡ nothing → new.key ≡ made.key → new.stored.actor ≡ own made.stored.actor → new.stored.clock.meaning ≡ change made.stored.clock.meaning
      → map entry_of (insert items i new) ≡ changed_to (map entry_of items) made.key
  changed_new items i made new sorted h none same actor clock =
      let at = new_place 0 made.key (map entry_of items) i sorted h in
      let k : at.k ≡ i = omega (arith, at.is) in
      let was : clock_at (map entry_of items) made.key ≡ empty = let o = at.find in rw o refl in
      let owner : own_at (map entry_of items) made.key ≡ None = let o = at.find in rw o refl in
      let stored : stored_of new.stored ≡ record { own = own (own_at (map entry_of items) made.key); clock = change ((clock_at (map entry_of items) made.key)) } =
      (λ j. record { own = actor j; clock = clock j }) ∙ (λ j. record { own = own (none j).own; clock = change (none j).clock })
      ∙ (λ j. record { own = own (sym owner j); clock = change (sym was j) }) in
      mapped_insert items i new
      ∙ ap (λ key. insert (map entry_of items) i (key, stored_of new.stored)) same
      ∙ ap (λ n. insert (map entry_of items) n (made.key, stored_of new.stored)) (sym k)
      ∙ sym (at.put (stored_of new.stored))
      ∙ ap (λ s. put key_cmp made.key s (map entry_of items)) stored

-- a write at an actor, of which this is left of a clock
module _ (left : DotState (Option Content) → DotState (Option Content)) (actor : Actor) (value : Option Content) where
  abbrev written_to : Keys → Key → Keys
  written_to keys key = put key_cmp key (record { own = Some actor; clock = event actor value (left (clock_at keys key)) }) keys

  pub written_at : (items : List Row) (key : Key) (i : ℕ) (read new : Row) → place_in key (map entry_of items) ≡ At i → read ≡ get_or items i read
      → new.key ≡ read.key → new.stored.actor ≡ Some actor → new.stored.clock.meaning ≡ event actor value (left read.stored.clock.meaning)
      → map entry_of (set items i new) ≡ written_to (map entry_of items) key
  written_at = changed_at (λ clock. event actor value (left clock)) (λ own. Some actor)

  pub written_new : (items : List Row) (i : ℕ) (made new : Row) → IsTrue (is_sorted key_cmp (map entry_of items)) → place_in made.key (map entry_of items) ≡ New i
      → stored_of made.stored ≡ nothing → new.key ≡ made.key → new.stored.actor ≡ Some actor → new.stored.clock.meaning ≡ event actor value (left made.stored.clock.meaning)
      → map entry_of (insert items i new) ≡ written_to (map entry_of items) made.key
  written_new = changed_new (λ clock. event actor value (left clock)) (λ own. Some actor)

pub within_new : (items : List Row) (key : Key) (i : ℕ) → IsTrue (is_sorted key_cmp (map entry_of items)) → place_in key (map entry_of items) ≡ New i → i ≤ length items
within_new items key i sorted h =
    let at = new_place 0 key (map entry_of items) i sorted h in
    omega (arith, at.is, at.within, length-map items entry_of)

-- what an insertion that succeeds leaves
pub inserted : {X : Type 0} (b : Bool) (after xs ys : List X) → b ≡ true → after ≡ cond b xs ys → after ≡ xs
inserted b after xs ys t is = is ∙ ap (λ c. cond c xs ys) t

-- in place of all values of a new key there are none
pub overwritten_new : (keys : Keys) (key : Key) (actor : Actor) (value : Option Content) → find key_cmp key keys ≡ None → written keys key None actor value ≡ overwritten keys key actor value
overwritten_new keys key actor value none =
    let was : clock_at keys key ≡ empty = rw none refl in
    let s : DotState (Option Content) → Stored Content = λ m. record { own = Some actor; clock = event actor value m } in
    ap (λ m. put key_cmp key (s m) keys) (was ∙ (λ i. discard (sym was i).known (sym was i)))

pub true_from : (b : Bool) → T b → IsTrue b
true_from true t = refl
true_from false t = absurd t

-- what is always true of a list holds after a write
pub list_after : (rows : Vec Row Global) (room : Option Room) (old : Keys) (key : Key) (s : Stored Content) → room ≡ None
    → map entry_of rows.items ≡ put key_cmp key s old → IsTrue (is_sorted key_cmp old) → IsList (record { rows = rows; room = room })
list_after rows room old key s none is sorted = record {
  sorted = subst (λ es. IsTrue (is_sorted key_cmp es)) (sym is) (true_from _ (is_sorted-put key_cmp key_cmp_total key s old (T_from_true _ sorted)));
  room = subst (IsRowRoom rows) (sym none) tt;
}

has-place : (kind : WriteKind) → HasPlaceIfDead kind true
has-place Value = tt
has-place Tombstone = refl

module _ (items : List Row) (key : Key) (seen : Option (List Dot)) (actor : Actor) (kind : WriteKind) where
  -- room that was made in a list is what a write finds
  pub found-new : (i : ℕ) (row : Row) → HasWriteRoom (contents_in items (Some (rooms.New i row))) key seen actor kind → IsReady row.stored.clock seen actor × (row.key ≡ key)
  found-new i row room =
      let e : room.reserved ≡ reservation_of row.key row = cc in
      (subst (λ (r : Reservation). IsReady r.clock seen actor) e room.ready, ap (λ (r : Reservation). r.key) (sym e) ∙ room.same)

-- Dead keys in a list of rows, and the list without one.
use Rattle.std.proofs.Common.{◌≡◌, ◌<◌, ℕ, zero, suc, ◌+◌, Bool, true, false, not, cond, List, [], ◌∷◌, ◌++◌, refl, sym, ◌∙◌, ap, arith, map, length, take, drop, subst}
use Rattle.std.specs.Prelude.{Option, Some, None, slice_get, filter, remove, is_some, IsTrue}
use Rattle.std.specs.Option.{option_map_or, option_map}
use Rattle.std.specs.List.{position_from}
use Rattle.std.specs.declared.vec.Vec.{Vec}
use Rattle.std.specs.declared.alloc.Global.{Global}
use Rattle.std.specs.Ordering.{is_lt, is_eq, eq_by_cmp}
use Rattle.std.specs.FinMap.Entries.{where_key, is_sorted, below_all, is_sorted-where_key}
use Rattle.std.proofs.lemmas.Float.{T_from_true}
use Rattle.std.proofs.lemmas.List.{map-append, take-map, drop-map}
use Rattle.std.proofs.lemmas.Option.{slice_get_within, slice_get-map}
use Rattle.riak_msgs.specs.declared.Key.{Key}
use Rattle.riak_msgs.specs.Contents.{Content}
use Rattle.riak_msgs.specs.KeyOrder.{key_cmp}
use Rattle.vnode_machine.specs.Machine.{Stored}
use Rattle.vnode_machine.specs.Dead.{first_dead, has_dead, reaped}
use Rattle.vnode_machine.proofs.DeadKeys.{dead_entries, where-below, not_eq-above, eq-itself}
use Rattle.vnode_machine.proofs.Keys.{key_eq-same, eq_by_key_cmp}
use Rattle.vnode_machine.proofs.Seen.{less}
use Rattle.vnode_machine.proofs.Tests.{and_left, and_right}
use Rattle.clock_list.specs.declared.row.Row.{Row}
use Rattle.clock_list.specs.declared.place.Place.TheVariants.{At}
use Rattle.clock_list.specs.Places.{place_in}
use Rattle.clock_list.proofs.Finding.{at_place}
use Rattle.clock_store.specs.Forgetting.{holding, after_first_reap, is_dead_from}
use Rattle.clock_store.specs.Keys.{Keys}
use Rattle.clock_list.specs.Rows.{entry_of, IsList}
use Rattle.clock_list.proofs.Rows.{true_from}

-- what is removed from a list is removed from what is made of it
pub map_remove : {X Y : Type 0} (f : X → Y) (xs : List X) (i : ℕ) → map f (remove xs i) ≡ remove (map f xs) i
map_remove f xs i =
    map-append f (take i xs) (drop (suc i) xs)
    ∙ ap (λ front. front ++ map f (drop (suc i) xs)) (sym (take-map f i xs))
    ∙ ap (λ back. take i (map f xs) ++ back) (sym (drop-map f (suc i) xs))

module _ {X : Type 0} where
  below-at : (key : Key) (es : List (Key × X)) (i : ℕ) (e : Key × X) → below_all key_cmp key es ≡ true → slice_get es i ≡ Some e → is_lt (key_cmp key e.0) ≡ true
  below-at key [] i e h get = cc
  below-at key (x ∷ es) zero e h get =
      let same : x ≡ e = cc in
      ap (λ (e : Key × X). is_lt (key_cmp key e.0)) (sym same) ∙ and_left _ _ h
  below-at key (x ∷ es) (suc i) e h get = below-at key es i e (and_right _ _ h) get

  -- a sorted list without the entry at a place has all entries but those of its key
  pub remove-where : (es : List (Key × X)) (i : ℕ) (e : Key × X) → is_sorted key_cmp es ≡ true → slice_get es i ≡ Some e
      → remove es i ≡ where_key key_cmp (λ other. not (eq_by_cmp key_cmp e.0 other)) es
  remove-where [] i e sorted get = cc
  remove-where (x ∷ es) zero e sorted get =
      let same : e ≡ x = cc in
      let rest = where-below x.0 es (and_left _ _ sorted) in
      sym (
      ap (λ (e : Key × X). where_key key_cmp (λ other. not (eq_by_cmp key_cmp e.0 other)) (x ∷ es)) same
      ∙ ap (λ b. cond (not b) (x ∷ where_key key_cmp (λ other. not (eq_by_cmp key_cmp x.0 other)) es) (where_key key_cmp (λ other. not (eq_by_cmp key_cmp x.0 other)) es)) (eq-itself x.0)
      ∙ rest
      )
  remove-where (x ∷ es) (suc i) e sorted get =
      let rest = remove-where es i e (and_right _ _ sorted) get in
      let n = not_eq-above e.0 x.0 (less _ (below-at x.0 es i e (and_left _ _ sorted) get)) in
      ap (λ xs. x ∷ xs) rest
      ∙ sym (ap (λ b. cond (not b) (x ∷ where_key key_cmp (λ other. not (eq_by_cmp key_cmp e.0 other)) es) (where_key key_cmp (λ other. not (eq_by_cmp key_cmp e.0 other)) es)) n)

-- so it is where a key stands
pub removed_at : (keys : Keys) (key : Key) (i : ℕ) → is_sorted key_cmp keys ≡ true → place_in key keys ≡ At i → remove keys i ≡ (reaped (holding keys) key).keys
removed_at keys key i sorted h =
    let at = at_place 0 key keys i h in
    let k : at.k ≡ i = omega (arith, at.is) in
    let get : slice_get keys i ≡ Some at.entry = ap (λ n. slice_get keys n) (sym k) ∙ at.get in
    let same : key ≡ at.entry.0 = key_eq-same key at.entry.0 (sym (eq_by_key_cmp key at.entry.0) ∙ ap is_eq at.same) in
    remove-where keys i at.entry sorted get ∙ ap (λ key. (reaped (holding keys) key).keys) (sym same)

-- the first element that passes a test stands at the place i, counted from j
record IsFirstAt {X : Type 0} (test : X → Bool) (j : ℕ) (xs : List X) (i : ℕ) : Type 0 where
  k : ℕ
  is : j + k ≡ i
  x : X
  get : slice_get xs k ≡ Some x
  first : slice_get (filter test xs) 0 ≡ Some x

module _ {X : Type 0} (test : X → Bool) where
  first-at : (j : ℕ) (xs : List X) (i : ℕ) → position_from test j xs ≡ Some i → IsFirstAt test j xs i
  first-at j [] i h = cc
  first-at j (x ∷ xs) i h = by (test x) refl h (first-at (j + 1) xs i)
    where
      by : (b : Bool) → test x ≡ b → cond b (Some j) (position_from test (j + 1) xs) ≡ Some i → (position_from test (j + 1) xs ≡ Some i → IsFirstAt test (j + 1) xs i)
          → IsFirstAt test j (x ∷ xs) i
      by true t h rest =
          let is : j ≡ i = cc in
          record { k = 0; is = omega arith; x = x; get = refl; first = ap (λ b. slice_get (cond b (x ∷ filter test xs) (filter test xs)) 0) t }
      by false t h rest =
          let r = rest h in
          record { k = suc r.k; is = omega (arith, r.is); x = r.x; get = r.get; first = ap (λ b. slice_get (cond b (x ∷ filter test xs) (filter test xs)) 0) t ∙ r.first }

  none-at : (j : ℕ) (xs : List X) → position_from test j xs ≡ None → filter test xs ≡ []
  none-at j [] h = refl
  none-at j (x ∷ xs) h = by (test x) refl h (none-at (j + 1) xs)
    where
      by : (b : Bool) → test x ≡ b → cond b (Some j) (position_from test (j + 1) xs) ≡ None → (position_from test (j + 1) xs ≡ None → filter test xs ≡ [])
          → cond (test x) (x ∷ filter test xs) (filter test xs) ≡ []
      by true t h rest = cc
      by false t h rest = ap (λ b. cond b (x ∷ filter test xs) (filter test xs)) t ∙ rest h

-- the first dead key, by its place in a sorted list
pub record DeadAt (keys : Keys) (from : Option Key) (i : ℕ) : Type 0 where
  pub key : Key
  pub within : i < length keys
  pub first : first_dead (holding keys) from ≡ Some key
  pub left : remove keys i ≡ (reaped (holding keys) key).keys

module _ (keys : Keys) (sorted : is_sorted key_cmp keys ≡ true) (from : Option Key) where
  pub dead_at : (i : ℕ) → position_from (is_dead_from from) 0 keys ≡ Some i → DeadAt keys from i
  dead_at i h =
      let at = first-at (is_dead_from from) 0 keys i h in
      let k : at.k ≡ i = omega (arith, at.is) in
      let get : slice_get keys i ≡ Some at.x = ap (λ n. slice_get keys n) (sym k) ∙ at.get in
      record {
        key = at.x.0;
        within = slice_get_within keys i at.x get;
        first =
            ap (λ ks. slice_get ks 0) (dead_entries (holding keys) from sorted)
            ∙ slice_get-map (λ entry. entry.0) (filter (is_dead_from from) keys) 0
            ∙ ap (option_map (λ entry. entry.0)) at.first;
        left = remove-where keys i at.x sorted get;
      }

  pub none_dead : position_from (is_dead_from from) 0 keys ≡ None → first_dead (holding keys) from ≡ None
  none_dead h =
      ap (λ ks. slice_get ks 0) (dead_entries (holding keys) from sorted)
      ∙ ap (λ es. slice_get (map (λ (entry : Key × Stored Content). entry.0) es) 0) (none-at (is_dead_from from) 0 keys h)

  -- whether there is one
  pub has_dead_at : (o : Option ℕ) → position_from (is_dead_from from) 0 keys ≡ o → is_some o ≡ has_dead (holding keys) from
  has_dead_at None h = sym (ap is_some (none_dead h))
  has_dead_at (Some i) h = sym (ap is_some (dead_at i h).first)

  -- and the keys without it
  pub left_at : (i : ℕ) → position_from (is_dead_from from) 0 keys ≡ Some i → remove keys i ≡ (after_first_reap (holding keys) from).keys
  left_at i h =
      let at = dead_at i h in
      at.left ∙ sym (ap (λ (o : Option Key). (option_map_or (reaped (holding keys)) o (holding keys)).keys) at.first)

  pub left_none : position_from (is_dead_from from) 0 keys ≡ None → keys ≡ (after_first_reap (holding keys) from).keys
  left_none h = sym (ap (λ (o : Option Key). (option_map_or (reaped (holding keys)) o (holding keys)).keys) (none_dead h))

-- what is always true of a list holds after a key is taken away
pub list_left : (rows : Vec Row Global) (old : Keys) (key : Key) → map entry_of rows.items ≡ (reaped (holding old) key).keys
    → IsTrue (is_sorted key_cmp old) → IsList (record { rows = rows; room = None })
list_left rows old key is sorted = record {
  sorted = subst (λ es. IsTrue (is_sorted key_cmp es)) (sym is) (true_from _ (is_sorted-where_key key_cmp (λ other. not (eq_by_cmp key_cmp key other)) old (T_from_true _ sorted)));
  room = tt;
}

-- the place of the first dead key, as it was found in a slice of the rows
pub placed_dead : (items slice : List Row) (from : Option Key) (found o : Option ℕ) → slice ≡ items → found ≡ position_from (is_dead_from from) 0 (map entry_of slice) → found ≡ o
    → position_from (is_dead_from from) 0 (map entry_of items) ≡ o
placed_dead items slice from found o is at eq = ap (λ xs. position_from (is_dead_from from) 0 (map entry_of xs)) (sym is) ∙ sym at ∙ eq

-- What is found among the entries of a map of maps, and after a change of one inner map.
use Rattle.std.proofs.Common.{◌≡◌, ◌≢◌, ◌∙◌, refl, sym, ap, subst, List, [], ◌∷◌, ◌++◌, map, Bool, true, false, cond}
use Rattle.std.specs.Prelude.{Option, Some, None, Result, Ok, Err, OnOk, OnErr, IfSome, is_some}
use Rattle.std.specs.Option.{option_or}
use Rattle.std.specs.declared.cmp.Ordering.{Ordering}
use Rattle.std.specs.declared.cmp.Ordering.TheVariants.{Less, Equal, Greater}
use Rattle.std.specs.BTreeMap.{BTreeMap, is_at, WritesThrough, UpdatesBy}
use Rattle.std.specs.Cmp.{IsTotalOrder}
use Rattle.std.specs.List.{AllByRecursion}
use Rattle.std.specs.List.Sorted.{IsStrictlySortedBy}
use Rattle.std.specs.Map.{lookup, keys_of, set_value}
use Rattle.std.specs.Ordering.{is_eq, ordering_then}
use Rattle.std.proofs.lemmas.Cmp.{eq_by_cmp_equiv, tied_itself, on_total, then_total, nat_list_cmp_total}
use Rattle.std.proofs.lemmas.Map.{lookup-none}
use Rattle.std.proofs.lemmas.Map.Entries.{none_past_head}
use Rattle.std.proofs.lemmas.Map.Keys.{sorted_head, sorted_tail, IsDistinct-from_sorted}
use Rattle.riak_msgs.specs.KeyOrder.{key_cmp}
use Rattle.names.specs.Nested.{flatten, IsInnerMap, IsNested, key_entries, bucket_key, BucketKey, bytes_cmp, bucket_key_cmp, bucket_entries, key_of}
pub use Rattle.std.proofs.lemmas.List.{nil_from_length as empty_by_length}

-- an order of combined keys that goes by the outer, then by the inner ones
pub record IsLexicographic {A B C V M : Type 0} (entries_of : M → List (B × V)) (combine : A → B → C) (outer : A → A → Ordering) (inner : B → B → Ordering) (whole : C → C → Ordering) : Type 0 where
  pub ties : (a x : A) (b y : B) → whole (combine a b) (combine x y) ≡ ordering_then (outer a x) (inner b y)
  pub total : IsTotalOrder outer
  pub inner_total : IsTotalOrder inner

pub buckets_order : IsLexicographic key_entries bucket_key bytes_cmp bytes_cmp bucket_key_cmp
buckets_order = record { ties = λ a x b y. refl; total = nat_list_cmp_total; inner_total = nat_list_cmp_total }

pub types_order : IsLexicographic bucket_entries key_of bytes_cmp bucket_key_cmp key_cmp
types_order = record {
  ties = λ a x b y. refl;
  total = nat_list_cmp_total;
  inner_total = then_total (on_total (λ (p : BucketKey). p.0) nat_list_cmp_total) (on_total (λ (p : BucketKey). p.1) nat_list_cmp_total);
}

-- an option, or nothing
option_or-none : {V : Type 0} (o : Option V) → option_or o None ≡ o
option_or-none None = refl
option_or-none (Some v) = refl

lookup-append : {C V : Type 0} (test : C → Bool) (xs ys : List (C × V)) → lookup test (xs ++ ys) ≡ option_or (lookup test xs) (lookup test ys)
lookup-append test [] ys = refl
lookup-append test (x ∷ xs) ys = by (test x.0) (lookup-append test xs ys)
  where
    by : (b : Bool) → lookup test (xs ++ ys) ≡ option_or (lookup test xs) (lookup test ys)
        → cond b (Some x.1) (lookup test (xs ++ ys)) ≡ option_or (cond b (Some x.1) (lookup test xs)) (lookup test ys)
    by true h = refl
    by false h = h

lookup-nowhere : {B V : Type 0} (fs : List (B × V)) → lookup (λ (b : B). false) fs ≡ None
lookup-nowhere [] = refl
lookup-nowhere (f ∷ fs) = lookup-nowhere fs

pub some_not_none : {X A : Type 0} (x : X) → Some x ≡ None → A
some_not_none x h = cc

both_none : {V : Type 0} (b : Bool) → ◌≡◌ {A = Option V} None (cond b None None)
both_none true = refl
both_none false = refl

-- entries of which a test says that there are some
pub filled_unless : {X : Type 0} (b : Bool) (es : List X) → b ≡ false → (es ≡ [] → b ≡ true) → es ≢ []
filled_unless b es not_empty empty is = true_not_false (sym (empty is) ∙ not_empty)
  where
    true_not_false : true ≡ false → ⊥
    true_not_false h = cc

-- where something is found there is an entry
pub filled_by : {B V : Type 0} (test : B → Bool) (v : V) (es : List (B × V)) → lookup test es ≡ Some v → es ≢ []
filled_by test v [] found is = some_not_none v (sym found)
filled_by test v (e ∷ es) found is = cc

one_sorted : {B V : Type 0} (cmp : B → B → Ordering) (b : B) (v : V) → IsStrictlySortedBy cmp (keys_of ((b, v) ∷ []))
unfolding IsStrictlySortedBy
one_sorted cmp b v = (tt, tt)

module _ {A B C V M : Type 0} {entries_of : M → List (B × V)} {combine : A → B → C} {outer : A → A → Ordering} {inner : B → B → Ordering} {whole : C → C → Ordering}
    (order : IsLexicographic entries_of combine outer inner whole) where
  -- what an inner map has, if there is one
  abbrev pub in_inner : Option M → B → Option V
  in_inner None b = None
  in_inner (Some m) b = lookup (is_at (inner b)) (entries_of m)

  abbrev pub at : A → List (B × V) → List (C × V)
  at a fs = map {B = C × V} (λ (f : B × V). (combine a f.0, f.1)) fs

  lookup-at : (test : C → Bool) (a : A) (fs : List (B × V)) → lookup test (at a fs) ≡ lookup (λ (b : B). test (combine a b)) fs
  lookup-at test a [] = refl
  lookup-at test a (f ∷ fs) = ap (cond (test (combine a f.0)) (Some f.1)) (lookup-at test a fs)

  -- no entry after one that ties with a key does so
  past : (a : A) (e : A × M) (es : List (A × M)) → IsStrictlySortedBy outer (keys_of (e ∷ es)) → is_at (outer a) e.0 ≡ true → lookup (is_at (outer a)) es ≡ None
  past a e es sorted at_e =
      lookup-none (is_at (outer a)) es (none_past_head (eq_by_cmp_equiv order.total) a e es (IsDistinct-from_sorted outer (keys_of (e ∷ es)) sorted) at_e)

  -- a combined key is looked up in the inner map that the outer key finds
  pub lookup-flatten : (a : A) (b : B) (es : List (A × M)) → IsStrictlySortedBy outer (keys_of es)
      → lookup (is_at (whole (combine a b))) (flatten entries_of combine es) ≡ in_inner (lookup (is_at (outer a)) es) b
  lookup-flatten a b [] sorted = refl
  lookup-flatten a b (e ∷ es) sorted =
      lookup-append (is_at (whole (combine a b))) (at e.0 (entries_of e.1)) (flatten entries_of combine es)
      ∙ ap (λ o. option_or o (lookup (is_at (whole (combine a b))) (flatten entries_of combine es))) (lookup-at (is_at (whole (combine a b))) e.0 (entries_of e.1))
      ∙ ap (λ o. option_or (lookup (λ (y : B). is_eq (whole (combine a b) (combine e.0 y))) (entries_of e.1)) o) (lookup-flatten a b es (sorted_tail outer e.0 (keys_of es) sorted))
      ∙ (λ i. option_or (lookup (λ (y : B). is_eq (order.ties a e.0 b y i)) (entries_of e.1)) (in_inner (lookup (is_at (outer a)) es) b))
      ∙ by (outer a e.0) refl
    where
      apart : option_or (lookup (λ (y : B). false) (entries_of e.1)) (in_inner (lookup (is_at (outer a)) es) b) ≡ in_inner (lookup (is_at (outer a)) es) b
      apart = ap (λ o. option_or o (in_inner (lookup (is_at (outer a)) es) b)) (lookup-nowhere (entries_of e.1))

      by : (o : Ordering) → outer a e.0 ≡ o
          → option_or (lookup (λ (y : B). is_eq (ordering_then o (inner b y))) (entries_of e.1)) (in_inner (lookup (is_at (outer a)) es) b)
          ≡ in_inner (cond (is_eq o) (Some e.1) (lookup (is_at (outer a)) es)) b
      by Less is = apart
      by Equal is =
          ap (λ o. option_or (lookup (is_at (inner b)) (entries_of e.1)) (in_inner o b)) (past a e es sorted (ap is_eq is))
          ∙ option_or-none (lookup (is_at (inner b)) (entries_of e.1))
      by Greater is = apart

  -- the combined keys of one entry, below those of the others
  below_each : (a : A) (b : B) (fs : List (B × V)) (rest : List (C × V)) → AllByRecursion (λ y. inner b y ≡ Less) (keys_of fs)
      → AllByRecursion (λ k. whole (combine a b) k ≡ Less) (keys_of rest) → AllByRecursion (λ k. whole (combine a b) k ≡ Less) (keys_of (at a fs ++ rest))
  below_each a b [] rest here above = above
  below_each a b (f ∷ fs) rest here above =
      (order.ties a a b f.0 ∙ ap (λ o. ordering_then o (inner b f.0)) (tied_itself order.total a) ∙ here.0, below_each a b fs rest here.1 above)

  sorted_block : (a : A) (fs : List (B × V)) (rest : List (C × V)) → IsStrictlySortedBy inner (keys_of fs)
      → ((b : B) → AllByRecursion (λ k. whole (combine a b) k ≡ Less) (keys_of rest)) → IsStrictlySortedBy whole (keys_of rest)
      → IsStrictlySortedBy whole (keys_of (at a fs ++ rest))
  unfolding IsStrictlySortedBy
  sorted_block a [] rest here above sorted = sorted
  sorted_block a (f ∷ fs) rest here above sorted = (below_each a f.0 fs rest here.0 (above f.0), sorted_block a fs rest here.1 above sorted)

  -- a lower outer key goes before all keys of the entries
  above_block : (a x : A) (b : B) (fs : List (B × V)) (rest : List (C × V)) → outer a x ≡ Less → AllByRecursion (λ k. whole (combine a b) k ≡ Less) (keys_of rest)
      → AllByRecursion (λ k. whole (combine a b) k ≡ Less) (keys_of (at x fs ++ rest))
  above_block a x b [] rest less above = above
  above_block a x b (f ∷ fs) rest less above =
      (order.ties a x b f.0 ∙ ap (λ o. ordering_then o (inner b f.0)) less, above_block a x b fs rest less above)

  above_all : (a : A) (b : B) (es : List (A × M)) → AllByRecursion (λ x. outer a x ≡ Less) (keys_of es)
      → AllByRecursion (λ k. whole (combine a b) k ≡ Less) (keys_of (flatten entries_of combine es))
  above_all a b [] less = tt
  above_all a b (e ∷ es) less = above_block a e.0 b (entries_of e.1) (flatten entries_of combine es) less.0 (above_all a b es less.1)

  -- an entry of the others is found among all
  later : (P : M → Type 0) (e : A × M) (es : List (A × M)) → IsStrictlySortedBy outer (keys_of (e ∷ es))
      → ((a : A) (m : M) → lookup (is_at (outer a)) (e ∷ es) ≡ Some m → P m) → (a : A) (m : M) → lookup (is_at (outer a)) es ≡ Some m → P m
  later P e es sorted held a m is = held a m (by (is_at (outer a) e.0) refl)
    where
      by : (b : Bool) → is_at (outer a) e.0 ≡ b → cond b (Some e.1) (lookup (is_at (outer a)) es) ≡ Some m
      by true at_e = some_not_none m (sym is ∙ past a e es sorted at_e)
      by false at_e = is

  here : (e : A × M) (es : List (A × M)) → lookup (is_at (outer e.0)) (e ∷ es) ≡ Some e.1
  here e es = ap (λ o. cond (is_eq o) (Some e.1) (lookup (is_at (outer e.0)) es)) (tied_itself order.total e.0)

  sorted_flatten : (es : List (A × M)) → IsStrictlySortedBy outer (keys_of es) → ((a : A) (m : M) → lookup (is_at (outer a)) es ≡ Some m → IsInnerMap inner (entries_of m))
      → IsStrictlySortedBy whole (keys_of (flatten entries_of combine es))
  unfolding IsStrictlySortedBy
  sorted_flatten [] sorted held = tt
  sorted_flatten (e ∷ es) sorted held =
      sorted_block e.0 (entries_of e.1) (flatten entries_of combine es) (held e.0 e.1 (here e es)).ordered
      (λ b. above_all e.0 b es (sorted_head outer e.0 (keys_of es) sorted))
      (sorted_flatten es (sorted_tail outer e.0 (keys_of es) sorted) (later (λ m. IsInnerMap inner (entries_of m)) e es sorted held))

  -- all combined keys ascend
  pub nested_sorted : (es : List (A × M)) → IsNested entries_of outer inner es → IsStrictlySortedBy whole (keys_of (flatten entries_of combine es))
  nested_sorted es nested = sorted_flatten es nested.ordered nested.held

  -- what is found of a combined key, by what is found of the outer one
  pub found_in : (a : A) (b : B) (es : List (A × M)) → IsNested entries_of outer inner es → (o : Option M) → lookup (is_at (outer a)) es ≡ o
      → lookup (is_at (whole (combine a b))) (flatten entries_of combine es) ≡ in_inner o b
  found_in a b es nested o is = lookup-flatten a b es nested.ordered ∙ ap (λ o. in_inner o b) is

  -- without entries there is no outer key
  pub nested_empty : (es : List (A × M)) → IsNested entries_of outer inner es → flatten entries_of combine es ≡ [] → es ≡ []
  nested_empty [] nested empty = refl
  nested_empty (e ∷ es) nested empty = by (entries_of e.1) (nested.held e.0 e.1 (here e es)).filled empty
    where
      by : (fs : List (B × V)) → fs ≢ [] → at e.0 fs ++ flatten entries_of combine es ≡ [] → e ∷ es ≡ []
      by [] filled is = absurd (filled refl)
      by (f ∷ fs) filled is = cc

  -- ---- one outer key has another inner map, or none
  module _ (m n : List (A × M)) (a : A) (is : Option M)
      (set : (q : A) → lookup (is_at (outer q)) n ≡ cond (is_at (outer a) q) is (lookup (is_at (outer q)) m)) where
    pub nested_after : IsNested entries_of outer inner m → IsStrictlySortedBy outer (keys_of n) → IfSome is (λ i. IsInnerMap inner (entries_of i))
        → IsNested entries_of outer inner n
    nested_after nested sorted new = record { ordered = sorted; held = λ q i found. by (is_at (outer a) q) q i (sym (set q) ∙ found) }
      where
        by : (b : Bool) (q : A) (i : M) → cond b is (lookup (is_at (outer q)) m) ≡ Some i → IsInnerMap inner (entries_of i)
        by true q i found = subst (λ o. IfSome o (λ i. IsInnerMap inner (entries_of i))) found new
        by false q i found = nested.held q i found

    -- where at each inner key there is what was there, but at one
    pub found_after : IsNested entries_of outer inner m → IsStrictlySortedBy outer (keys_of n) → (b : B) (w : Option V)
        → ((k : B) → in_inner is k ≡ cond (is_at (inner b) k) w (in_inner (lookup (is_at (outer a)) m) k)) → (q : A) (k : B)
        → lookup (is_at (whole (combine q k))) (flatten entries_of combine n)
        ≡ cond (is_at (whole (combine a b)) (combine q k)) w (lookup (is_at (whole (combine q k))) (flatten entries_of combine m))
    found_after nested sorted b w changed q k =
        lookup-flatten q k n sorted ∙ ap (λ o. in_inner o k) (set q) ∙ by (outer a q) refl
        ∙ (λ i. cond (is_eq (sym (order.ties a q b k) i)) w (sym (lookup-flatten q k m nested.ordered) i))
      where
        by : (o : Ordering) → outer a q ≡ o
            → in_inner (cond (is_eq o) is (lookup (is_at (outer q)) m)) k ≡ cond (is_eq (ordering_then o (inner b k))) w (in_inner (lookup (is_at (outer q)) m) k)
        by Less at_q = refl
        by Equal at_q = changed k ∙ (λ i. cond (is_at (inner b) k) w (in_inner (lookup (λ (z : A). is_eq (order.total.congr a q z at_q i)) m) k))
        by Greater at_q = refl

  -- another inner map with the same entries in the place of one changes nothing
  pub flatten-same : (test : A → Bool) (es : List (A × M)) (was w : M) → lookup test es ≡ Some was → entries_of w ≡ entries_of was
      → flatten entries_of combine (set_value test es w) ≡ flatten entries_of combine es
  flatten-same test [] was w found same = refl
  flatten-same test (e ∷ es) was w found same = by (test e.0) found (flatten-same test es was w)
    where
      by : (b : Bool) → cond b (Some e.1) (lookup test es) ≡ Some was
          → (lookup test es ≡ Some was → entries_of w ≡ entries_of was → flatten entries_of combine (set_value test es w) ≡ flatten entries_of combine es)
          → flatten entries_of combine (cond b ((e.0, w) ∷ es) (e ∷ set_value test es w)) ≡ flatten entries_of combine (e ∷ es)
      by true found rest =
          let one : e.1 ≡ was = cc in
          ap (λ fs. at e.0 fs ++ flatten entries_of combine es) (same ∙ ap entries_of (sym one))
      by false found rest = ap (λ es. at e.0 (entries_of e.1) ++ es) (rest found same)

  -- an inner map after an insert that may be refused has a key
  pub filled_insert : {T E : Type 0} (r : Result T E) (old new : List (B × V)) (b : B) (v : V)
      → OnOk r ((k : B) → lookup (is_at (inner k)) new ≡ cond (is_at (inner b) k) (Some v) (lookup (is_at (inner k)) old)) → OnErr r (new ≡ old)
      → old ≢ [] → new ≢ []
  filled_insert (Ok x) old new b v ok err filled =
      filled_by (is_at (inner b)) v new (ok b ∙ ap (λ o. cond (is_eq o) (Some v) (lookup (is_at (inner b)) old)) (tied_itself order.inner_total b))
  filled_insert (Err e) old new b v ok err filled = λ is. filled (sym err ∙ is)

  -- ---- an inner map that was written through what `get_mut` lent
  module _ (m n : BTreeMap A M) (a : A) (was w : M) (is : lookup (is_at (outer a)) m.entries ≡ Some was) (wrote : WritesThrough outer (outer a) m w n) where
    written : (q : A) → lookup (is_at (outer q)) n.entries ≡ cond (is_at (outer a) q) (Some w) (lookup (is_at (outer q)) m.entries)
    written = (wrote.3 (ap is_some is)).0

    pub nested_written : IsNested entries_of outer inner m.entries → IsInnerMap inner (entries_of w) → IsNested entries_of outer inner n.entries
    nested_written nested new = nested_after m.entries n.entries a (Some w) written nested wrote.4 new

    pub found_written : IsNested entries_of outer inner m.entries → (b : B) (v : Option V)
        → ((k : B) → lookup (is_at (inner k)) (entries_of w) ≡ cond (is_at (inner b) k) v (lookup (is_at (inner k)) (entries_of was))) → (q : A) (k : B)
        → lookup (is_at (whole (combine q k))) (flatten entries_of combine n.entries)
        ≡ cond (is_at (whole (combine a b)) (combine q k)) v (lookup (is_at (whole (combine q k))) (flatten entries_of combine m.entries))
    found_written nested b v changed =
        found_after m.entries n.entries a (Some w) written nested wrote.4 b v
        (λ k. changed k ∙ (λ i. cond (is_at (inner b) k) v (in_inner (sym is i) k)))

    pub same_written : entries_of w ≡ entries_of was → flatten entries_of combine n.entries ≡ flatten entries_of combine m.entries
    same_written same = ap (flatten entries_of combine) wrote.0 ∙ flatten-same (is_at (outer a)) m.entries was w is same

  -- ---- an inner map that is left without keys, and removed
  module _ (m n left : BTreeMap A M) (a : A) (was w : M) (is : lookup (is_at (outer a)) m.entries ≡ Some was) (wrote : WritesThrough outer (outer a) m w n)
      (removed : UpdatesBy outer (outer a) n left None) (sorted : IsStrictlySortedBy outer (keys_of left.entries)) where
    emptied : (q : A) → lookup (is_at (outer q)) left.entries ≡ cond (is_at (outer a) q) None (lookup (is_at (outer q)) m.entries)
    emptied q = removed.0 q ∙ ap (cond (is_at (outer a) q) None) (written m n a was w is wrote q) ∙ by (is_at (outer a) q)
      where
        by : (b : Bool) → cond b None (cond b (Some w) (lookup (is_at (outer q)) m.entries)) ≡ cond b None (lookup (is_at (outer q)) m.entries)
        by true = refl
        by false = refl

    pub nested_emptied : IsNested entries_of outer inner m.entries → IsNested entries_of outer inner left.entries
    nested_emptied nested = nested_after m.entries left.entries a None emptied nested sorted tt

    pub found_emptied : IsNested entries_of outer inner m.entries → entries_of w ≡ [] → (b : B)
        → ((k : B) → lookup (is_at (inner k)) (entries_of w) ≡ cond (is_at (inner b) k) None (lookup (is_at (inner k)) (entries_of was))) → (q : A) (k : B)
        → lookup (is_at (whole (combine q k))) (flatten entries_of combine left.entries)
        ≡ cond (is_at (whole (combine a b)) (combine q k)) None (lookup (is_at (whole (combine q k))) (flatten entries_of combine m.entries))
    found_emptied nested empty b changed =
        found_after m.entries left.entries a None emptied nested sorted b None
        (λ k. ap (λ es. lookup (is_at (inner k)) es) (sym empty) ∙ changed k ∙ (λ i. cond (is_at (inner b) k) None (in_inner (sym is i) k)))

  -- ---- no inner map, and so no key
  pub found_absent : (m : List (A × M)) → IsNested entries_of outer inner m → (a : A) → lookup (is_at (outer a)) m ≡ None → (b : B) (q : A) (k : B)
      → lookup (is_at (whole (combine q k))) (flatten entries_of combine m)
      ≡ cond (is_at (whole (combine a b)) (combine q k)) None (lookup (is_at (whole (combine q k))) (flatten entries_of combine m))
  found_absent m nested a absent b =
      found_after m m a None (λ q. by q (outer a q) refl) nested nested.ordered b None
      (λ k. both_none (is_at (inner b) k) ∙ (λ i. cond (is_at (inner b) k) None (in_inner (sym absent i) k)))
    where
      by : (q : A) (o : Ordering) → outer a q ≡ o → lookup (is_at (outer q)) m ≡ cond (is_eq o) None (lookup (is_at (outer q)) m)
      by q Less at_q = refl
      by q Equal at_q = (λ i. lookup (λ (z : A). is_eq (sym (order.total.congr a q z at_q) i)) m) ∙ absent
      by q Greater at_q = refl

  -- ---- a new inner map with one key
  module _ (m held n : BTreeMap A M) (a own : A) (w : M) (b : B) (v : V) (same : held ≡ m) (copied : own ≡ a) (one : entries_of w ≡ (b, v) ∷ [])
      (added : UpdatesBy outer (outer own) held n (Some w)) (sorted : IsStrictlySortedBy outer (keys_of n.entries)) where
    add : (q : A) → lookup (is_at (outer q)) n.entries ≡ cond (is_at (outer a) q) (Some w) (lookup (is_at (outer q)) m.entries)
    add q = added.0 q ∙ (λ i. cond (is_at (outer (copied i)) q) (Some w) (lookup (is_at (outer q)) (same i).entries))

    pub nested_added : IsNested entries_of outer inner m.entries → IsNested entries_of outer inner n.entries
    nested_added nested =
        nested_after m.entries n.entries a (Some w) add nested sorted
        (subst (IsInnerMap inner) (sym one) (record { ordered = one_sorted inner b v; filled = λ is. cc }))

    pub found_added : IsNested entries_of outer inner m.entries → lookup (is_at (outer a)) m.entries ≡ None → (q : A) (k : B)
        → lookup (is_at (whole (combine q k))) (flatten entries_of combine n.entries)
        ≡ cond (is_at (whole (combine a b)) (combine q k)) (Some v) (lookup (is_at (whole (combine q k))) (flatten entries_of combine m.entries))
    found_added nested absent =
        found_after m.entries n.entries a (Some w) add nested sorted b (Some v)
        (λ k. ap (λ es. lookup (is_at (inner k)) es) one ∙ (λ i. cond ((eq_by_cmp_equiv order.inner_total).symm k b i) (Some v) (in_inner (sym absent i) k)))

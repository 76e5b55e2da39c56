-- What is found and put at the place of a key.
use Rattle.std.proofs.Common.{◌≡◌, ℕ, suc, ◌+◌, ◌≤◌, cond, List, [], ◌∷◌, length, refl, ◌∙◌, ap, arith, set}
use Rattle.std.specs.Prelude.{Some, None, slice_get, insert, IsTrue}
use Rattle.std.specs.declared.cmp.Ordering.{Ordering}
use Rattle.std.specs.declared.cmp.Ordering.TheVariants.{Less, Equal, Greater}
use Rattle.std.specs.Ordering.{is_eq}
use Rattle.std.specs.FinMap.Entries.{by_order, find, put, is_sorted, below_all}
use Rattle.riak_msgs.specs.declared.Key.{Key}
use Rattle.riak_msgs.specs.KeyOrder.{key_cmp}
use Rattle.vnode_machine.proofs.Keys.{key_cmp_total}
use Rattle.vnode_machine.proofs.Seen.{less}
use Rattle.vnode_machine.proofs.Tests.{and_left, and_right}
use Rattle.clock_list.specs.declared.place.Place.TheVariants.{At, New}
use Rattle.clock_list.specs.Places.{place_from}

-- the key stands at the place j, counted from i
pub record StandsAt {X : Type 0} (i : ℕ) (key : Key) (es : List (Key × X)) (j : ℕ) : Type 0 where
  pub k : ℕ
  pub is : i + k ≡ j
  pub entry : Key × X
  pub get : slice_get es k ≡ Some entry
  pub same : key_cmp key entry.0 ≡ Equal
  pub find : find key_cmp key es ≡ Some entry.1
  pub put : (v : X) → put key_cmp key v es ≡ set es k (entry.0, v)

-- the key would be put in at the place j, counted from i
pub record IsMissingAt {X : Type 0} (i : ℕ) (key : Key) (es : List (Key × X)) (j : ℕ) : Type 0 where
  pub k : ℕ
  pub is : i + k ≡ j
  pub within : k ≤ length es
  pub find : find key_cmp key es ≡ None
  pub put : (v : X) → put key_cmp key v es ≡ insert es k (key, v)

module _ {X : Type 0} where
  pub at_place : (i : ℕ) (key : Key) (es : List (Key × X)) (j : ℕ) → place_from i key es ≡ At j → StandsAt i key es j
  at_place i key [] j h = cc
  at_place i key (e ∷ es) j h = by (key_cmp key e.0) refl h (at_place (i + 1) key es j)
    where
      by : (o : Ordering) → key_cmp key e.0 ≡ o → by_order o (New i) (At i) (place_from (i + 1) key es) ≡ At j
          → (place_from (i + 1) key es ≡ At j → StandsAt (i + 1) key es j) → StandsAt i key (e ∷ es) j
      by Less p h rest = cc
      by Equal p h rest =
          let is : i ≡ j = cc in
          record {
            k = 0;
            is = omega arith;
            entry = e;
            get = refl;
            same = p;
            find = ap (λ o. cond (is_eq o) (Some e.1) (find key_cmp key es)) p;
            put = λ v. ap (λ o. by_order o ((key, v) ∷ e ∷ es) ((e.0, v) ∷ es) (e ∷ put key_cmp key v es)) p;
          }
      by Greater p h rest =
          let r = rest h in
          record {
            k = suc r.k;
            is = omega (arith, r.is);
            entry = r.entry;
            get = r.get;
            same = r.same;
            find = ap (λ o. cond (is_eq o) (Some e.1) (find key_cmp key es)) p ∙ r.find;
            put = λ v. ap (λ o. by_order o ((key, v) ∷ e ∷ es) ((e.0, v) ∷ es) (e ∷ put key_cmp key v es)) p ∙ ap (λ xs. e ∷ xs) (r.put v);
          }

  -- a key below the first of a sorted list is not found in it
  not_below : (key first : Key) (es : List (Key × X)) → key_cmp key first ≡ Less → IsTrue (below_all key_cmp first es) → find key_cmp key es ≡ None
  not_below key first [] p h = refl
  not_below key first (e ∷ es) p h =
      ap (λ o. cond (is_eq o) (Some e.1) (find key_cmp key es)) (key_cmp_total.trans key first e.0 p (less _ (and_left _ _ h)))
      ∙ not_below key first es p (and_right _ _ h)

  pub new_place : (i : ℕ) (key : Key) (es : List (Key × X)) (j : ℕ) → IsTrue (is_sorted key_cmp es) → place_from i key es ≡ New j → IsMissingAt i key es j
  new_place i key [] j sorted h =
      let is : i ≡ j = cc in
      record { k = 0; is = omega arith; within = omega arith; find = refl; put = λ v. refl }
  new_place i key (e ∷ es) j sorted h = by (key_cmp key e.0) refl h (new_place (i + 1) key es j (and_right _ _ sorted))
    where
      by : (o : Ordering) → key_cmp key e.0 ≡ o → by_order o (New i) (At i) (place_from (i + 1) key es) ≡ New j
          → (place_from (i + 1) key es ≡ New j → IsMissingAt (i + 1) key es j) → IsMissingAt i key (e ∷ es) j
      by Less p h rest =
          let is : i ≡ j = cc in
          record {
            k = 0;
            is = omega arith;
            within = omega arith;
            find = ap (λ o. cond (is_eq o) (Some e.1) (find key_cmp key es)) p ∙ not_below key e.0 es p (and_left _ _ sorted);
            put = λ v. ap (λ o. by_order o ((key, v) ∷ e ∷ es) ((e.0, v) ∷ es) (e ∷ put key_cmp key v es)) p;
          }
      by Equal p h rest = cc
      by Greater p h rest =
          let r = rest h in
          record {
            k = suc r.k;
            is = omega (arith, r.is);
            within = omega (arith, r.within);
            find = ap (λ o. cond (is_eq o) (Some e.1) (find key_cmp key es)) p ∙ r.find;
            put = λ v. ap (λ o. by_order o ((key, v) ∷ e ∷ es) ((e.0, v) ∷ es) (e ∷ put key_cmp key v es)) p ∙ ap (λ xs. e ∷ xs) (r.put v);
          }

-- What is found in two lists of entries that are merged, and what is next.
use Rattle.std.proofs.Common.{◌≡◌, ◌∙◌, refl, sym, ap, List, [], ◌∷◌, Bool, true, false, cond}
use Rattle.std.specs.Prelude.{Option, Some, None, filter, slice_get}
use Rattle.std.specs.Option.{option_or}
use Rattle.std.specs.declared.cmp.Ordering.{Ordering}
use Rattle.std.specs.declared.cmp.Ordering.TheVariants.{Less, Equal, Greater}
use Rattle.std.specs.BTreeMap.{is_at, insert_entry}
use Rattle.std.specs.Cmp.{IsTotalOrder}
use Rattle.std.specs.List.{AllByRecursion}
use Rattle.std.specs.List.Sorted.{IsStrictlySortedBy}
use Rattle.std.specs.Map.{lookup, keys_of}
use Rattle.std.specs.Ordering.{is_eq, ordering_reverse, match_ordering}
use Rattle.std.proofs.lemmas.Cmp.{alike_right}
use Rattle.names.specs.Merged.{merged, AreApart}

some_not_none : {X A : Type 0} (x : X) → Some x ≡ None → A
some_not_none x h = cc

true_not_false : {A : Type 0} → true ≡ false → A
true_not_false h = cc

pub or_none : {V : Type 0} (o : Option V) → option_or o None ≡ o
or_none None = refl
or_none (Some x) = refl

module _ {K : Type 0} {cmp : K → K → Ordering} (total : IsTotalOrder cmp) where
  turned : (k a : K) → cmp k a ≡ Greater → cmp a k ≡ Less
  turned k a more = total.antisymm a k ∙ ap ordering_reverse more

  unlike : (is_first : K → Bool) (same : (k q : K) → cmp k q ≡ Equal → is_first k ≡ is_first q) (k q : K) (b : Bool) → is_first k ≡ b → is_first q ≡ cond b false true → is_at (cmp k) q ≡ false
  unlike is_first same k q b is is' = by (cmp k q) refl
    where
      no : (b : Bool) → b ≡ cond b false true → is_eq Equal ≡ false
      no true h = h
      no false h = sym h

      by : (o : Ordering) → cmp k q ≡ o → is_eq o ≡ false
      by Less at = refl
      by Greater at = refl
      by Equal at = no b (sym is ∙ same k q at ∙ is')

module _ {K X : Type 0} {cmp : K → K → Ordering} (total : IsTotalOrder cmp) where
  lookup-insert : (q k : K) (v : X) (es : List (K × X)) → lookup (is_at (cmp q)) (insert_entry cmp es k v) ≡ cond (is_at (cmp q) k) (Some v) (lookup (is_at (cmp q)) es)
  lookup-insert q k v [] = refl
  lookup-insert q k v (e ∷ es) = by (cmp k e.0) refl (lookup-insert q k v es)
    where
      both : (b c : Bool) (r : Option X) → (b ≡ true → c ≡ false) → cond b (Some e.1) (cond c (Some v) r) ≡ cond c (Some v) (cond b (Some e.1) r)
      both true true r apart = true_not_false (apart refl)
      both true false r apart = refl
      both false true r apart = refl
      both false false r apart = refl

      twice : (b : Bool) (r : Option X) → cond b (Some v) r ≡ cond b (Some v) (cond b (Some e.1) r)
      twice true r = refl
      twice false r = refl

      apart : (o p : Ordering) → cmp k e.0 ≡ Greater → cmp q e.0 ≡ o → cmp q k ≡ p → is_eq o ≡ true → is_eq p ≡ false
      apart Less p more is is' at = true_not_false (sym at)
      apart Greater p more is is' at = true_not_false (sym at)
      apart Equal Less more is is' at = refl
      apart Equal Greater more is is' at = refl
      apart Equal Equal more is is' at =
          let one : Greater ≡ Equal = sym more ∙ sym (total.congr q k e.0 is') ∙ is in cc

      by : (o : Ordering) → cmp k e.0 ≡ o
          → lookup (is_at (cmp q)) (insert_entry cmp es k v) ≡ cond (is_at (cmp q) k) (Some v) (lookup (is_at (cmp q)) es)
          → lookup (is_at (cmp q)) (match_ordering o ((k, v) ∷ e ∷ es) ((e.0, v) ∷ es) (e ∷ insert_entry cmp es k v))
          ≡ cond (is_at (cmp q) k) (Some v) (lookup (is_at (cmp q)) (e ∷ es))
      by Less is rest = refl
      by Equal is rest =
          twice (is_at (cmp q) e.0) (lookup (is_at (cmp q)) es)
          ∙ ap (λ (o : Ordering). cond (is_eq o) (Some v) (lookup (is_at (cmp q)) (e ∷ es))) (sym (alike_right total k e.0 q is))
      by Greater is rest =
          ap (cond (is_at (cmp q) e.0) (Some e.1)) rest
          ∙ both (is_at (cmp q) e.0) (is_at (cmp q) k) (lookup (is_at (cmp q)) es) (apart (cmp q e.0) (cmp q k) is refl refl)

  below_also : (a k : K) (es : List (K × X)) → cmp a k ≡ Less → AllByRecursion (λ y. cmp k y ≡ Less) (keys_of es) → AllByRecursion (λ y. cmp a y ≡ Less) (keys_of es)
  below_also a k [] less all = tt
  below_also a k (e ∷ es) less all = (total.trans a k e.0 less all.0, below_also a k es less all.1)

  above-insert : (a k : K) (v : X) (es : List (K × X)) → cmp a k ≡ Less → AllByRecursion (λ y. cmp a y ≡ Less) (keys_of es)
      → AllByRecursion (λ y. cmp a y ≡ Less) (keys_of (insert_entry cmp es k v))
  above-insert a k v [] less all = (less, tt)
  above-insert a k v (e ∷ es) less all = by (cmp k e.0) (above-insert a k v es less all.1)
    where
      by : (o : Ordering) → AllByRecursion (λ y. cmp a y ≡ Less) (keys_of (insert_entry cmp es k v))
          → AllByRecursion (λ y. cmp a y ≡ Less) (keys_of (match_ordering o ((k, v) ∷ e ∷ es) ((e.0, v) ∷ es) (e ∷ insert_entry cmp es k v)))
      by Less rest = (less, all)
      by Equal rest = all
      by Greater rest = (all.0, rest)

  sorted-insert : (k : K) (v : X) (es : List (K × X)) → IsStrictlySortedBy cmp (keys_of es) → IsStrictlySortedBy cmp (keys_of (insert_entry cmp es k v))
  unfolding IsStrictlySortedBy
  sorted-insert k v [] sorted = (tt, tt)
  sorted-insert k v (e ∷ es) sorted = by (cmp k e.0) refl (sorted-insert k v es sorted.1)
    where
      by : (o : Ordering) → cmp k e.0 ≡ o → IsStrictlySortedBy cmp (keys_of (insert_entry cmp es k v))
          → IsStrictlySortedBy cmp (keys_of (match_ordering o ((k, v) ∷ e ∷ es) ((e.0, v) ∷ es) (e ∷ insert_entry cmp es k v)))
      by Less is rest = ((is, below_also k e.0 es is sorted.0), sorted)
      by Equal is rest = sorted
      by Greater is rest = (above-insert e.0 k v es (turned total k e.0 is) sorted.0, rest)

  pub lookup-merged : (q : K) (xs ys : List (K × X)) → lookup (is_at (cmp q)) (merged cmp xs ys) ≡ option_or (lookup (is_at (cmp q)) ys) (lookup (is_at (cmp q)) xs)
  lookup-merged q xs [] = refl
  lookup-merged q xs (y ∷ ys) =
      lookup-insert q y.0 y.1 (merged cmp xs ys) ∙ ap (cond (is_at (cmp q) y.0) (Some y.1)) (lookup-merged q xs ys) ∙ by (is_at (cmp q) y.0)
    where
      by : (b : Bool) → cond b (Some y.1) (option_or (lookup (is_at (cmp q)) ys) (lookup (is_at (cmp q)) xs)) ≡ option_or (cond b (Some y.1) (lookup (is_at (cmp q)) ys)) (lookup (is_at (cmp q)) xs)
      by true = refl
      by false = refl

  pub merged_sorted : (xs ys : List (K × X)) → IsStrictlySortedBy cmp (keys_of xs) → IsStrictlySortedBy cmp (keys_of (merged cmp xs ys))
  merged_sorted xs [] sorted = sorted
  merged_sorted xs (y ∷ ys) sorted = sorted-insert y.0 y.1 (merged cmp xs ys) (merged_sorted xs ys sorted)

  module _ (is_first : K → Bool) (same : (k q : K) → cmp k q ≡ Equal → is_first k ≡ is_first q) where
    -- a key is found in the list that has its like
    pub found_first : (xs ys : List (K × X)) → AreApart cmp is_first xs ys → (q : K) → is_first q ≡ true → lookup (is_at (cmp q)) (merged cmp xs ys) ≡ lookup (is_at (cmp q)) xs
    found_first xs ys apart q is = lookup-merged q xs ys ∙ ap (λ o. option_or o (lookup (is_at (cmp q)) xs)) (apart.not_second q is)

    pub found_second : (xs ys : List (K × X)) → AreApart cmp is_first xs ys → (q : K) → is_first q ≡ false → lookup (is_at (cmp q)) (merged cmp xs ys) ≡ lookup (is_at (cmp q)) ys
    found_second xs ys apart q is =
        lookup-merged q xs ys ∙ ap (option_or (lookup (is_at (cmp q)) ys)) (apart.not_first q is) ∙ or_none (lookup (is_at (cmp q)) ys)

    -- one list has another value at a key, or none there, and so the two have
    module _ (xs ys zs : List (K × X)) (k : K) (w : Option X) (apart : AreApart cmp is_first xs ys) (sorted : IsStrictlySortedBy cmp (keys_of zs)) where
      pub apart_first : is_first k ≡ true → ((q : K) → lookup (is_at (cmp q)) zs ≡ cond (is_at (cmp k) q) w (lookup (is_at (cmp q)) xs)) → AreApart cmp is_first zs ys
      apart_first is set =
          record {
            first_ordered = sorted;
            second_ordered = apart.second_ordered;
            not_first = λ q not. set q ∙ ap (λ b. cond b w (lookup (is_at (cmp q)) xs)) (unlike total is_first same k q true is not) ∙ apart.not_first q not;
            not_second = apart.not_second;
          }

      pub set_first : is_first k ≡ true → ((q : K) → lookup (is_at (cmp q)) zs ≡ cond (is_at (cmp k) q) w (lookup (is_at (cmp q)) xs)) → (q : K)
          → lookup (is_at (cmp q)) (merged cmp zs ys) ≡ cond (is_at (cmp k) q) w (lookup (is_at (cmp q)) (merged cmp xs ys))
      set_first is set q = by (is_first q) refl
        where
          by : (b : Bool) → is_first q ≡ b → lookup (is_at (cmp q)) (merged cmp zs ys) ≡ cond (is_at (cmp k) q) w (lookup (is_at (cmp q)) (merged cmp xs ys))
          by true at = found_first zs ys (apart_first is set) q at ∙ set q ∙ ap (cond (is_at (cmp k) q) w) (sym (found_first xs ys apart q at))
          by false at =
              found_second zs ys (apart_first is set) q at ∙ sym (found_second xs ys apart q at)
              ∙ ap (λ b. cond b w (lookup (is_at (cmp q)) (merged cmp xs ys))) (sym (unlike total is_first same k q true is at))

      pub apart_second : is_first k ≡ false → ((q : K) → lookup (is_at (cmp q)) zs ≡ cond (is_at (cmp k) q) w (lookup (is_at (cmp q)) ys)) → AreApart cmp is_first xs zs
      apart_second is set =
          record {
            first_ordered = apart.first_ordered;
            second_ordered = sorted;
            not_first = apart.not_first;
            not_second = λ q not. set q ∙ ap (λ b. cond b w (lookup (is_at (cmp q)) ys)) (unlike total is_first same k q false is not) ∙ apart.not_second q not;
          }

      pub set_second : is_first k ≡ false → ((q : K) → lookup (is_at (cmp q)) zs ≡ cond (is_at (cmp k) q) w (lookup (is_at (cmp q)) ys)) → (q : K)
          → lookup (is_at (cmp q)) (merged cmp xs zs) ≡ cond (is_at (cmp k) q) w (lookup (is_at (cmp q)) (merged cmp xs ys))
      set_second is set q = by (is_first q) refl
        where
          by : (b : Bool) → is_first q ≡ b → lookup (is_at (cmp q)) (merged cmp xs zs) ≡ cond (is_at (cmp k) q) w (lookup (is_at (cmp q)) (merged cmp xs ys))
          by false at = found_second xs zs (apart_second is set) q at ∙ set q ∙ ap (cond (is_at (cmp k) q) w) (sym (found_second xs ys apart q at))
          by true at =
              found_first xs zs (apart_second is set) q at ∙ sym (found_first xs ys apart q at)
              ∙ ap (λ b. cond b w (lookup (is_at (cmp q)) (merged cmp xs ys))) (sym (unlike total is_first same k q false is at))

  insert_is_some : (k : K) (v : X) (es : List (K × X)) → insert_entry cmp es k v ≡ [] → ⊥
  insert_is_some k v [] is = cc
  insert_is_some k v (e ∷ es) is = by (cmp k e.0) is
    where
      by : (o : Ordering) → match_ordering o ((k, v) ∷ e ∷ es) ((e.0, v) ∷ es) (e ∷ insert_entry cmp es k v) ≡ [] → ⊥
      by Less is = cc
      by Equal is = cc
      by Greater is = cc

  -- there is no entry where neither has one
  pub merged_empty : (xs ys : List (K × X)) → merged cmp xs ys ≡ [] → (xs ≡ []) × (ys ≡ [])
  merged_empty xs [] is = (is, refl)
  merged_empty xs (y ∷ ys) is = absurd (insert_is_some y.0 y.1 (merged cmp xs ys) is)

-- the first of those that pass a test passes it
pub first_passes : {X : Type 0} (p : X → Bool) (xs : List X) (x : X) → slice_get (filter p xs) 0 ≡ Some x → p x ≡ true
first_passes p [] x h = some_not_none x (sym h)
first_passes p (y ∷ ys) x h = by (p y) refl h (first_passes p ys x)
  where
    by : (b : Bool) → p y ≡ b → slice_get (cond b (y ∷ filter p ys) (filter p ys)) 0 ≡ Some x → (slice_get (filter p ys) 0 ≡ Some x → p x ≡ true) → p x ≡ true
    by true is h rest = let same : y ≡ x = cc in ap p (sym same) ∙ is
    by false is h rest = rest h

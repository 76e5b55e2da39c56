-- The next entry of two lists that are merged is the lesser of the next of each.
use Rattle.std.proofs.Common.{◌≡◌, ◌∙◌, refl, sym, ap, subst, ℕ, List, [], ◌∷◌, Bool, true, false, cond, take}
use Rattle.std.specs.Prelude.{Option, Some, None, slice_get, not}
use Rattle.std.specs.declared.cmp.Ordering.{Ordering}
use Rattle.std.specs.declared.cmp.Ordering.TheVariants.{Less, Equal, Greater}
use Rattle.std.specs.BTreeMap.{is_at, insert_entry}
use Rattle.std.specs.Cmp.{IsTotalOrder}
use Rattle.std.specs.List.{AllByRecursion}
use Rattle.std.specs.List.Sorted.{IsStrictlySortedBy}
use Rattle.std.specs.Map.{lookup, keys_of}
use Rattle.std.specs.Option.{option_or}
use Rattle.std.specs.Ordering.{is_eq, is_lt, match_ordering, ordering_reverse}
use Rattle.std.proofs.lemmas.Cmp.{tied_itself, tied_back}
use Rattle.std.proofs.lemmas.Map.Keys.{sorted_head, sorted_tail}
use Rattle.names.specs.Merged.{merged, AreApart}
use Rattle.names.proofs.Merged.{lookup-merged, merged_sorted}
use Rattle.std.specs.Option.{option_map}
use Rattle.std.specs.Borrow.{Bor}
use Rattle.names.specs.ShortNames.{is_short}
use Rattle.names.proofs.Words.{behind_prefix, short_fits}
use Rattle.names.specs.Nested.{bytes_cmp}
use Rattle.names.specs.Behind.{is_behind, entries_behind, next_entry, lower}

some_not_none : {X A : Type 0} (x : X) → Some x ≡ None → A
some_not_none x h = cc

less_by : (o : Ordering) → is_lt o ≡ true → o ≡ Less
less_by Less h = refl
less_by Equal h = cc
less_by Greater h = cc

also : {K : Type 0} {cmp : K → K → Ordering} → IsTotalOrder cmp → (after : Option K) (k : K) → is_behind cmp after k ≡ true → (y : K) → cmp k y ≡ Less → is_behind cmp after y ≡ true
also total None k here y less = refl
also {cmp = cmp} total (Some a) k here y less = ap is_lt (total.trans a k y (less_by (cmp a k) here) less)

-- the entry with the lesser key, where each may be missing
abbrev pub lesser : {K X : Type 0} → (K → K → Ordering) → Option (K × X) → Option (K × X) → Option (K × X)
lesser cmp None b = b
lesser cmp (Some a) None = Some a
lesser cmp (Some a) (Some b) = cond (is_lt (cmp a.0 b.0)) (Some a) (Some b)

lesser-none : {K X : Type 0} (cmp : K → K → Ordering) (a : Option (K × X)) → lesser cmp a None ≡ a
lesser-none cmp None = refl
lesser-none cmp (Some a) = refl

module _ {K X : Type 0} {cmp : K → K → Ordering} (total : IsTotalOrder cmp) (after : Option K) where
  abbrev one : K × X → Option (K × X)
  one e = cond (is_behind cmp after e.0) (Some e) None

  next-cons : (e : K × X) (es : List (K × X)) → next_entry cmp after (e ∷ es) ≡ cond (is_behind cmp after e.0) (Some e) (next_entry cmp after es)
  next-cons e es = by (is_behind cmp after e.0)
    where
      by : (b : Bool) → slice_get (cond b (e ∷ entries_behind cmp after es) (entries_behind cmp after es)) 0 ≡ cond b (Some e) (next_entry cmp after es)
      by true = refl
      by false = refl

  -- a list with one entry more, whose key it doesn't have
  next-insert : (k : K) (v : X) (es : List (K × X)) → IsStrictlySortedBy cmp (keys_of es) → lookup (is_at (cmp k)) es ≡ None
      → next_entry cmp after (insert_entry cmp es k v) ≡ lesser cmp (one (k, v)) (next_entry cmp after es)
  next-insert k v [] sorted absent = next-cons (k, v) [] ∙ sym (lesser-none cmp (one (k, v)))
  next-insert k v (e ∷ es) sorted absent = by (cmp k e.0) refl absent (next-insert k v es (sorted_tail cmp e.0 (keys_of es) sorted))
    where
      low : cmp k e.0 ≡ Less → (b : Bool) → is_behind cmp after k ≡ b → cond b (Some (k, v)) (next_entry cmp after (e ∷ es)) ≡ lesser cmp (cond b (Some (k, v)) None) (next_entry cmp after (e ∷ es))
      low is true here =
          sym (ap (lesser cmp (Some (k, v))) (next-cons e es ∙ ap (λ b. cond b (Some e) (next_entry cmp after es)) (also total after k here e.0 is))
          ∙ ap (λ o. cond (is_lt o) (Some (k, v)) (Some e)) is)
      low is false here = refl

      high : cmp k e.0 ≡ Greater → (b c : Bool) → cond b (Some e) (lesser cmp (cond c (Some (k, v)) None) (next_entry cmp after es)) ≡ lesser cmp (cond c (Some (k, v)) None) (cond b (Some e) (next_entry cmp after es))
      high is false c = refl
      high is true false = refl
      high is true true = sym (ap (λ o. cond (is_lt o) (Some (k, v)) (Some e)) is)

      by : (o : Ordering) → cmp k e.0 ≡ o → cond (is_eq o) (Some e.1) (lookup (is_at (cmp k)) es) ≡ None
          → (lookup (is_at (cmp k)) es ≡ None → next_entry cmp after (insert_entry cmp es k v) ≡ lesser cmp (one (k, v)) (next_entry cmp after es))
          → next_entry cmp after (match_ordering o ((k, v) ∷ e ∷ es) ((e.0, v) ∷ es) (e ∷ insert_entry cmp es k v)) ≡ lesser cmp (one (k, v)) (next_entry cmp after (e ∷ es))
      by Less is gone rest = next-cons (k, v) (e ∷ es) ∙ low is (is_behind cmp after k) refl
      by Equal is gone rest = some_not_none e.1 gone
      by Greater is gone rest =
          next-cons e (insert_entry cmp es k v) ∙ ap (cond (is_behind cmp after e.0) (Some e)) (rest gone)
          ∙ high is (is_behind cmp after e.0) (is_behind cmp after k) ∙ sym (ap (lesser cmp (one (k, v))) (next-cons e es))

  -- the next of the others is not below the first
  above : (y : K × X) (ys : List (K × X)) → AllByRecursion (λ k. cmp y.0 k ≡ Less) (keys_of ys) → (o : Option (K × X)) → next_entry cmp after ys ≡ o → lesser cmp (Some y) o ≡ Some y
  above y ys all None is = refl
  above y [] all (Some e) is = some_not_none e (sym is)
  above y (x ∷ ys) all (Some e) is = by (is_behind cmp after x.0) (sym (next-cons x ys) ∙ is) (above y ys all.1 (Some e))
    where
      by : (b : Bool) → cond b (Some x) (next_entry cmp after ys) ≡ Some e → (next_entry cmp after ys ≡ Some e → lesser cmp (Some y) (Some e) ≡ Some y) → lesser cmp (Some y) (Some e) ≡ Some y
      by true h rest = let same : x ≡ e = cc in ap (λ (e : K × X). lesser cmp (Some y) (Some e)) (sym same) ∙ ap (λ o. cond (is_lt o) (Some y) (Some x)) all.0
      by false h rest = rest h

  abbrev Apart : Option (K × X) → K × X → Type 0
  Apart None y = Unit {0}
  Apart (Some x) y = cmp x.0 y.0 ≡ Equal → ⊥

  -- three in turn
  in_turn : (a : Option (K × X)) (y : K × X) (b : Option (K × X)) → Apart a y → lesser cmp (Some y) b ≡ Some y → lesser cmp (Some y) (lesser cmp a b) ≡ lesser cmp a (Some y)
  in_turn None y b apart least = least
  in_turn (Some x) y b apart least = by (cmp x.0 y.0) refl b least
    where
      back : (o : Ordering) → cmp x.0 y.0 ≡ o → cmp y.0 x.0 ≡ ordering_reverse o
      back o is = total.antisymm y.0 x.0 ∙ ap ordering_reverse is

      chosen : (o : Ordering) (b : K × X) → cmp x.0 b.0 ≡ o → cmp y.0 x.0 ≡ Less → lesser cmp (Some y) (Some b) ≡ Some y → lesser cmp (Some y) (cond (is_lt o) (Some x) (Some b)) ≡ Some y
      chosen Less b is less least = ap (λ o. cond (is_lt o) (Some y) (Some x)) less
      chosen Equal b is less least = least
      chosen Greater b is less least = least

      by : (o : Ordering) → cmp x.0 y.0 ≡ o → (b : Option (K × X)) → lesser cmp (Some y) b ≡ Some y → lesser cmp (Some y) (lesser cmp (Some x) b) ≡ cond (is_lt o) (Some x) (Some y)
      by Equal is b least = absurd (apart is)
      by Greater is None least = ap (λ o. cond (is_lt o) (Some y) (Some x)) (back Greater is)
      by Greater is (Some b) least = chosen (cmp x.0 b.0) b refl (back Greater is) least
      by Less is None least = ap (λ o. cond (is_lt o) (Some y) (Some x)) (back Less is)
      by Less is (Some b) least = below (cmp y.0 b.0) refl least
        where
          below : (o : Ordering) → cmp y.0 b.0 ≡ o → cond (is_lt o) (Some y) (Some b) ≡ Some y → lesser cmp (Some y) (cond (is_lt (cmp x.0 b.0)) (Some x) (Some b)) ≡ Some x
          below Less is' h = ap (λ o. lesser cmp (Some y) (cond (is_lt o) (Some x) (Some b))) (total.trans x.0 y.0 b.0 is is') ∙ ap (λ o. cond (is_lt o) (Some y) (Some x)) (back Less is)
          below Equal is' h =
              let same : b ≡ y = cc in
              ap (λ (b : K × X). lesser cmp (Some y) (cond (is_lt (cmp x.0 b.0)) (Some x) (Some b))) same ∙ ap (λ o. lesser cmp (Some y) (cond (is_lt o) (Some x) (Some y))) is ∙ ap (λ o. cond (is_lt o) (Some y) (Some x)) (back Less is)
          below Greater is' h =
              let same : b ≡ y = cc in
              ap (λ (b : K × X). lesser cmp (Some y) (cond (is_lt (cmp x.0 b.0)) (Some x) (Some b))) same ∙ ap (λ o. lesser cmp (Some y) (cond (is_lt o) (Some x) (Some y))) is ∙ ap (λ o. cond (is_lt o) (Some y) (Some x)) (back Less is)

  none_above : (q : K) (ys : List (K × X)) → AllByRecursion (λ k. cmp q k ≡ Less) (keys_of ys) → lookup (is_at (cmp q)) ys ≡ None
  none_above q [] all = refl
  none_above q (y ∷ ys) all = ap (λ o. cond (is_eq o) (Some y.1) (lookup (is_at (cmp q)) ys)) all.0 ∙ none_above q ys all.1

  -- the next of entries that have no such key
  next_apart : (y : K × X) (xs : List (K × X)) → lookup (is_at (cmp y.0)) xs ≡ None → Apart (next_entry cmp after xs) y
  next_apart y [] absent = tt
  next_apart y (x ∷ xs) absent = by (cmp y.0 x.0) refl absent (is_behind cmp after x.0) refl (next_apart y xs)
    where
      by : (o : Ordering) → cmp y.0 x.0 ≡ o → cond (is_eq o) (Some x.1) (lookup (is_at (cmp y.0)) xs) ≡ None → (b : Bool) → is_behind cmp after x.0 ≡ b
          → (lookup (is_at (cmp y.0)) xs ≡ None → Apart (next_entry cmp after xs) y) → Apart (next_entry cmp after (x ∷ xs)) y
      by Equal is gone b at rest = some_not_none x.1 gone
      by Less is gone true at rest = subst (λ o. Apart o y) (sym (next-cons x xs ∙ ap (λ b. cond b (Some x) (next_entry cmp after xs)) at)) (λ tied. let wrong : Less ≡ Equal = sym is ∙ tied_back total x.0 y.0 tied in cc)
      by Greater is gone true at rest = subst (λ o. Apart o y) (sym (next-cons x xs ∙ ap (λ b. cond b (Some x) (next_entry cmp after xs)) at)) (λ tied. let wrong : Greater ≡ Equal = sym is ∙ tied_back total x.0 y.0 tied in cc)
      by Less is gone false at rest = subst (λ o. Apart o y) (sym (next-cons x xs ∙ ap (λ b. cond b (Some x) (next_entry cmp after xs)) at)) (rest gone)
      by Greater is gone false at rest = subst (λ o. Apart o y) (sym (next-cons x xs ∙ ap (λ b. cond b (Some x) (next_entry cmp after xs)) at)) (rest gone)

  pub next_merged : (xs ys : List (K × X)) → IsStrictlySortedBy cmp (keys_of xs) → IsStrictlySortedBy cmp (keys_of ys) → AllByRecursion (λ k. lookup (is_at (cmp k)) xs ≡ None) (keys_of ys)
      → next_entry cmp after (merged cmp xs ys) ≡ lesser cmp (next_entry cmp after xs) (next_entry cmp after ys)
  next_merged xs [] sorted sorted' absent = sym (lesser-none cmp (next_entry cmp after xs))
  next_merged xs (y ∷ ys) sorted sorted' absent =
      let all = sorted_head cmp y.0 (keys_of ys) sorted' in
      let gone : lookup (is_at (cmp y.0)) (merged cmp xs ys) ≡ None =
      lookup-merged total y.0 xs ys ∙ (λ i. option_or (none_above y.0 ys all i) (absent.0 i)) in
      next-insert y.0 y.1 (merged cmp xs ys) (merged_sorted total xs ys sorted) gone
      ∙ ap (lesser cmp (one y)) (next_merged xs ys sorted (sorted_tail cmp y.0 (keys_of ys) sorted') absent.1)
      ∙ by all (is_behind cmp after y.0)
      ∙ sym (ap (lesser cmp (next_entry cmp after xs)) (next-cons y ys))
    where
      by : AllByRecursion (λ k. cmp y.0 k ≡ Less) (keys_of ys) → (b : Bool)
          → lesser cmp (cond b (Some y) None) (lesser cmp (next_entry cmp after xs) (next_entry cmp after ys)) ≡ lesser cmp (next_entry cmp after xs) (cond b (Some y) (next_entry cmp after ys))
      by all true = in_turn (next_entry cmp after xs) y (next_entry cmp after ys) (next_apart y xs absent.0) (above y ys all (next_entry cmp after ys) refl)
      by all false = refl

  lower_lesser : (a b : Option (K × X)) → ((y : K × X) → b ≡ Some y → Apart a y) → lesser cmp a b ≡ lower cmp a b
  lower_lesser None b apart = refl
  lower_lesser (Some a) None apart = refl
  lower_lesser (Some a) (Some b) apart = by (cmp a.0 b.0) refl
    where
      by : (o : Ordering) → cmp a.0 b.0 ≡ o → cond (is_lt o) (Some a) (Some b) ≡ cond (is_lt (cmp b.0 a.0)) (Some b) (Some a)
      by Less is = sym (ap (λ o. cond (is_lt o) (Some b) (Some a)) (total.antisymm b.0 a.0 ∙ ap ordering_reverse is))
      by Equal is = absurd (apart b refl is)
      by Greater is = sym (ap (λ o. cond (is_lt o) (Some b) (Some a)) (total.antisymm b.0 a.0 ∙ ap ordering_reverse is))

  -- the next of entries has one of their keys
  pub next_is_held : (P : K → Type 0) (ys : List (K × X)) → AllByRecursion P (keys_of ys) → (y : K × X) → next_entry cmp after ys ≡ Some y → P y.0
  next_is_held P [] all y is = some_not_none y (sym is)
  next_is_held P (x ∷ ys) all y is = by (is_behind cmp after x.0) (sym (next-cons x ys) ∙ is) (next_is_held P ys all.1 y)
    where
      by : (b : Bool) → cond b (Some x) (next_entry cmp after ys) ≡ Some y → (next_entry cmp after ys ≡ Some y → P y.0) → P y.0
      by true h rest = let same : x ≡ y = cc in subst (λ (e : K × X). P e.0) same all.0
      by false h rest = rest h

  pub next_lower : (xs ys : List (K × X)) → IsStrictlySortedBy cmp (keys_of xs) → IsStrictlySortedBy cmp (keys_of ys) → AllByRecursion (λ k. lookup (is_at (cmp k)) xs ≡ None) (keys_of ys)
      → next_entry cmp after (merged cmp xs ys) ≡ lower cmp (next_entry cmp after xs) (next_entry cmp after ys)
  next_lower xs ys sorted sorted' absent =
      next_merged xs ys sorted sorted' absent
      ∙ lower_lesser (next_entry cmp after xs) (next_entry cmp after ys) (λ y is. next_apart y xs (next_is_held (λ k. lookup (is_at (cmp k)) xs ≡ None) ys absent y is))

module _ {K X : Type 0} {cmp : K → K → Ordering} (total : IsTotalOrder cmp) where
  -- what holds of each key that is found holds of each key
  pub all_held : (side : K → Bool) (es : List (K × X)) → ((q : K) → side q ≡ false → lookup (is_at (cmp q)) es ≡ None) → AllByRecursion (λ k. side k ≡ true) (keys_of es)
  all_held side [] none = tt
  all_held side (e ∷ es) none = (by (side e.0) refl, all_held side es (λ q is. tail q (is_at (cmp q) e.0) (none q is)))
    where
      by : (b : Bool) → side e.0 ≡ b → b ≡ true
      by true is = refl
      by false is = some_not_none e.1 (sym (ap (λ o. cond (is_eq o) (Some e.1) (lookup (is_at (cmp e.0)) es)) (tied_itself total e.0)) ∙ none e.0 is)

      tail : (q : K) (b : Bool) → cond b (Some e.1) (lookup (is_at (cmp q)) es) ≡ None → lookup (is_at (cmp q)) es ≡ None
      tail q true h = some_not_none e.1 h
      tail q false h = h

  all_map : (P Q : K → Type 0) (es : List (K × X)) → ((k : K) → P k → Q k) → AllByRecursion P (keys_of es) → AllByRecursion Q (keys_of es)
  all_map P Q [] f all = tt
  all_map P Q (e ∷ es) f all = (f e.0 all.0, all_map P Q es f all.1)

  -- entries that are apart: which keys each has
  pub all_first : (is_first : K → Bool) (xs ys : List (K × X)) → AreApart cmp is_first xs ys → AllByRecursion (λ k. is_first k ≡ true) (keys_of xs)
  all_first is_first xs ys apart = all_held is_first xs apart.not_first

  pub all_second : (is_first : K → Bool) (xs ys : List (K × X)) → AreApart cmp is_first xs ys → AllByRecursion (λ k. is_first k ≡ false) (keys_of ys)
  all_second is_first xs ys apart =
      all_map (λ k. not (is_first k) ≡ true) (λ k. is_first k ≡ false) ys (λ k is. turn (is_first k) is)
      (all_held (λ k. not (is_first k)) ys (λ q is. apart.not_second q (turned (is_first q) is)))
    where
      turn : (b : Bool) → not b ≡ true → b ≡ false
      turn true h = sym h
      turn false h = refl

      turned : (b : Bool) → not b ≡ false → b ≡ true
      turned true h = refl
      turned false h = sym h

  -- no key of the second is in the first
  pub absent_first : (is_first : K → Bool) (xs ys : List (K × X)) → AreApart cmp is_first xs ys → AllByRecursion (λ k. lookup (is_at (cmp k)) xs ≡ None) (keys_of ys)
  absent_first is_first xs ys apart =
      all_map (λ k. is_first k ≡ false) (λ k. lookup (is_at (cmp k)) xs ≡ None) ys (λ k is. apart.not_first k is) (all_second is_first xs ys apart)

-- where all names have up to 15 bytes, those behind a longer one are those behind its first 15
same_behind : {X : Type 0} (name : List ℕ) (es : List (List ℕ × X)) → AllByRecursion (λ k. is_short k ≡ true) (keys_of es)
    → entries_behind bytes_cmp (Some (take 15 name)) es ≡ entries_behind bytes_cmp (Some name) es
same_behind name [] all = refl
same_behind name (e ∷ es) all =
    (λ i. cond (sym (behind_prefix 15 name e.0 (short_fits e.0 all.0)) i) (e ∷ entries_behind bytes_cmp (Some (take 15 name)) es) (entries_behind bytes_cmp (Some (take 15 name)) es))
    ∙ ap (λ xs. cond (is_lt (bytes_cmp name e.0)) (e ∷ xs) xs) (same_behind name es all.1)

pub next_short : {X : Type 0} (after : Option (List ℕ)) (es : List (List ℕ × X)) → AllByRecursion (λ k. is_short k ≡ true) (keys_of es)
    → next_entry bytes_cmp (option_map (λ name. take 15 name) after) es ≡ next_entry bytes_cmp after es
next_short None es all = refl
next_short (Some name) es all = ap (λ xs. slice_get xs 0) (same_behind name es all)

pub next_of : {X : Type 0} (after : Option (Bor (List ℕ))) (es : List (List ℕ × X)) → AllByRecursion (λ k. is_short k ≡ true) (keys_of es)
    → next_entry bytes_cmp (option_map {T = Bor (List ℕ)} (λ key. take 15 key.now) after) es ≡ next_entry bytes_cmp (option_map {T = Bor (List ℕ)} (λ key. key.now) after) es
next_of None es all = refl
next_of (Some name) es all = next_short (Some name.now) es all

-- Short names and longer ones, merged: what the words of `Merged` say of keys and of buckets.
use Rattle.std.proofs.Common.{◌≡◌, ◌∙◌, refl, sym, ap, subst, ℕ, List, [], ◌∷◌, Bool, true, false, cond}
use Rattle.std.specs.Prelude.{Option, Some, None, Result, Ok, Err, OnOk, OnErr}
use Rattle.std.specs.declared.cmp.Ordering.{Ordering}
use Rattle.std.specs.declared.cmp.Ordering.TheVariants.{Less, Equal, Greater}
use Rattle.std.specs.BTreeMap.{is_at}
use Rattle.std.specs.Cmp.{IsTotalOrder}
use Rattle.std.specs.List.Sorted.{IsStrictlySortedBy}
use Rattle.std.specs.Map.{lookup, keys_of}
use Rattle.std.specs.Ordering.{ordering_then, is_eq}
use Rattle.names.specs.ShortNames.{is_short, short_name}
use Rattle.names.specs.Merged.{merged, AreApart}
use Rattle.names.proofs.Words.{short_some, short_none, same_short}
use Rattle.names.proofs.Merged.{apart_first, apart_second}
use Rattle.names.specs.Behind.{next_entry, lower}
use Rattle.std.specs.Ordering.{is_lt}
use Rattle.names.specs.Nested.{by_bucket, BucketKey, KeyPlaces, key_entries, bytes_cmp, bucket_key_cmp, IsInnerMap, IsNested}
use Rattle.names.proofs.Nested.{types_order}
use Rattle.names.proofs.BucketsNext.{lower_bucket}
use Rattle.names.proofs.MergedNext.{next_lower, absent_first, next_is_held, all_first, all_second}

-- what `of` answers of a name
pub of_some : (o : Option (List ℕ)) (slice key name : List ℕ) → o ≡ short_name slice → slice ≡ key → o ≡ Some name → (is_short key ≡ true) × (name ≡ key)
of_some o slice key name is same found = short_some key name (sym found ∙ is ∙ ap short_name same)

pub of_none : (o : Option (List ℕ)) (slice key : List ℕ) → o ≡ short_name slice → slice ≡ key → o ≡ None → is_short key ≡ false
of_none o slice key is same found = short_none key (sym found ∙ is ∙ ap short_name same)

then_first : (a b : Ordering) → ordering_then a b ≡ Equal → a ≡ Equal
then_first Less b h = h
then_first Equal b h = refl
then_first Greater b h = h

abbrev pub in_short : BucketKey → Bool
in_short key = is_short key.0

pub same_bucket : (k q : BucketKey) → bucket_key_cmp k q ≡ Equal → in_short k ≡ in_short q
same_bucket k q h = same_short k.0 q.0 (then_first (bytes_cmp k.0 q.0) (bytes_cmp k.1 q.1) h)

lone_sorted : {K X : Type 0} (cmp : K → K → Ordering) (k : K) (x : X) → IsStrictlySortedBy cmp (keys_of ((k, x) ∷ []))
unfolding IsStrictlySortedBy
lone_sorted cmp k x = (tt, tt)

empty_sorted : {K : Type 0} (X : Type 0) (cmp : K → K → Ordering) → IsStrictlySortedBy cmp (keys_of {X = X} [])
unfolding IsStrictlySortedBy
empty_sorted X cmp = tt

one_sorted : {K X : Type 0} (cmp : K → K → Ordering) (k : K) (x : X) (es : List (K × X)) → es ≡ (k, x) ∷ [] → IsStrictlySortedBy cmp (keys_of es)
one_sorted {K = K} {X = X} cmp k x es is = subst (λ (es : List (K × X)). IsStrictlySortedBy cmp (keys_of es)) (sym is) (lone_sorted cmp k x)

none_sorted : {K X : Type 0} (cmp : K → K → Ordering) (es : List (K × X)) → es ≡ [] → IsStrictlySortedBy cmp (keys_of es)
none_sorted {K = K} {X = X} cmp es is = subst (λ (es : List (K × X)). IsStrictlySortedBy cmp (keys_of es)) (sym is) (empty_sorted X cmp)

differ : (a b : Bool) → a ≡ true → b ≡ false → a ≡ b → ⊥
differ a b is is' one = let no : true ≡ false = sym is ∙ one ∙ is' in cc

pub not_both : {A : Type 0} (b : Bool) → b ≡ true → b ≡ false → A
not_both b is is' = let h : true ≡ false = sym is ∙ is' in cc

-- one bucket with one key
pub nested_one : (own b : List ℕ) (v : ℕ) (m : KeyPlaces) (es : List (List ℕ × KeyPlaces)) → es ≡ (own, m) ∷ [] → m.entries ≡ (b, v) ∷ [] → IsNested key_entries bytes_cmp bytes_cmp es
nested_one own b v m es is one =
    subst (λ es. IsNested key_entries bytes_cmp bytes_cmp es) (sym is)
    (record {
      ordered = lone_sorted bytes_cmp own m;
      held = λ q w found. by q w (is_at (bytes_cmp q) own) found;
    })
  where
    inner : IsInnerMap bytes_cmp m.entries
    inner = record { ordered = one_sorted bytes_cmp b v m.entries one; filled = λ none. let no : (b, v) ∷ [] ≡ [] = sym one ∙ none in cc }

    by : (q : List ℕ) (w : KeyPlaces) (c : Bool) → cond c (Some m) None ≡ Some w → IsInnerMap bytes_cmp (key_entries w)
    by q w true found = let same : m ≡ w = cc in subst (λ (m : KeyPlaces). IsInnerMap bytes_cmp m.entries) same inner
    by q w false found = cc

module _ {K X : Type 0} {cmp : K → K → Ordering} (total : IsTotalOrder cmp) (is_first : K → Bool) (same : (k q : K) → cmp k q ≡ Equal → is_first k ≡ is_first q) where
  lone_unlike : (k q : K) (x : X) (es : List (K × X)) → es ≡ (k, x) ∷ [] → (is_first k ≡ is_first q → ⊥) → lookup (is_at (cmp q)) es ≡ None
  lone_unlike k q x es is unlike = ap (lookup (is_at (cmp q))) is ∙ by (cmp q k) refl
    where
      by : (o : Ordering) → cmp q k ≡ o → cond (is_eq o) (Some x) None ≡ None
      by Less at = refl
      by Greater at = refl
      by Equal at = absurd (unlike (sym (same q k at)))

  pub one_first : (k : K) (x : X) (xs ys : List (K × X)) → is_first k ≡ true → xs ≡ (k, x) ∷ [] → ys ≡ [] → AreApart cmp is_first xs ys
  one_first k x xs ys is one none =
      record {
        first_ordered = one_sorted cmp k x xs one;
        second_ordered = none_sorted cmp ys none;
        not_first = λ q not. lone_unlike k q x xs one (differ (is_first k) (is_first q) is not);
        not_second = λ q yes. ap (lookup (is_at (cmp q))) none;
      }

  pub one_second : (k : K) (x : X) (xs ys : List (K × X)) → is_first k ≡ false → xs ≡ [] → ys ≡ (k, x) ∷ [] → AreApart cmp is_first xs ys
  one_second k x xs ys is none one =
      record {
        first_ordered = none_sorted cmp xs none;
        second_ordered = one_sorted cmp k x ys one;
        not_first = λ q not. ap (lookup (is_at (cmp q))) none;
        not_second = λ q yes. lone_unlike k q x ys one (λ h. differ (is_first q) (is_first k) yes is (sym h));
      }

  pub merged_first : (k : K) (x : X) (xs ys : List (K × X)) → xs ≡ (k, x) ∷ [] → ys ≡ [] → merged cmp xs ys ≡ (k, x) ∷ []
  merged_first k x xs ys one none = λ i. merged cmp (one i) (none i)

  pub merged_second : (k : K) (x : X) (xs ys : List (K × X)) → xs ≡ [] → ys ≡ (k, x) ∷ [] → merged cmp xs ys ≡ (k, x) ∷ []
  merged_second k x xs ys none one = λ i. merged cmp (none i) (one i)

  -- after an insert that may be refused
  pub first_after : {T E : Type 0} (r : Result T E) (xs ys zs : List (K × X)) (k : K) (w : Option X) → AreApart cmp is_first xs ys → IsStrictlySortedBy cmp (keys_of zs) → is_first k ≡ true
      → OnOk r ((q : K) → lookup (is_at (cmp q)) zs ≡ cond (is_at (cmp k) q) w (lookup (is_at (cmp q)) xs)) → OnErr r (zs ≡ xs) → AreApart cmp is_first zs ys
  first_after (Ok t) xs ys zs k w apart sorted is ok err = apart_first total is_first same xs ys zs k w apart sorted is ok
  first_after (Err e) xs ys zs k w apart sorted is ok err = subst (λ zs. AreApart cmp is_first zs ys) (sym err) apart

  pub second_after : {T E : Type 0} (r : Result T E) (xs ys zs : List (K × X)) (k : K) (w : Option X) → AreApart cmp is_first xs ys → IsStrictlySortedBy cmp (keys_of zs) → is_first k ≡ false
      → OnOk r ((q : K) → lookup (is_at (cmp q)) zs ≡ cond (is_at (cmp k) q) w (lookup (is_at (cmp q)) ys)) → OnErr r (zs ≡ ys) → AreApart cmp is_first xs zs
  second_after (Ok t) xs ys zs k w apart sorted is ok err = apart_second total is_first same xs ys zs k w apart sorted is ok
  second_after (Err e) xs ys zs k w apart sorted is ok err = subst (λ zs. AreApart cmp is_first xs zs) (sym err) apart

-- ---- the next key of all buckets

pub whole_next : (after : Option BucketKey) (short long : List (BucketKey × ℕ)) → AreApart bucket_key_cmp in_short short long → {r a b : Option (BucketKey × ℕ)}
    → a ≡ next_entry bucket_key_cmp after short → b ≡ next_entry bucket_key_cmp after long → r ≡ lower by_bucket a b → r ≡ next_entry bucket_key_cmp after (merged bucket_key_cmp short long)
whole_next after short long apart is is' least =
    let total = types_order.inner_total in
    least
    ∙ (λ i. lower by_bucket (is i) (is' i))
    ∙ lower_bucket (next_entry bucket_key_cmp after short) (next_entry bucket_key_cmp after long)
    (λ x at. next_is_held total after (λ k. in_short k ≡ true) short (all_first total in_short short long apart) x at)
    (λ y at. next_is_held total after (λ k. in_short k ≡ false) long (all_second total in_short short long apart) y at)
    ∙ sym (next_lower total after short long apart.first_ordered apart.second_ordered (absent_first total in_short short long apart))

pub lower_then : (a b : BucketKey × ℕ) (above : Bool) (slice : List ℕ) → above ≡ is_lt (bytes_cmp slice a.0.0) → slice ≡ b.0.0 → above ≡ true → Some b ≡ lower by_bucket (Some a) (Some b)
lower_then a b above slice is same at = sym (ap (λ t. cond t (Some b) (Some a)) (sym (is ∙ ap (λ s. is_lt (bytes_cmp s a.0.0)) same) ∙ at))

pub lower_else : (a b : BucketKey × ℕ) (above : Bool) (slice : List ℕ) → above ≡ is_lt (bytes_cmp slice a.0.0) → slice ≡ b.0.0 → above ≡ false → Some a ≡ lower by_bucket (Some a) (Some b)
lower_else a b above slice is same at = sym (ap (λ t. cond t (Some b) (Some a)) (sym (is ∙ ap (λ s. is_lt (bytes_cmp s a.0.0)) same) ∙ at))

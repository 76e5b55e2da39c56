-- The next key, of buckets with names of up to 15 bytes and of longer ones.
use Rattle.std.proofs.Common.{◌≡◌, ◌∙◌, refl, sym, ap, ℕ, List, [], ◌∷◌, ◌++◌, map, Bool, true, false, cond, take}
use Rattle.std.specs.Prelude.{Option, Some, None, filter, slice_get}
use Rattle.std.specs.declared.cmp.Ordering.{Ordering}
use Rattle.std.specs.declared.cmp.Ordering.TheVariants.{Less, Equal, Greater}
use Rattle.std.specs.Ordering.{is_lt, ordering_then}
use Rattle.std.proofs.lemmas.List.Elements.{filter-append}
use Rattle.names.specs.ShortNames.{is_short}
use Rattle.names.proofs.Words.{behind_prefix, short_fits, same_short}
use Rattle.names.specs.Behind.{entries_behind, next_entry, lower}
use Rattle.names.specs.Nested.{BucketKey, KeyPlaces, flatten, key_entries, bucket_key, bytes_cmp, bucket_key_cmp, by_bucket, first_of_buckets_behind, AreInShort, first_behind}

differ : (a b : Bool) → a ≡ true → b ≡ false → a ≡ b → ⊥
differ a b is is' one = let wrong : true ≡ false = sym is ∙ one ∙ is' in cc

abbrev in_bucket : List ℕ → List (List ℕ × ℕ) → List (BucketKey × ℕ)
in_bucket bucket fs = map {B = BucketKey × ℕ} (λ (f : List ℕ × ℕ). (bucket_key bucket f.0, f.1)) fs

abbrev behind : List ℕ → BucketKey × ℕ → Bool
behind bucket entry = is_lt (bytes_cmp bucket entry.0.0)

filter_bucket : (a x : List ℕ) (fs : List (List ℕ × ℕ)) → filter (behind a) (in_bucket x fs) ≡ cond (is_lt (bytes_cmp a x)) (in_bucket x fs) []
filter_bucket a x [] = by (is_lt (bytes_cmp a x))
  where
    by : (b : Bool) → ◌≡◌ {A = List (BucketKey × ℕ)} [] (cond b [] [])
    by true = refl
    by false = refl
filter_bucket a x (f ∷ fs) = ap (λ es. cond (is_lt (bytes_cmp a x)) ((bucket_key x f.0, f.1) ∷ es) es) (filter_bucket a x fs) ∙ by (is_lt (bytes_cmp a x))
  where
    by : (b : Bool) → cond b ((bucket_key x f.0, f.1) ∷ cond b (in_bucket x fs) []) (cond b (in_bucket x fs) []) ≡ cond b (in_bucket x (f ∷ fs)) []
    by true = refl
    by false = refl

-- the keys of the buckets behind one
flatten_behind : (a : List ℕ) (es : List (List ℕ × KeyPlaces)) → flatten key_entries bucket_key (entries_behind bytes_cmp (Some a) es) ≡ filter (behind a) (flatten key_entries bucket_key es)
flatten_behind a [] = refl
flatten_behind a (e ∷ es) =
    by (is_lt (bytes_cmp a e.0)) (flatten_behind a es)
    ∙ sym (filter-append (behind a) (in_bucket e.0 e.1.entries) (flatten key_entries bucket_key es) ∙ ap (λ xs. xs ++ filter (behind a) (flatten key_entries bucket_key es)) (filter_bucket a e.0 e.1.entries))
  where
    by : (b : Bool) → flatten key_entries bucket_key (entries_behind bytes_cmp (Some a) es) ≡ filter (behind a) (flatten key_entries bucket_key es)
        → flatten key_entries bucket_key (cond b (e ∷ entries_behind bytes_cmp (Some a) es) (entries_behind bytes_cmp (Some a) es))
        ≡ cond b (in_bucket e.0 e.1.entries) [] ++ filter (behind a) (flatten key_entries bucket_key es)
    by true rest = ap (λ xs. in_bucket e.0 e.1.entries ++ xs) rest
    by false rest = rest

pub first_behind_flat : (a : List ℕ) (es : List (List ℕ × KeyPlaces)) → first_behind key_entries bucket_key bytes_cmp (Some a) es ≡ first_of_buckets_behind a (flatten key_entries bucket_key es)
first_behind_flat a es = ap (λ xs. slice_get xs 0) (flatten_behind a es)

lt_then : (o p : Ordering) → (o ≡ Equal → ⊥) → is_lt (ordering_then o p) ≡ is_lt o
lt_then Less p apart = refl
lt_then Equal p apart = absurd (apart refl)
lt_then Greater p apart = refl

-- of buckets with short names those behind a key of a longer one are those behind its first 15 bytes
same_buckets : (bucket key : List ℕ) (es : List (BucketKey × ℕ)) → is_short bucket ≡ false → AreInShort es → filter (behind (take 15 bucket)) es ≡ entries_behind bucket_key_cmp (Some (bucket, key)) es
same_buckets bucket key [] long all = refl
same_buckets bucket key (e ∷ es) long all =
    ap (λ xs. cond (is_lt (bytes_cmp (take 15 bucket) e.0.0)) (e ∷ xs) xs) (same_buckets bucket key es long all.1)
    ∙ (λ i. cond (test i) (e ∷ entries_behind bucket_key_cmp (Some (bucket, key)) es) (entries_behind bucket_key_cmp (Some (bucket, key)) es))
  where
    test : is_lt (bytes_cmp (take 15 bucket) e.0.0) ≡ is_lt (bucket_key_cmp (bucket, key) e.0)
    test =
        sym (behind_prefix 15 bucket e.0.0 (short_fits e.0.0 all.0))
        ∙ sym (lt_then (bytes_cmp bucket e.0.0) (bytes_cmp key e.0.1) (λ tied. differ (is_short e.0.0) (is_short bucket) all.0 long (sym (same_short bucket e.0.0 tied))))

pub next_of_longer : (bucket key : List ℕ) (es : List (BucketKey × ℕ)) → is_short bucket ≡ false → AreInShort es
    → first_of_buckets_behind (take 15 bucket) es ≡ next_entry bucket_key_cmp (Some (bucket, key)) es
next_of_longer bucket key es long all = ap (λ xs. slice_get xs 0) (same_buckets bucket key es long all)

-- the lesser of two keys, by their buckets, where one has a short name and the other a longer one
pub lower_bucket : (a b : Option (BucketKey × ℕ)) → ((x : BucketKey × ℕ) → a ≡ Some x → is_short x.0.0 ≡ true) → ((y : BucketKey × ℕ) → b ≡ Some y → is_short y.0.0 ≡ false)
    → lower by_bucket a b ≡ lower bucket_key_cmp a b
lower_bucket None b short long = refl
lower_bucket (Some x) None short long = refl
lower_bucket (Some x) (Some y) short long =
    ap (λ t. cond t (Some y) (Some x))
    (sym (lt_then (bytes_cmp y.0.0 x.0.0) (bytes_cmp y.0.1 x.0.1) (λ tied. differ (is_short x.0.0) (is_short y.0.0) (short x refl) (long y refl) (sym (same_short y.0.0 x.0.0 tied)))))

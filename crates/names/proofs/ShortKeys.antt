-- Keys with short names: which they are, and how others are to them.
use Rattle.std.proofs.Common.{◌≡◌, ◌∙◌, refl, sym, ap, ℕ, List, Bool, true, false, cond}
use Rattle.std.specs.Prelude.{◌&&◌, Some, None}
use Rattle.std.specs.Cmp.Lexicographic.{slice_cmp}
use Rattle.std.specs.Ordering.{nat_cmp, is_eq, is_lt, is_le}
use Rattle.std.specs.Str.{bytes_eq}
use Rattle.std.specs.declared.cmp.Ordering.{Ordering}
use Rattle.std.specs.declared.cmp.Ordering.TheVariants.{Less, Equal, Greater}
use Rattle.std.proofs.lemmas.Map.Text.{is_eq-slice_cmp}
use Rattle.std.proofs.lemmas.Slice.Eq.{bytes_eq-Decides}
use Rattle.riak_msgs.specs.declared.key.Key.{Key}
use Rattle.riak_msgs.specs.BucketTypes.{default_type}
use Rattle.riak_msgs.specs.Requests.{default_key}
use Rattle.names.specs.ShortNames.{is_short, short_name}
use Rattle.names.proofs.Words.{same_short, short_none}
use Rattle.names.specs.ShortKeys.{are_short, is_short_key, short_key}

wrong : {A : Type 0} → true ≡ false → A
wrong h = cc

-- a key of the default type is named by its bucket and its key
pub of_default : (key : Key) → slice_cmp nat_cmp key.bucket_type default_type ≡ Equal
    → cond (are_short key.bucket key.key) (Some (default_key key.bucket key.key)) None ≡ short_key key
of_default key is =
    let same : bytes_eq key.bucket_type default_type ≡ true = sym (is_eq-slice_cmp key.bucket_type default_type) ∙ ap is_eq is in
    (λ i. cond (are_short key.bucket key.key) (Some (record { bucket_type = sym ((bytes_eq-Decides key.bucket_type default_type).0 same) i; bucket = key.bucket; key = key.key })) None)
    ∙ ap (λ b. cond (b && are_short key.bucket key.key) (Some key) None) (sym same)

-- a longer name that isn't below a short one is above it
pub longer_above : (bytes name : List ℕ) → None ≡ short_name bytes → is_short name ≡ true → (below : Bool) (slice : List ℕ) → below ≡ is_lt (slice_cmp nat_cmp slice name) → slice ≡ bytes → below ≡ false
    → Greater ≡ slice_cmp nat_cmp bytes name
longer_above bytes name long short below slice is same not = by (slice_cmp nat_cmp bytes name) refl
  where
    by : (o : Ordering) → slice_cmp nat_cmp bytes name ≡ o → Greater ≡ o
    by Less at = wrong (sym (is ∙ ap (λ s. is_lt (slice_cmp nat_cmp s name)) same ∙ ap is_lt at) ∙ not)
    by Equal at = wrong (sym short ∙ sym (same_short bytes name at) ∙ short_none bytes long)
    by Greater at = refl

-- what `of` answers of a key
pub of_some : (key found : Key) → Some found ≡ short_key key → (is_short_key key ≡ true) × (found ≡ key)
of_some key found is = by (is_short_key key) refl is
  where
    by : (b : Bool) → is_short_key key ≡ b → Some found ≡ cond b (Some key) None → (is_short_key key ≡ true) × (found ≡ key)
    by true at h = (at, cc)
    by false at h = cc

pub of_none : (key : Key) → None ≡ short_key key → is_short_key key ≡ false
of_none key is = by (is_short_key key) refl is
  where
    by : (b : Bool) → is_short_key key ≡ b → None ≡ cond b (Some key) None → is_short_key key ≡ false
    by true at h = cc
    by false at h = at

pub le_unless_greater : (o : Ordering) → (o ≡ Greater → ⊥) → is_le o ≡ true
le_unless_greater Less h = refl
le_unless_greater Equal h = refl
le_unless_greater Greater h = absurd (h refl)

pub not_less : (o : Ordering) → (o ≡ Less → ⊥) → is_lt o ≡ false
not_less Less h = absurd (h refl)
not_less Equal h = refl
not_less Greater h = refl

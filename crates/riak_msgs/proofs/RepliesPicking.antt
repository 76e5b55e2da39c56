-- What one more field adds to what was picked.
use Rattle.std.proofs.Common.{◌≡◌, ℕ, ◌+◌, ◌<◌, Bool, false, ◌||◌, cond, List, [], ◌∷◌, ◌++◌, length, get_or, drop, Option, Some, None, refl, ap, sym, ◌∙◌, Bor}
use Rattle.std.specs.Prelude.{is_some, find, option_copied, ◌==◌, not}
use Rattle.std.specs.Option.{option_or, option_map_or}
use Rattle.std.specs.List.{last_or, cons_option}
use Rattle.std.proofs.lemmas.List.{at_drop_more}
use Rattle.pb_fields.specs.Field.{WireField}
use Rattle.riak_msgs.specs.Picking.{bytes_at, varint_at, last_bytes, last_varint, flag_of}
use Rattle.riak_msgs.proofs.Picking.{last_bytes-append, last_varint-append}

last_or-cons_option : {A : Type 0} (o p : Option A) → last_or o (cons_option p []) ≡ option_or p o
last_or-cons_option o None = refl
last_or-cons_option o (Some a) = refl

option_copied-or : {A : Type 0} (o p : Option (Bor A)) → option_copied (option_or o p) ≡ option_or (option_copied o) (option_copied p)
option_copied-or None p = refl
option_copied-or (Some a) p = refl

-- the last is that of the new field, or else the one before
pub last_bytes-more : (number : ℕ) (fields : List WireField) (field : WireField) (found old : Option (Bor (List ℕ))) →
    option_copied found ≡ bytes_at number field → option_copied old ≡ last_bytes number fields →
    option_copied (option_or found old) ≡ last_bytes number (fields ++ field ∷ [])
last_bytes-more number fields field found old e f =
    option_copied-or found old
    ∙ ap (λ o. option_or o (option_copied old)) e
    ∙ ap (option_or (bytes_at number field)) f
    ∙ sym (last_or-cons_option (last_bytes number fields) (bytes_at number field))
    ∙ sym (last_bytes-append number fields (field ∷ []))

pub last_varint-more : (number : ℕ) (fields : List WireField) (field : WireField) →
    last_varint number (fields ++ field ∷ []) ≡ option_or (varint_at number field) (last_varint number fields)
last_varint-more number fields field =
    last_varint-append number fields (field ∷ []) ∙ last_or-cons_option (last_varint number fields) (varint_at number field)

-- a number is there where it was or the new field has it
pub is_some-last_varint : (number : ℕ) (fields : List WireField) (field : WireField) (old found : Bool) →
    old ≡ is_some (last_varint number fields) → found ≡ is_some (varint_at number field) →
    (old || found) ≡ is_some (last_varint number (fields ++ field ∷ []))
is_some-last_varint number fields field old found e f =
    ap (λ b. b || found) e ∙ ap (λ b. is_some (last_varint number fields) || b) f
    ∙ either (varint_at number field) (last_varint number fields) ∙ ap is_some (sym (last_varint-more number fields field))
  where
    either : (o p : Option ℕ) → (is_some p || is_some o) ≡ is_some (option_or o p)
    either None None = refl
    either None (Some n) = refl
    either (Some m) None = refl
    either (Some m) (Some n) = refl

-- a flag is that of the new field, or else the one before
pub flag_of-more : (number : ℕ) (fields : List WireField) (field : WireField) (old : Bool) → old ≡ flag_of number fields →
    option_map_or (λ n. not (n == 0)) (varint_at number field) old ≡ flag_of number (fields ++ field ∷ [])
flag_of-more number fields field old e =
    ap (option_map_or (λ n. not (n == 0)) (varint_at number field)) e
    ∙ either (varint_at number field) (last_varint number fields)
    ∙ ap (λ o. option_map_or (λ n. not (n == 0)) o false) (sym (last_varint-more number fields field))
  where
    either : (o p : Option ℕ) → option_map_or (λ n. not (n == 0)) o (option_map_or (λ n. not (n == 0)) p false) ≡ option_map_or (λ n. not (n == 0)) (option_or o p) false
    either None p = refl
    either (Some n) p = refl

-- a step of a search
pub find-drop : {A : Type 0} (test : A → Bool) (xs : List A) (i : ℕ) (x : A) (b : Bool) → i < length xs → b ≡ test (get_or xs i x) →
    cond b (Some (get_or xs i x)) (find test (drop (i + 1) xs)) ≡ find test (drop i xs)
find-drop test xs i x b within e =
    ap (λ t. cond t (Some (get_or xs i x)) (find test (drop (i + 1) xs))) e ∙ sym (at_drop_more (find test) xs i x within)

-- What a walk over fields has seen.
use Rattle.std.proofs.Common.{◌≡◌, ℕ, true, false, List, [], ◌∷◌, ◌++◌, Option, Some, None, refl, ap, sym, subst, ◌∙◌}
use Rattle.std.specs.Prelude.{Bool, ◌==◌, not, ◌&&◌, ◌||◌, is_some, option_copied, if◌then◌else◌, Result, Ok, Err, is_err, OnOk, OnErr, IfErr}
use Rattle.std.specs.List.{last_or, cons_option}
use Rattle.std.specs.Borrow.{Bor}
use Rattle.std.proofs.lemmas.Bool.{ne_eqb, false≢true}
use Rattle.pb_fields.specs.Field.{WireField, byte_string, varint, seen, value_seen}
use Rattle.pb_fields.specs.declared.field.Field.{Field}
use Rattle.pb_fields.specs.declared.value.Value.{Value}
use Rattle.pb_fields.specs.declared.value.Value.TheVariants.{Varint, Eight, Bytes, Four}
use Rattle.riak_msgs.specs.declared.pairs_and_links.PairView.{PairView}
use Rattle.riak_msgs.specs.declared.content_view.ContentView.{ContentView}
use Rattle.riak_msgs.specs.Picking.{last_bytes, bytes_at, string_in, number_in, varint_at}
use Rattle.riak_msgs.specs.Embedded.{ContentFields, content_of}
use Rattle.riak_msgs.specs.Seen.{IsPartOf, IsSeenOf, misses_key}
use Rattle.riak_msgs.proofs.Contents.{is_some-content_of}
use Rattle.riak_msgs.proofs.Picking.{last_bytes-append}

pub is_some-option_copied : {A : Type 0} (o : Option (Bor A)) → is_some (option_copied o) ≡ is_some o
is_some-option_copied None = refl
is_some-option_copied (Some x) = refl

-- what was seen says whether the content is whole
pub seen_whole : (seen : ContentView) (c : ContentFields) → IsSeenOf seen c →
    is_some (content_of c) ≡ is_some seen.value && not seen.misses_key
seen_whole seen c is =
    is_some-content_of c
    ∙ ap (λ o. is_some o && not (misses_key c.usermeta || misses_key c.indexes)) (sym is.value)
    ∙ ap (λ b. is_some (option_copied seen.value) && not b) (sym is.misses_key)
    ∙ ap (λ b. b && not seen.misses_key) (is_some-option_copied seen.value)

-- a field of another number, or of no byte string, leaves the last as it was
pub last_bytes-kept : (number : ℕ) (fields : List WireField) (field : WireField) → bytes_at number field ≡ None →
    last_bytes number (fields ++ field ∷ []) ≡ last_bytes number fields
last_bytes-kept number fields field none =
    last_bytes-append number fields (field ∷ []) ∙ ap (λ o. last_or (last_bytes number fields) (cons_option o [])) none

pub bytes_at-other : (number : ℕ) (field : WireField) → (field.number ≡ number → ⊥) → bytes_at number field ≡ None
bytes_at-other number field other = ap (λ b. if b then string_in field.value else None) (ne_eqb field.number number other)

pub bytes_at-no_string : (number : ℕ) (field : WireField) → string_in field.value ≡ None → bytes_at number field ≡ None
bytes_at-no_string number field none = either (field.number == number)
  where
    either : (b : Bool) → (if b then string_in field.value else None) ≡ None
    either true = none
    either false = refl

pub varint_at-other : (number : ℕ) (field : WireField) → (field.number ≡ number → ⊥) → varint_at number field ≡ None
varint_at-other number field other = ap (λ b. if b then number_in field.value else None) (ne_eqb field.number number other)

pub varint_at-no_number : (number : ℕ) (field : WireField) → number_in field.value ≡ None → varint_at number field ≡ None
varint_at-no_number number field none = either (field.number == number)
  where
    either : (b : Bool) → (if b then number_in field.value else None) ≡ None
    either true = none
    either false = refl

-- a field of bytes, as it is seen
pub seen-bytes : (field : Field) (number : ℕ) (bytes : Bor (List ℕ)) → field.number ≡ number → field.value ≡ Bytes bytes →
    seen field ≡ record { number = number; value = byte_string bytes.now }
seen-bytes field number bytes n v = rw (n, v) refl

pub seen-varint : (field : Field) (number value : ℕ) → field.number ≡ number → field.value ≡ Varint value →
    seen field ≡ record { number = number; value = varint value }
seen-varint field number value n v = rw (n, v) refl

-- a field that isn't bytes has none
pub string_in-no_bytes : (value : Value) → ((bytes : Bor (List ℕ)) → value ≡ Bytes bytes → ⊥) → string_in (value_seen value) ≡ None
string_in-no_bytes (Varint n) none = refl
string_in-no_bytes (Eight s) none = refl
string_in-no_bytes (Bytes s) none = absurd (none s refl)
string_in-no_bytes (Four s) none = refl

-- one more byte string of the numbers of a part, or a field of another kind
pub part_first : (part : PairView) (bytes : Bor (List ℕ)) (fields : List WireField) (field : WireField) →
    field ≡ record { number = 1; value = byte_string bytes.now } → IsPartOf part fields →
    IsPartOf (record part { first = Some bytes }) (fields ++ field ∷ [])
part_first part bytes fields field e is =
    let f : WireField = record { number = 1; value = byte_string bytes.now } in
    let P : WireField → Type 0 = λ g. IsPartOf (record part { first = Some bytes }) (fields ++ g ∷ []) in
    subst P (sym e) (record {
      first = sym (last_bytes-append 1 fields (f ∷ []));
      second = is.second ∙ sym (last_bytes-append 2 fields (f ∷ []));
      third = is.third ∙ sym (last_bytes-append 3 fields (f ∷ []));
    })

pub part_second : (part : PairView) (bytes : Bor (List ℕ)) (fields : List WireField) (field : WireField) →
    field ≡ record { number = 2; value = byte_string bytes.now } → IsPartOf part fields →
    IsPartOf (record part { second = Some bytes }) (fields ++ field ∷ [])
part_second part bytes fields field e is =
    let f : WireField = record { number = 2; value = byte_string bytes.now } in
    let P : WireField → Type 0 = λ g. IsPartOf (record part { second = Some bytes }) (fields ++ g ∷ []) in
    subst P (sym e) (record {
      first = is.first ∙ sym (last_bytes-append 1 fields (f ∷ []));
      second = sym (last_bytes-append 2 fields (f ∷ []));
      third = is.third ∙ sym (last_bytes-append 3 fields (f ∷ []));
    })

pub part_third : (part : PairView) (bytes : Bor (List ℕ)) (fields : List WireField) (field : WireField) →
    field ≡ record { number = 3; value = byte_string bytes.now } → IsPartOf part fields →
    IsPartOf (record part { third = Some bytes }) (fields ++ field ∷ [])
part_third part bytes fields field e is =
    let f : WireField = record { number = 3; value = byte_string bytes.now } in
    let P : WireField → Type 0 = λ g. IsPartOf (record part { third = Some bytes }) (fields ++ g ∷ []) in
    subst P (sym e) (record {
      first = is.first ∙ sym (last_bytes-append 1 fields (f ∷ []));
      second = is.second ∙ sym (last_bytes-append 2 fields (f ∷ []));
      third = sym (last_bytes-append 3 fields (f ∷ []));
    })

pub part_other : (part : PairView) (fields : List WireField) (field : WireField) → bytes_at 1 field ≡ None → bytes_at 2 field ≡ None →
    bytes_at 3 field ≡ None → IsPartOf part fields → IsPartOf part (fields ++ field ∷ [])
part_other part fields field a b c is = record {
  first = is.first ∙ sym (last_bytes-kept 1 fields field a);
  second = is.second ∙ sym (last_bytes-kept 2 fields field b);
  third = is.third ∙ sym (last_bytes-kept 3 fields field c);
}

-- what holds anyway holds on an error
pub OnErr-always : {T E P : Type 0} (r : Result T E) → P → OnErr r P
OnErr-always (Ok x) p = tt
OnErr-always (Err e) p = p

-- what follows from an error that has come
pub OnErr-from_IfErr : {T E : Type 0} (r : Result T E) (P : E → Type 0) (Q : Type 0) → ((e : E) → P e → Q) → IfErr r P → OnErr r Q
OnErr-from_IfErr (Ok x) P Q f p = tt
OnErr-from_IfErr (Err e) P Q f p = f e p

-- what holds of each where it went well, and of each where it failed
pub OnOk-each : {T E C : Type 0} (r : Result T E) (P Q : C → Type 0) → ((c : C) → P c → OnOk r (Q c)) → OnOk r ((c : C) → P c → Q c)
OnOk-each (Ok x) P Q f = f
OnOk-each (Err e) P Q f = tt

pub IfErr-each : {T E C : Type 0} (r : Result T E) (P : C → Type 0) (Q : E → Type 0) → ((c : C) → P c → IfErr r Q) → IfErr r (λ e. (c : C) → P c → Q e)
IfErr-each (Ok x) P Q f = tt
IfErr-each (Err e) P Q f = f

pub IfErr-from_OnErr : {T E : Type 0} (r : Result T E) (P : Type 0) (Q : E → Type 0) → (P → (e : E) → Q e) → OnErr r P → IfErr r Q
IfErr-from_OnErr (Ok x) P Q f p = tt
IfErr-from_OnErr (Err e) P Q f p = f p e

-- where it didn't fail, it went well
pub OnOk-at : {T E : Type 0} (r : Result T E) (P : Type 0) → is_err r ≡ false → OnOk r P → P
OnOk-at (Ok x) P e p = p
OnOk-at (Err x) P e p = absurd (false≢true (sym e))

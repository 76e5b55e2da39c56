use Rattle.std.proofs.Common.{◌≡◌, ℕ, ◌+◌, ◌*◌, ◌^◌, ◌<◌, List, [], ◌∷◌, ◌++◌, length, refl, sym, ap, subst, arith, ◌∙◌}
use Rattle.wire_varint.proofs.Encoding.{encoding-is_varint}
use Rattle.pb_fields.specs.Field.{WireValue, varint, eight_bytes, byte_string, four_bytes, WireField, wire_type, IsValue, BeginsWithField}
use Rattle.pb_fields.specs.Message.{BeginsWithFields, Encodes}
use Rattle.pb_fields.specs.Faults.{BeginsNoField}
use Rattle.pb_fields.specs.Encoding.{encoding, value_encoding, Fits, ValueFits}
use Rattle.pb_fields.proofs.Parts.{field_once, field_some, wire_type-lt}

-- no bytes begin with no field
pub nothing : (rest : List ℕ) (field : WireField) → BeginsWithField [] field rest → ⊥
nothing rest field begins = let some = field_some [] rest field begins in omega arith

-- bytes stand for one list of fields at most
pub fields_once : (bs : List ℕ) (fs gs : List WireField) → Encodes bs fs → Encodes bs gs → fs ≡ gs
fields_once bs [] [] a b = refl
fields_once bs [] (g ∷ gs) a (behind, begins, others) =
    let P : List ℕ → Type 0 = λ cs. BeginsWithField cs g behind in absurd (nothing behind g (subst P a begins))
fields_once bs (f ∷ fs) [] (behind, begins, others) b =
    let P : List ℕ → Type 0 = λ cs. BeginsWithField cs f behind in absurd (nothing behind f (subst P b begins))
fields_once bs (f ∷ fs) (g ∷ gs) (x, begins_f, a) (y, begins_g, b) =
    let one = field_once bs x y f g begins_f begins_g in
    let P : List ℕ → Type 0 = λ cs. Encodes cs gs in
    let tails : fs ≡ gs = fields_once x fs gs a (subst P (sym one.1) b) in
    rw (one.0, tails) refl

-- one more field
pub fields_more : (bs behind rest : List ℕ) (fs : List WireField) (f : WireField) →
    BeginsWithFields bs fs rest → BeginsWithField rest f behind → BeginsWithFields bs (fs ++ f ∷ []) behind
fields_more bs behind rest [] f a begins =
    let P : List ℕ → Type 0 = λ cs. BeginsWithField cs f behind in (behind, subst P (sym a) begins, refl)
fields_more bs behind rest (g ∷ gs) f (x, begins_g, a) begins = (x, begins_g, fields_more x behind rest gs f a begins)

-- bytes that come to a place where no field begins stand for no list
pub fields_stop : (bs rest : List ℕ) (fs gs : List WireField) → BeginsWithFields bs fs rest → BeginsNoField rest → Encodes bs gs → ⊥
fields_stop bs rest [] [] a none b =
    let same : [] ≡ rest = sym b ∙ a in
    let len : 0 ≡ length rest = ap length same in
    omega (arith, none.some)
fields_stop bs rest [] (g ∷ gs) a none (behind, begins, others) =
    let P : List ℕ → Type 0 = λ cs. BeginsWithField cs g behind in none.none g behind (subst P a begins)
fields_stop bs rest (f ∷ fs) [] (x, begins, a) none b =
    let P : List ℕ → Type 0 = λ cs. BeginsWithField cs f x in nothing x f (subst P b begins)
fields_stop bs rest (f ∷ fs) (g ∷ gs) (x, begins_f, a) none (y, begins_g, b) =
    let one = field_once bs x y f g begins_f begins_g in
    let P : List ℕ → Type 0 = λ cs. Encodes cs gs in
    fields_stop x rest fs gs a none (subst P (sym one.1) b)

-- a value's encoding is the value
value_is_read : (value : WireValue) → ValueFits value → IsValue (value_encoding value) value
value_is_read (varint number) fits = encoding-is_varint number fits
value_is_read (eight_bytes s) fits = (refl, fits)
value_is_read (byte_string s) fits = (_, encoding-is_varint (length s) fits, refl)
value_is_read (four_bytes s) fits = (refl, fits)

-- a field's encoding begins with the field, whatever follows
pub encoding_is_read : (field : WireField) (rest : List ℕ) → Fits field → BeginsWithField (encoding field ++ rest) field rest
encoding_is_read field rest fits =
    let small = wire_type-lt field.value in
    let key_fits : field.number * 8 + wire_type field.value < 2 ^ 64 = omega (arith, fits.number.1) in (
      encoding field,
      record {
        key = _;
        value = value_encoding field.value;
        number = fits.number;
        key_is = encoding-is_varint (field.number * 8 + wire_type field.value) key_fits;
        value_is = value_is_read field.value fits.value;
        parts = refl;
      },
      refl,
    )

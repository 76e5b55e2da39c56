use Rattle.std.specs.Prelude.{◌≡◌, ℕ, ◌+◌, ◌*◌, ◌≤◌, List, ◌++◌, length}
use Rattle.wire_varint.specs.Varint.{IsVarint}
use Rattle.pb_fields.specs.declared.value.Value.{Value}
use Rattle.pb_fields.specs.declared.value.Value.TheVariants.{Varint, Eight, Bytes, Four}
use Rattle.pb_fields.specs.declared.field.Field.{Field}
use Rattle.pb_fields.specs.declared.field.TheConstants.{MAX_FIELD_NUMBER}

-- a field's value, apart from where it lies: a number, or bytes of one of three kinds
pub data WireValue : Type 0 where
  varint : ℕ → WireValue
  eight_bytes : List ℕ → WireValue
  byte_string : List ℕ → WireValue
  four_bytes : List ℕ → WireValue

-- a field, apart from where it lies
pub record WireField : Type 0 where
  pub number : ℕ
  pub value : WireValue

-- what a value that lies in the input is
abbrev pub value_seen : Value → WireValue
value_seen (Varint number) = varint number
value_seen (Eight s) = eight_bytes s.now
value_seen (Bytes s) = byte_string s.now
value_seen (Four s) = four_bytes s.now

-- what a field that lies in the input is
abbrev pub seen : Field → WireField
seen field = record { number = field.number; value = value_seen field.value }

-- the wire type of a value
abbrev pub wire_type : WireValue → ℕ
wire_type (varint number) = 0
wire_type (eight_bytes s) = 1
wire_type (byte_string s) = 2
wire_type (four_bytes s) = 5

-- these bytes are the value: a varint, eight bytes, a length as a varint and so many bytes, or four bytes
abbrev pub IsValue : List ℕ → WireValue → Type 0
IsValue w (varint number) = IsVarint w number
IsValue w (eight_bytes s) = (w ≡ s) × (length s ≡ 8)
IsValue w (byte_string s) = (len : List ℕ) × IsVarint len (length s) × (w ≡ len ++ s)
IsValue w (four_bytes s) = (w ≡ s) × (length s ≡ 4)

-- the numbers that a field may have
abbrev pub IsNumber : ℕ → Type 0
IsNumber number = (1 ≤ number) × (number ≤ MAX_FIELD_NUMBER)

-- these bytes are the field: its key, a varint of number and wire type, and then its value
pub record IsField (w : List ℕ) (field : WireField) : Type 0 where
  pub key : List ℕ
  pub value : List ℕ
  pub number : IsNumber field.number
  pub key_is : IsVarint key (field.number * 8 + wire_type field.value)
  pub value_is : IsValue value field.value
  pub parts : w ≡ key ++ value

-- the bytes begin with the field, and behind it come these
abbrev pub BeginsWithField : List ℕ → WireField → List ℕ → Type 0
BeginsWithField bs field rest = (w : List ℕ) × IsField w field × (bs ≡ w ++ rest)

-- The one encoding of fields: the shortest varints, and what is absent is not encoded.
use Rattle.std.specs.Prelude.{◌≡◌, ℕ, ◌+◌, ◌*◌, ◌^◌, ◌<◌, Bool, true, false, List, [], ◌∷◌, ◌++◌, length, Option, Some, None}
unfoldable pub use Rattle.wire_varint.specs.Varint.{encoding as varint_encoding, encoded as varint_encoded}
use Rattle.pb_fields.specs.Field.{WireValue, varint, eight_bytes, byte_string, four_bytes, WireField, wire_type, IsNumber}

-- the bytes of a value, each varint in its shortest form
abbrev pub value_encoding : WireValue → List ℕ
value_encoding (varint number) = varint_encoding number
value_encoding (eight_bytes s) = s
value_encoding (byte_string s) = varint_encoding (length s) ++ s
value_encoding (four_bytes s) = s

-- the one encoding of a field: the shortest form of its key, and then its value
abbrev pub encoding : WireField → List ℕ
encoding field = varint_encoding (field.number * 8 + wire_type field.value) ++ value_encoding field.value

-- a value that has an encoding
abbrev pub ValueFits : WireValue → Type 0
ValueFits (varint number) = number < 2 ^ 64
ValueFits (eight_bytes s) = length s ≡ 8
ValueFits (byte_string s) = length s < 2 ^ 64
ValueFits (four_bytes s) = length s ≡ 4

-- a field that has an encoding
pub record Fits (field : WireField) : Type 0 where
  pub number : IsNumber field.number
  pub value : ValueFits field.value

-- a field of a number
abbrev pub varint_field : ℕ → ℕ → List ℕ
varint_field number value = encoding (record { number = number; value = varint value })

-- a field of bytes
abbrev pub bytes_field : ℕ → List ℕ → List ℕ
bytes_field number bytes = encoding (record { number = number; value = byte_string bytes })

-- what stands before the bytes of such a field: its key, and how many they are
abbrev pub bytes_head : ℕ → ℕ → List ℕ
bytes_head number len = varint_encoding (number * 8 + 2) ++ varint_encoding len

-- a true is 1, and a false is absent
abbrev pub bool_field : ℕ → Bool → List ℕ
bool_field number true = varint_field number 1
bool_field number false = []

-- bytes that may be absent
abbrev pub optional_field : ℕ → Option (List ℕ) → List ℕ
optional_field number None = []
optional_field number (Some bytes) = bytes_field number bytes

-- each of the values as a field of the number, in their order
abbrev pub repeated_field : {A : Type 0} → (A → List ℕ) → ℕ → List A → List ℕ
repeated_field encode number [] = []
repeated_field encode number (x ∷ xs) = bytes_field number (encode x) ++ repeated_field encode number xs

-- the key and the length of a message's field, and whether the message is to follow: where it isn't, its bytes are appended too,
-- whichever they are
abbrev pub BeginsMessage : {A : Type 0} → (List ℕ → A → Type 0) → ℕ → ℕ → Bool → A → Type 0
BeginsMessage appends number len true after = appends (bytes_head number len) after
BeginsMessage appends number len false after = (bytes : List ℕ) → length bytes ≡ len → appends (bytes_field number bytes) after

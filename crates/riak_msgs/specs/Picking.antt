-- What a reader takes from a list of fields: fields of its numbers and their wire types, and no others.
use Rattle.std.specs.Prelude.{ℕ, ◌==◌, Bool, false, not, List, Option, Some, None, if◌then◌else◌, filter_map}
use Rattle.std.specs.Option.{option_map_or}
use Rattle.std.specs.List.{last_or}
use Rattle.pb_fields.specs.Field.{WireValue, WireField, varint, eight_bytes, byte_string, four_bytes}

-- a value's bytes, where it is a byte string
abbrev pub string_in : WireValue → Option (List ℕ)
string_in (varint n) = None
string_in (eight_bytes s) = None
string_in (byte_string s) = Some s
string_in (four_bytes s) = None

-- a value's number, where it is a varint
abbrev pub number_in : WireValue → Option ℕ
number_in (varint n) = Some n
number_in (eight_bytes s) = None
number_in (byte_string s) = None
number_in (four_bytes s) = None

-- the bytes of a field, where it is a byte string of this number
abbrev pub bytes_at : ℕ → WireField → Option (List ℕ)
bytes_at number field = if field.number == number then string_in field.value else None

-- the number of a field, where it is a varint of this number
abbrev pub varint_at : ℕ → WireField → Option ℕ
varint_at number field = if field.number == number then number_in field.value else None

-- a repeated field: each occurrence, in their order
abbrev pub each_bytes : ℕ → List WireField → List (List ℕ)
each_bytes number fields = filter_map (bytes_at number) fields

-- a scalar: the last occurrence
abbrev pub last_bytes : ℕ → List WireField → Option (List ℕ)
last_bytes number fields = last_or None (each_bytes number fields)

abbrev pub last_varint : ℕ → List WireField → Option ℕ
last_varint number fields = last_or None (filter_map (varint_at number) fields)

-- a bool is true where its last occurrence isn't 0, and false where there is none
abbrev pub flag_of : ℕ → List WireField → Bool
flag_of number fields = option_map_or (λ n. not (n == 0)) (last_varint number fields) false

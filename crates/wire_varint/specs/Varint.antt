-- What bytes are a varint, of which value, and how a value is encoded.
use Rattle.std.specs.Prelude.{◌≡◌, ℕ, ◌+◌, ◌-◌, ◌*◌, ◌/◌, ◌%◌, ◌^◌, ◌<◌, ◌≤◌, suc, zero, List, [], ◌∷◌, length, slice_index, nat_lt, if◌then◌else◌}

-- the most bytes that a varint has
abbrev pub max_varint_len : ℕ
max_varint_len = 10

-- the sum of the seven-bit groups, the first of them times 128 to the `i`
abbrev pub groups_from : ℕ → List ℕ → ℕ
groups_from i [] = 0
groups_from i (b ∷ bs) = b % 128 * 128 ^ i + groups_from (i + 1) bs

-- the value of a varint's bytes: bits above 64 are dropped
abbrev pub value_of : List ℕ → ℕ
value_of bs = groups_from 0 bs % 2 ^ 64

-- each of the first `n` bytes has the high bit
abbrev pub GoesOn : List ℕ → ℕ → Type 0
GoesOn bs n = (k : ℕ) → k < n → 128 ≤ slice_index bs k

-- the bytes are one varint of this value: one to ten bytes, and each but the last has the high bit
pub record IsVarint (bs : List ℕ) (value : ℕ) : Type 0 where
  pub not_empty : 1 ≤ length bs
  pub bounded : length bs ≤ max_varint_len
  pub goes_on : GoesOn bs (length bs - 1)
  pub ends : slice_index bs (length bs - 1) < 128
  pub value_is : value ≡ value_of bs

-- the bytes end before a varint does
pub record IsTruncated (bs : List ℕ) : Type 0 where
  pub few : length bs < max_varint_len
  pub goes_on : GoesOn bs (length bs)

-- the first ten bytes have the high bit, and no varint is so long
pub record IsOverlong (bs : List ℕ) : Type 0 where
  pub many : max_varint_len ≤ length bs
  pub goes_on : GoesOn bs max_varint_len

-- a value below 128 is its own byte; any other has its lowest seven bits with the high bit, then the rest's bytes
unfoldable pub encoded : ℕ → ℕ → List ℕ
encoded zero value = value ∷ []
encoded (suc more) value =
    if nat_lt value 128 then value ∷ [] else (value % 128 + 128) ∷ encoded more (value / 128)

-- the shortest encoding of a 64-bit value
unfoldable pub encoding : ℕ → List ℕ
encoding value = encoded 9 value

-- a value of `n` groups of seven bits and no fewer
pub record HasGroups (value n : ℕ) : Type 0 where
  pub not_empty : 1 ≤ n
  pub enough : value < 128 ^ n
  pub least : 1 < n → 128 ^ (n - 1) ≤ value

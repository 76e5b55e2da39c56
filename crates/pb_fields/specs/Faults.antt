use Rattle.std.specs.Prelude.{◌≡◌, ◌⊎◌, ℕ, ◌%◌, ◌^◌, ◌<◌, ◌≤◌, List, [], ◌∷◌, ◌++◌, length}
use Rattle.wire_varint.specs.Varint.{IsVarint, IsTruncated, IsOverlong}
use Rattle.pb_fields.specs.Field.{WireField, BeginsWithField}
use Rattle.pb_fields.specs.declared.fault.FieldFault.{FieldFault}
use Rattle.pb_fields.specs.declared.fault.FieldFault.TheVariants.{Short, BadVarint, BadKey, BadWire}

-- the bytes begin with a varint of this value, and behind it come these
abbrev pub BeginsWithVarint : List ℕ → ℕ → List ℕ → Type 0
BeginsWithVarint bs number behind = (w : List ℕ) × IsVarint w number × (bs ≡ w ++ behind)

-- the wire types behind whose key a varint stands: a value or a length
abbrev pub WantsVarint : ℕ → Type 0
WantsVarint wire = (wire ≡ 0) ⊎ (wire ≡ 2)

-- the wire types of a value: varint, eight bytes, length and bytes, four bytes
abbrev pub IsWireType : ℕ → Type 0
IsWireType wire = WantsVarint wire ⊎ ((wire ≡ 1) ⊎ (wire ≡ 5))

-- a key of a number that is none, being 0 or too great
abbrev pub HasNoNumber : ℕ → Type 0
HasNoNumber key = (2 ^ 32 ≤ key) ⊎ (key < 8)

-- behind the key the value of this wire type goes past the end
abbrev pub IsPastEnd : ℕ → List ℕ → Type 0
IsPastEnd wire bs =
    (WantsVarint wire × IsTruncated bs)
    ⊎ (((wire ≡ 1) × (length bs < 8))
    ⊎ (((wire ≡ 2) × (len : ℕ) × (behind : List ℕ) × BeginsWithVarint bs len behind × (length behind < len))
    ⊎ ((wire ≡ 5) × (length bs < 4))))

-- a varint of more than ten bytes stands in the key's place, or behind the key in a value's or length's
abbrev pub HasBadVarint : List ℕ → Type 0
HasBadVarint bs =
    IsOverlong bs ⊎ ((key : ℕ) × (behind : List ℕ) × BeginsWithVarint bs key behind × WantsVarint (key % 8) × IsOverlong behind)

-- the key has no number
abbrev pub HasBadKey : List ℕ → Type 0
HasBadKey bs = (key : ℕ) × (behind : List ℕ) × BeginsWithVarint bs key behind × HasNoNumber key

-- the key has no known wire type
abbrev pub HasBadWire : List ℕ → Type 0
HasBadWire bs = (key : ℕ) × (behind : List ℕ) × BeginsWithVarint bs key behind × ¬ IsWireType (key % 8)

-- the key is whole and its value isn't
abbrev pub HasShortValue : List ℕ → Type 0
HasShortValue bs = (key : ℕ) × (behind : List ℕ) × BeginsWithVarint bs key behind × IsPastEnd (key % 8) behind

-- what may be wrong with a field, in the order in which it is answered
pub data Wrong : Type 0 where
  bad_varint : Wrong
  short_key : Wrong
  bad_key : Wrong
  bad_wire : Wrong
  short_value : Wrong

-- when each holds
abbrev pub Holds : List ℕ → Wrong → Type 0
Holds bs bad_varint = HasBadVarint bs
Holds bs short_key = IsTruncated bs
Holds bs bad_key = HasBadKey bs
Holds bs bad_wire = HasBadWire bs
Holds bs short_value = HasShortValue bs

-- the faults in their order
abbrev pub fault_table : List (Wrong × FieldFault)
fault_table = (bad_varint, BadVarint) ∷ (short_key, Short) ∷ (bad_key, BadKey) ∷ (bad_wire, BadWire) ∷ (short_value, Short) ∷ []

-- the fault of the first row that holds
abbrev pub IsFirst : List ℕ → List (Wrong × FieldFault) → FieldFault → Type 0
IsFirst bs [] fault = ⊥
IsFirst bs (row ∷ rows) fault = (Holds bs row.0 × (fault ≡ row.1)) ⊎ ((¬ Holds bs row.0) × IsFirst bs rows fault)

-- why the bytes begin with no field
abbrev pub FirstFault : List ℕ → FieldFault → Type 0
FirstFault bs fault = IsFirst bs fault_table fault

-- there are bytes, and they begin with no field
pub record BeginsNoField (bs : List ℕ) : Type 0 where
  pub some : 1 ≤ length bs
  pub none : (field : WireField) (rest : List ℕ) → BeginsWithField bs field rest → ⊥

-- why no varint is at the front
abbrev pub VarintFails : List ℕ → FieldFault → Type 0
VarintFails bs Short = IsTruncated bs
VarintFails bs BadVarint = IsOverlong bs
VarintFails bs BadKey = ⊥
VarintFails bs BadWire = ⊥

-- why no value of this wire type is at the front
abbrev pub ValueFails : ℕ → List ℕ → FieldFault → Type 0
ValueFails wire bs Short = IsPastEnd wire bs
ValueFails wire bs BadVarint = WantsVarint wire × IsOverlong bs
ValueFails wire bs BadKey = ⊥
ValueFails wire bs BadWire = ¬ IsWireType wire

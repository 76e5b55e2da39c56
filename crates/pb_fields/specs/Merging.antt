-- A message's fields, merged into a value one after another.
use Rattle.std.specs.Prelude.{◌≡◌, List, [], ◌∷◌, ◌++◌}
use Rattle.pb_fields.specs.Field.{WireField}

-- the fold of a step over the fields: the first value becomes the second by merging each field in turn
abbrev pub MergesAll : {A : Type 0} → (A → WireField → A → Type 0) → A → List WireField → A → Type 0
MergesAll step before [] after = before ≡ after
MergesAll {A = A} step before (field ∷ fields) after = (next : A) × step before field next × MergesAll step next fields after

-- one of the fields is refused by this fault
abbrev pub RefusesOne : {F : Type 0} → (WireField → F → Type 0) → List WireField → F → Type 0
RefusesOne refuses fields fault =
    (before : List WireField) × (field : WireField) × (behind : List WireField)
    × (fields ≡ before ++ field ∷ behind) × refuses field fault

-- what a value has of the fields so far, it has with one field more
abbrev pub Tracks : {A : Type 0} → (A → List WireField → Type 0) → A → WireField → A → Type 0
Tracks has before field after = (fields : List WireField) → has before fields → has after (fields ++ field ∷ [])

-- no field is refused
abbrev pub RefusesNone : {F : Type 0} → WireField → F → Type 0
RefusesNone field fault = ⊥

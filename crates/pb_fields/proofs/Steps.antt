use Rattle.std.proofs.Common.{◌≡◌, ℕ, List, [], ◌∷◌, ◌++◌, Some, Result, Ok, Err, subst}
use Rattle.pb_fields.specs.Field.{WireField, seen}
use Rattle.pb_fields.specs.Message.{BeginsWithFields, Encodes}
use Rattle.pb_fields.specs.Next.{Yields}
use Rattle.pb_fields.specs.declared.field.Field.{Field}
use Rattle.pb_fields.specs.declared.fault.FieldFault.{FieldFault}
use Rattle.pb_fields.proofs.Lists.{fields_more, fields_stop}

-- a loop over the fields has read one more
pub read_more : (body before after : List ℕ) (fields : List WireField) (given : Result Field FieldFault) (field : Field) →
    BeginsWithFields body fields before → Yields before (Some given) after → given ≡ Ok field →
    BeginsWithFields body (fields ++ seen field ∷ []) after
read_more body before after fields given field read yields e =
    let P : Result Field FieldFault → Type 0 = λ r. Yields before (Some r) after in
    fields_more body after before fields (seen field) read (subst P e yields)

-- a loop over the fields has met a fault: the bytes stand for no list
pub read_none : (body before after : List ℕ) (fields others : List WireField) (given : Result Field FieldFault) (fault : FieldFault) →
    BeginsWithFields body fields before → Yields before (Some given) after → given ≡ Err fault → Encodes body others → ⊥
read_none body before after fields others given fault read yields e =
    let P : Result Field FieldFault → Type 0 = λ r. Yields before (Some r) after in
    fields_stop body before fields others read (subst P e yields).0

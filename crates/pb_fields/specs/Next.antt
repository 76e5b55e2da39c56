use Rattle.std.specs.Prelude.{◌≡◌, ℕ, List, [], Option, Some, None, Result, Ok, Err}
use Rattle.pb_fields.specs.Field.{BeginsWithField, seen}
use Rattle.pb_fields.specs.Faults.{BeginsNoField, FirstFault}
use Rattle.pb_fields.specs.declared.field.Field.{Field}
use Rattle.pb_fields.specs.declared.fields.Fields.{Fields}
use Rattle.pb_fields.specs.declared.fault.FieldFault.{FieldFault}

-- the bytes whose fields are still to come
abbrev pub left : Fields → List ℕ
left fields = fields.rest.now

-- What a step gives of the bytes that are left, and what is left behind it: nothing comes at the end, a field
-- is what the bytes begin with, and a fault says why they begin with none and ends the list.
abbrev pub Yields : List ℕ → Option (Result Field FieldFault) → List ℕ → Type 0
Yields bs None behind = (bs ≡ []) × (behind ≡ [])
Yields bs (Some (Ok field)) behind = BeginsWithField bs (seen field) behind
Yields bs (Some (Err fault)) behind = BeginsNoField bs × FirstFault bs fault × (behind ≡ [])

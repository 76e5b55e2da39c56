-- What a walk over a request's fields has seen, as it lies in the input.
use Rattle.std.specs.Prelude.{◌≡◌, ℕ, List, [], ◌∷◌, ◌++◌, Some, option_copied}
use Rattle.pb_fields.specs.Field.{WireField}
use Rattle.riak_msgs.specs.declared.key_view.KeyView.{KeyView}
use Rattle.riak_msgs.specs.declared.read_get.GetView.{GetView}
use Rattle.riak_msgs.specs.declared.read_put.PutFlags.{PutFlags}
use Rattle.riak_msgs.specs.declared.read_put.PutView.{PutView}
use Rattle.riak_msgs.specs.declared.read_put.PutParts.{PutParts}
use Rattle.riak_msgs.specs.declared.read_del.DelView.{DelView}
use Rattle.riak_msgs.specs.declared.fault.MsgFault.{MsgFault}
use Rattle.riak_msgs.specs.declared.fault.MsgFault.TheVariants.{NoMemory}
use Rattle.riak_msgs.specs.Picking.{bytes_at, each_bytes, last_bytes, flag_of}
use Rattle.riak_msgs.specs.Embedded.{ContentFields, StandForContent}
use Rattle.riak_msgs.specs.Seen.{IsSeenOf, no_fields}
use Rattle.riak_msgs.specs.Parts.{parts_in, parts_message}
use Rattle.riak_msgs.specs.Reading.{PutFields}

-- the last of each name was seen; a type has this field number
pub record AreNamesOf (type_number : ℕ) (names : KeyView) (fields : List WireField) : Type 0 where
  pub bucket : option_copied names.bucket ≡ last_bytes 1 fields
  pub key : option_copied names.key ≡ last_bytes 2 fields
  pub bucket_type : option_copied names.bucket_type ≡ last_bytes type_number fields

-- the names and the last of each option of a get were seen
pub record IsSeenGetOf (seen : GetView) (fields : List WireField) : Type 0 where
  pub names : AreNamesOf 13 seen.names fields
  pub if_modified : option_copied seen.if_modified ≡ last_bytes 7 fields
  pub head : seen.head ≡ flag_of 8 fields
  pub deletedvclock : seen.deletedvclock ≡ flag_of 9 fields

-- the names and the last context of a delete were seen
pub record IsSeenDelOf (seen : DelView) (fields : List WireField) : Type 0 where
  pub names : AreNamesOf 13 seen.names fields
  pub context : option_copied seen.context ≡ last_bytes 4 fields

-- the last of each bool of a put was seen
pub record AreFlagsOf (flags : PutFlags) (fields : List WireField) : Type 0 where
  pub return_body : flags.return_body ≡ flag_of 7 fields
  pub if_not_modified : flags.if_not_modified ≡ flag_of 9 fields
  pub if_none_match : flags.if_none_match ≡ flag_of 10 fields
  pub return_head : flags.return_head ≡ flag_of 11 fields

-- the names, the last context, the options and the content of a put were seen
pub record IsSeenPutOf (seen : PutView) (put : PutFields) : Type 0 where
  pub names : AreNamesOf 16 seen.names put.own
  pub context : option_copied seen.context ≡ last_bytes 3 put.own
  pub flags : AreFlagsOf seen.flags put.own
  pub content : IsSeenOf seen.content put.content

-- the field is an occurrence of a content, and stands for none
pub record HasBadContent (field : WireField) : Type 0 where
  pub bytes : List ℕ
  pub is : bytes_at 4 field ≡ Some bytes
  pub none : (part : ContentFields) → StandForContent (bytes ∷ []) part → ⊥

-- what was seen of a put whose fields so far are these
abbrev pub HasSeenPut : PutView → List WireField → Type 0
HasSeenPut view fields =
    (put : PutFields) × (put.own ≡ fields) × StandForContent (each_bytes 4 fields) put.content × IsSeenPutOf view put

-- the links or pairs in the content's occurrence that a field is, if it is one, were appended
abbrev pub AppendsOccurrence : PutParts → WireField → PutParts → Type 0
AppendsOccurrence before field after =
    (after.parts.kind ≡ before.parts.kind)
    × ((part : ContentFields) → StandForContent (each_bytes 4 (field ∷ [])) part →
    after.parts.out.items ≡ before.parts.out.items ++ parts_message before.parts.kind (parts_in before.parts.kind part))

-- where it stands for a content, only memory is refused
abbrev pub RefusesOccurrence : WireField → MsgFault → Type 0
RefusesOccurrence field fault = (part : ContentFields) → StandForContent (each_bytes 4 (field ∷ [])) part → fault ≡ NoMemory

-- before any field
abbrev pub no_put : PutFields
no_put = record { own = []; content = no_fields }

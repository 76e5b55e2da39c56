-- What a message says: its request, as a function of its fields, or why it is none.
use Rattle.std.specs.Prelude.{◌≡◌, ◌⊎◌, ℕ, ◌==◌, Bool, false, ◌||◌, List, [], ◌∷◌, length, Option, Some, None, is_none, unwrap_or, Result, Ok, Err, if◌then◌else◌}
use Rattle.std.specs.Option.{option_map_or}
use Rattle.pb_fields.specs.Field.{WireField}
use Rattle.pb_fields.specs.Message.{Encodes}
use Rattle.riak_msgs.specs.declared.key.Key.{Key}
use Rattle.riak_msgs.specs.declared.get.GetAsk.{GetAsk}
use Rattle.riak_msgs.specs.declared.put.PutAsk.{PutAsk}
use Rattle.riak_msgs.specs.declared.del.DelAsk.{DelAsk}
use Rattle.riak_msgs.specs.declared.request.Request.{Request}
use Rattle.riak_msgs.specs.declared.request.Request.TheVariants as requests
use Rattle.riak_msgs.specs.declared.fault.MsgFault.{MsgFault}
use Rattle.riak_msgs.specs.declared.fault.MsgFault.TheVariants as faults
use Rattle.riak_msgs.specs.Contents.{no_content}
use Rattle.riak_msgs.specs.BucketTypes.{default_type}
use Rattle.riak_msgs.specs.Picking.{each_bytes, last_bytes, flag_of}
use Rattle.riak_msgs.specs.Embedded.{ContentFields, StandForContent, content_of}

-- the first fault that holds
abbrev pub first_fault : List (Bool × MsgFault) → Option MsgFault
first_fault [] = None
first_fault (check ∷ checks) = if check.0 then Some check.1 else first_fault checks

-- a name that is given with no bytes
abbrev pub is_empty_name : Option (List ℕ) → Bool
is_empty_name name = option_map_or (λ bytes. length bytes == 0) name false

-- the bucket, the key or the type is; a type has this field number
abbrev pub has_empty_name : ℕ → List WireField → Bool
has_empty_name type_number fields =
    is_empty_name (last_bytes 1 fields) || is_empty_name (last_bytes 2 fields) || is_empty_name (last_bytes type_number fields)

-- the key that is named; where no type is given it is the default
abbrev pub named_key : ℕ → List WireField → Key
named_key type_number fields = record {
  bucket_type = unwrap_or (last_bytes type_number fields) default_type;
  bucket = unwrap_or (last_bytes 1 fields) [];
  key = unwrap_or (last_bytes 2 fields) [];
}

-- bytes that may be absent, where no bytes are as absent
abbrev pub bytes_or_none : ℕ → List WireField → List ℕ
bytes_or_none number fields = unwrap_or (last_bytes number fields) []

-- of a get and of a delete bucket and key are required, and no name is empty
abbrev pub names_fault : List WireField → Option MsgFault
names_fault fields = first_fault (
    (is_none (last_bytes 1 fields) || is_none (last_bytes 2 fields), faults.MissingField)
    ∷ (has_empty_name 13 fields, faults.EmptyName)
    ∷ [])

-- what the fields of an RpbGetReq ask for: of each field the last of its number and wire type; all others are dropped
abbrev pub get_of : List WireField → GetAsk
get_of fields = record {
  key = named_key 13 fields;
  if_modified = bytes_or_none 7 fields;
  head = flag_of 8 fields;
  deletedvclock = flag_of 9 fields;
}

-- what the fields of an RpbDelReq ask for, read so
abbrev pub del_of : List WireField → DelAsk
del_of fields = record { key = named_key 13 fields; context = bytes_or_none 4 fields }

-- the fields of a put, and those of its content
pub record PutFields : Type 0 where
  pub own : List WireField
  pub content : ContentFields

-- the bytes stand for the put's fields, and the occurrences of its content together for the content's
pub record EncodesPut (bs : List ℕ) (put : PutFields) : Type 0 where
  pub own : Encodes bs put.own
  pub content : StandForContent (each_bytes 4 put.own) put.content

-- RpbPutReq: bucket and content are required, no name is empty, and the key isn't made here
abbrev pub put_fault : PutFields → Option MsgFault
put_fault put = first_fault (
    (is_none (last_bytes 1 put.own) || is_none (content_of put.content), faults.MissingField)
    ∷ (has_empty_name 16 put.own, faults.EmptyName)
    ∷ (is_none (last_bytes 2 put.own), faults.NoKey)
    ∷ [])

-- what the fields of an RpbPutReq ask for, read so; the fields of its content are those of all occurrences, one after another
abbrev pub put_of : PutFields → PutAsk
put_of put = record {
  key = named_key 16 put.own;
  context = bytes_or_none 3 put.own;
  content = unwrap_or (content_of put.content) no_content;
  return_body = flag_of 7 put.own;
  return_head = flag_of 11 put.own;
  if_not_modified = flag_of 9 put.own;
  if_none_match = flag_of 10 put.own;
}

-- what is said: the fault, or else what was asked
abbrev pub said_by : {A : Type 0} → Option MsgFault → A → Result A MsgFault
said_by None asked = Ok asked
said_by (Some fault) asked = Err fault

-- a body says what its fields say; one that stands for no fields is a bad message
abbrev pub DecodesBy : {A F : Type 0} → (F → Type 0) → (F → Result A MsgFault) → Result A MsgFault → Type 0
DecodesBy {F = F} Holds decoded said =
    ((fields : F) × Holds fields × (said ≡ decoded fields))
    ⊎ (((fields : F) → Holds fields → ⊥) × (said ≡ Err faults.BadMessage))

-- a code of a request: of a ping, a get, a put or a delete
abbrev pub IsRequestCode : ℕ → Type 0
IsRequestCode code = (code ≡ 1) ⊎ ((code ≡ 9) ⊎ ((code ≡ 11) ⊎ (code ≡ 13)))

-- what a message says; a ping's body isn't looked at
abbrev pub Decodes : ℕ → List ℕ → Result Request MsgFault → Type 0
Decodes code body said =
    ((code ≡ 1) × (said ≡ Ok requests.Ping))
    ⊎ (((code ≡ 9) × DecodesBy (Encodes body) (λ fields. said_by (names_fault fields) (requests.Get (get_of fields))) said)
    ⊎ (((code ≡ 11) × DecodesBy (EncodesPut body) (λ put. said_by (put_fault put) (requests.Put (put_of put))) said)
    ⊎ (((code ≡ 13) × DecodesBy (Encodes body) (λ fields. said_by (names_fault fields) (requests.Del (del_of fields))) said)
    ⊎ (¬ (IsRequestCode code) × (said ≡ Err faults.UnknownCode)))))

-- what was read is what the message says, and memory is refused only where it says a request
abbrev pub Reads : ℕ → List ℕ → Result Request MsgFault → Type 0
Reads code body (Ok request) = Decodes code body (Ok request)
Reads code body (Err faults.UnknownCode) = Decodes code body (Err faults.UnknownCode)
Reads code body (Err faults.BadMessage) = Decodes code body (Err faults.BadMessage)
Reads code body (Err faults.MissingField) = Decodes code body (Err faults.MissingField)
Reads code body (Err faults.EmptyName) = Decodes code body (Err faults.EmptyName)
Reads code body (Err faults.NoKey) = Decodes code body (Err faults.NoKey)
Reads code body (Err faults.NoMemory) = (request : Request) × Decodes code body (Ok request)

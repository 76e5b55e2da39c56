-- The one encoding of a request.
use Rattle.std.specs.Prelude.{◌≢◌, ℕ, false, List, [], ◌++◌, if◌then◌else◌}
use Rattle.std.specs.Str.{bytes_eq}
use Rattle.riak_msgs.specs.declared.key.Key.{Key}
use Rattle.riak_msgs.specs.Contents.{Content}
use Rattle.riak_msgs.specs.declared.get.GetAsk.{GetAsk}
use Rattle.riak_msgs.specs.declared.put.PutAsk.{PutAsk}
use Rattle.riak_msgs.specs.declared.del.DelAsk.{DelAsk}
use Rattle.riak_msgs.specs.declared.request.Request.{Request}
use Rattle.riak_msgs.specs.declared.request.Request.TheVariants as requests
use Rattle.riak_msgs.specs.BucketTypes.{default_type}
use Rattle.riak_msgs.specs.Contents.{no_content}
use Rattle.pb_fields.specs.Encoding.{bytes_field, bool_field}
use Rattle.riak_msgs.specs.Encoding.{context_field, content_message}

-- a bucket type, where it isn't the default
abbrev pub type_field : ℕ → List ℕ → List ℕ
type_field number bucket_type = if bytes_eq bucket_type default_type then [] else bytes_field number bucket_type

-- RpbGetReq
abbrev pub get_body : GetAsk → List ℕ
get_body g =
    bytes_field 1 g.key.bucket
    ++ bytes_field 2 g.key.key
    ++ context_field 7 g.if_modified
    ++ bool_field 8 g.head
    ++ bool_field 9 g.deletedvclock
    ++ type_field 13 g.key.bucket_type

-- the options of a put
abbrev pub put_options : PutAsk → List ℕ
put_options p =
    bool_field 7 p.return_body
    ++ bool_field 9 p.if_not_modified
    ++ bool_field 10 p.if_none_match
    ++ bool_field 11 p.return_head

-- RpbPutReq
abbrev pub put_body : PutAsk → List ℕ
put_body p =
    bytes_field 1 p.key.bucket
    ++ bytes_field 2 p.key.key
    ++ context_field 3 p.context
    ++ bytes_field 4 (content_message p.content)
    ++ put_options p
    ++ type_field 16 p.key.bucket_type

-- RpbDelReq
abbrev pub del_body : DelAsk → List ℕ
del_body d =
    bytes_field 1 d.key.bucket
    ++ bytes_field 2 d.key.key
    ++ context_field 4 d.context
    ++ type_field 13 d.key.bucket_type

-- the message code of a request
abbrev pub request_code : Request → ℕ
request_code requests.Ping = 1
request_code (requests.Get g) = 9
request_code (requests.Put p) = 11
request_code (requests.Del d) = 13

-- The one body of a request: fields by rising number, repeated ones in their order, each varint in its shortest form. What is absent
-- isn't written, and neither is a false, nor the type `default`.
abbrev pub request_body : Request → List ℕ
request_body requests.Ping = []
request_body (requests.Get g) = get_body g
request_body (requests.Put p) = put_body p
request_body (requests.Del d) = del_body d

-- a key of the default type
abbrev pub default_key : List ℕ → List ℕ → Key
default_key bucket key = record { bucket_type = default_type; bucket = bucket; key = key }

-- a get of a key without options
abbrev pub unconditional_get : Key → GetAsk
unconditional_get key = record { key = key; if_modified = []; head = false; deletedvclock = false }

-- a put of a content under a key, after what a context has seen, without options
abbrev pub unconditional_put : Key → List ℕ → Content → PutAsk
unconditional_put key context content = record {
  key = key;
  context = context;
  content = content;
  return_body = false;
  return_head = false;
  if_not_modified = false;
  if_none_match = false;
}

-- a get that asks for a bucket and a key of the default type
abbrev pub plain_get : List ℕ → List ℕ → GetAsk
plain_get bucket key = unconditional_get (default_key bucket key)

-- a put of a value alone, under a key of the default type
abbrev pub plain_put : List ℕ → List ℕ → List ℕ → List ℕ → PutAsk
plain_put bucket key context value = unconditional_put (default_key bucket key) context (record no_content { value = value })

-- the names of a key have bytes
abbrev pub IsNamed : Key → Type 0
IsNamed k = (k.bucket_type ≢ []) × (k.bucket ≢ []) × (k.key ≢ [])

-- the names of a request's key have bytes
abbrev pub HasNames : Request → Type 0
HasNames requests.Ping = Unit {0}
HasNames (requests.Get g) = IsNamed g.key
HasNames (requests.Put p) = IsNamed p.key
HasNames (requests.Del d) = IsNamed d.key

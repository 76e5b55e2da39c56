-- The encoding of a request says this request.
use Rattle.std.proofs.Common.{◌≡◌, ◌≢◌, ℕ, ◌^◌, ◌<◌, ◌==◌, Bool, true, false, ◌||◌, List, [], ◌∷◌, ◌++◌, append_assoc, length, Option, Some, None, Ok, is_none, refl, ap, sym, subst, ◌∙◌, arith, inl, inr, if◌then◌else◌}
use Rattle.std.specs.Option.{unwrap_or}
use Rattle.std.proofs.Math.Dec.{eqb-suc-zero}
use Rattle.std.specs.Str.{bytes_eq}
use Rattle.pb_fields.specs.Field.{WireField}
use Rattle.pb_fields.specs.Message.{Encodes}
use Rattle.riak_msgs.specs.declared.key.Key.{Key}
use Rattle.riak_msgs.specs.declared.get.GetAsk.{GetAsk}
use Rattle.riak_msgs.specs.declared.put.PutAsk.{PutAsk}
use Rattle.riak_msgs.specs.declared.del.DelAsk.{DelAsk}
use Rattle.riak_msgs.specs.declared.request.Request.{Request}
use Rattle.riak_msgs.specs.declared.request.Request.TheVariants as requests
use Rattle.riak_msgs.specs.declared.fault.MsgFault.{MsgFault}
use Rattle.riak_msgs.specs.declared.fault.MsgFault.TheVariants as faults
use Rattle.riak_msgs.specs.Contents.{no_content}
use Rattle.pb_fields.specs.Encoding.{bytes_field, optional_field, bool_field}
use Rattle.riak_msgs.specs.Encoding.{content_message}
use Rattle.riak_msgs.specs.BucketTypes.{default_type}
use Rattle.riak_msgs.specs.Requests.{get_body, put_body, del_body, request_code, request_body, IsNamed, HasNames}
use Rattle.riak_msgs.specs.Picking.{last_bytes, flag_of}
use Rattle.riak_msgs.specs.Embedded.{StandForContent, content_of}
use Rattle.riak_msgs.specs.Reading.{first_fault, is_empty_name, has_empty_name, named_key, names_fault, get_of, del_of, PutFields, EncodesPut, put_fault, put_of, said_by, Decodes}
use Rattle.pb_fields.proofs.EncodedParts.{Part, string, optional, flag, encoded, encoded_behind-is, fields_of, parts_short, stands, bytes_field-shorter}
use Rattle.riak_msgs.specs.EncodedPicks.{each_bytes-fields_of, last_bytes-fields_of, flag_of-fields_of, last_or-only}
use Rattle.riak_msgs.specs.EncodedContents.{fields_in, content_stands, content_back}
use Rattle.riak_msgs.proofs.EncodedOptions.{some_bytes, context_field-is, unwrap_or-some_bytes, some_type, type_field-is, unwrap_or-some_type}

-- where no fault holds, what was asked is said
pub said_ok : {A : Type 0} (fault : Option MsgFault) (said asked : A) → fault ≡ None → said ≡ asked → Ok said ≡ said_by fault asked
said_ok fault said asked none same = ap Ok same ∙ ap (λ f. said_by f asked) (sym none)

has_bytes : (bs : List ℕ) → bs ≢ [] → (length bs == 0) ≡ false
has_bytes [] some = absurd (some refl)
has_bytes (b ∷ bs) some = eqb-suc-zero (length bs)

type_has_bytes : (t : List ℕ) (b : Bool) → t ≢ [] → is_empty_name (if b then None else Some t) ≡ false
type_has_bytes t true some = refl
type_has_bytes t false some = has_bytes t some

-- the fields of a key's names; the type has this field number
record NamesIn (number : ℕ) (fields : List WireField) (k : Key) : Type 0 where
  pub bucket : last_bytes 1 fields ≡ Some k.bucket
  pub key : last_bytes 2 fields ≡ Some k.key
  pub bucket_type : last_bytes number fields ≡ some_type k.bucket_type

named_key-is : (number : ℕ) (fields : List WireField) (k : Key) → NamesIn number fields k → named_key number fields ≡ k
named_key-is number fields k names =
    rw (names.bucket, names.key, names.bucket_type, unwrap_or-some_type k.bucket_type) refl

none_missing : (number : ℕ) (fields : List WireField) (k : Key) → NamesIn number fields k → is_none (last_bytes 1 fields) || is_none (last_bytes 2 fields) ≡ false
none_missing number fields k names = rw (names.bucket, names.key) refl

none_empty : (number : ℕ) (fields : List WireField) (k : Key) → NamesIn number fields k → IsNamed k → has_empty_name number fields ≡ false
none_empty number fields k names named =
    let bucket_type : is_empty_name (last_bytes number fields) ≡ false =
    ap is_empty_name names.bucket_type ∙ type_has_bytes k.bucket_type (bytes_eq k.bucket_type default_type) named.0 in
    let bucket : is_empty_name (last_bytes 1 fields) ≡ false = ap is_empty_name names.bucket ∙ has_bytes k.bucket named.1 in
    let key : is_empty_name (last_bytes 2 fields) ≡ false = ap is_empty_name names.key ∙ has_bytes k.key named.2 in
    rw (bucket, key, bucket_type) refl

get_parts : GetAsk → List Part
get_parts g =
    string 1 g.key.bucket
    ∷ string 2 g.key.key
    ∷ optional 7 (some_bytes g.if_modified)
    ∷ flag 8 g.head
    ∷ flag 9 g.deletedvclock
    ∷ optional 13 (some_type g.key.bucket_type)
    ∷ []

get_encoded : (g : GetAsk) → get_body g ≡ encoded (get_parts g)
unfolding get_parts
get_encoded g =
    rw (context_field-is 7 g.if_modified, type_field-is 13 g.key.bucket_type)
    (encoded_behind-is (bytes_field 1 g.key.bucket) (
    string 2 g.key.key
    ∷ optional 7 (some_bytes g.if_modified)
    ∷ flag 8 g.head
    ∷ flag 9 g.deletedvclock
    ∷ optional 13 (some_type g.key.bucket_type)
    ∷ []))

get_stands : (g : GetAsk) → length (get_body g) < 2 ^ 64 → Encodes (get_body g) (fields_of (get_parts g))
unfolding get_parts
get_stands g short = stands (get_body g) (get_parts g) (get_encoded g) (search arith) short

get_names : (g : GetAsk) → NamesIn 13 (fields_of (get_parts g)) g.key
unfolding get_parts
get_names g = record {
  bucket = last_bytes-fields_of 1 (get_parts g);
  key = last_bytes-fields_of 2 (get_parts g);
  bucket_type = last_bytes-fields_of 13 (get_parts g) ∙ last_or-only (some_type g.key.bucket_type);
}

-- names that have bytes have no fault
no_names_fault : (fields : List WireField) (k : Key) → IsNamed k → NamesIn 13 fields k → names_fault fields ≡ None
no_names_fault fields k named names =
    ap (λ b. if b then Some faults.MissingField else first_fault ((has_empty_name 13 fields, faults.EmptyName) ∷ [])) (none_missing 13 fields k names)
    ∙ ap (λ b. if b then Some faults.EmptyName else None) (none_empty 13 fields k names named)

-- bytes that are as absent where there are none
bytes_back : (number : ℕ) (fields : List WireField) (bs : List ℕ) → last_bytes number fields ≡ some_bytes bs →
    unwrap_or (last_bytes number fields) [] ≡ bs
bytes_back number fields bs is = ap (λ o. unwrap_or o []) is ∙ unwrap_or-some_bytes bs

-- the fields of a get
record GetIn (fields : List WireField) (g : GetAsk) : Type 0 where
  pub names : NamesIn 13 fields g.key
  pub if_modified : last_bytes 7 fields ≡ some_bytes g.if_modified
  pub head : flag_of 8 fields ≡ g.head
  pub deletedvclock : flag_of 9 fields ≡ g.deletedvclock

get_in : (g : GetAsk) → GetIn (fields_of (get_parts g)) g
unfolding get_parts
get_in g = record {
  names = get_names g;
  if_modified = last_bytes-fields_of 7 (get_parts g) ∙ last_or-only (some_bytes g.if_modified);
  head = flag_of-fields_of 8 (get_parts g) g.head refl;
  deletedvclock = flag_of-fields_of 9 (get_parts g) g.deletedvclock refl;
}

get_back : (fields : List WireField) (g : GetAsk) → GetIn fields g → get_of fields ≡ g
get_back fields g is =
    rw (named_key-is 13 fields g.key is.names, bytes_back 7 fields g.if_modified is.if_modified, is.head, is.deletedvclock) refl

get_said : (g : GetAsk) (fields : List WireField) → IsNamed g.key → GetIn fields g →
    Ok (requests.Get g) ≡ said_by (names_fault fields) (requests.Get (get_of fields))
get_said g fields named is =
    said_ok (names_fault fields) (requests.Get g) (requests.Get (get_of fields)) (no_names_fault fields g.key named is.names)
    (ap requests.Get (sym (get_back fields g is)))

del_parts : DelAsk → List Part
del_parts d =
    string 1 d.key.bucket
    ∷ string 2 d.key.key
    ∷ optional 4 (some_bytes d.context)
    ∷ optional 13 (some_type d.key.bucket_type)
    ∷ []

del_encoded : (d : DelAsk) → del_body d ≡ encoded (del_parts d)
unfolding del_parts
del_encoded d =
    rw (context_field-is 4 d.context, type_field-is 13 d.key.bucket_type)
    (encoded_behind-is (bytes_field 1 d.key.bucket) (
    string 2 d.key.key
    ∷ optional 4 (some_bytes d.context)
    ∷ optional 13 (some_type d.key.bucket_type)
    ∷ []))

del_stands : (d : DelAsk) → length (del_body d) < 2 ^ 64 → Encodes (del_body d) (fields_of (del_parts d))
unfolding del_parts
del_stands d short = stands (del_body d) (del_parts d) (del_encoded d) (search arith) short

-- the fields of a delete
record DelIn (fields : List WireField) (d : DelAsk) : Type 0 where
  pub names : NamesIn 13 fields d.key
  pub context : last_bytes 4 fields ≡ some_bytes d.context

del_in : (d : DelAsk) → DelIn (fields_of (del_parts d)) d
unfolding del_parts
del_in d = record {
  names = record {
    bucket = last_bytes-fields_of 1 (del_parts d);
    key = last_bytes-fields_of 2 (del_parts d);
    bucket_type = last_bytes-fields_of 13 (del_parts d) ∙ last_or-only (some_type d.key.bucket_type);
  };
  context = last_bytes-fields_of 4 (del_parts d) ∙ last_or-only (some_bytes d.context);
}

del_back : (fields : List WireField) (d : DelAsk) → DelIn fields d → del_of fields ≡ d
del_back fields d is = rw (named_key-is 13 fields d.key is.names, bytes_back 4 fields d.context is.context) refl

del_said : (d : DelAsk) (fields : List WireField) → IsNamed d.key → DelIn fields d →
    Ok (requests.Del d) ≡ said_by (names_fault fields) (requests.Del (del_of fields))
del_said d fields named is =
    said_ok (names_fault fields) (requests.Del d) (requests.Del (del_of fields)) (no_names_fault fields d.key named is.names)
    (ap requests.Del (sym (del_back fields d is)))

put_parts : PutAsk → List Part
put_parts p =
    string 1 p.key.bucket
    ∷ string 2 p.key.key
    ∷ optional 3 (some_bytes p.context)
    ∷ string 4 (content_message p.content)
    ∷ flag 7 p.return_body
    ∷ flag 9 p.if_not_modified
    ∷ flag 10 p.if_none_match
    ∷ flag 11 p.return_head
    ∷ optional 16 (some_type p.key.bucket_type)
    ∷ []

put_fields : PutAsk → PutFields
put_fields p = record { own = fields_of (put_parts p); content = fields_in p.content false }

-- four behind another, one after the other
four_behind : (x a b c d : List ℕ) → x ++ (a ++ b ++ c ++ d) ≡ x ++ a ++ b ++ c ++ d
four_behind x a b c d =
    sym (append_assoc x (a ++ b ++ c) d)
    ∙ ap (λ bs. bs ++ d) (sym (append_assoc x (a ++ b) c) ∙ ap (λ bs. bs ++ c) (sym (append_assoc x a b)))

put_encoded : (p : PutAsk) → put_body p ≡ encoded (put_parts p)
unfolding put_parts
put_encoded p =
    rw (context_field-is 3 p.context, type_field-is 16 p.key.bucket_type)
    (ap (λ bs. bs ++ optional_field 16 (some_type p.key.bucket_type))
    (four_behind (bytes_field 1 p.key.bucket ++ bytes_field 2 p.key.key ++ optional_field 3 (some_bytes p.context) ++ bytes_field 4 (content_message p.content))
    (bool_field 7 p.return_body) (bool_field 9 p.if_not_modified) (bool_field 10 p.if_none_match) (bool_field 11 p.return_head))
    ∙ encoded_behind-is (bytes_field 1 p.key.bucket) (
    string 2 p.key.key
    ∷ optional 3 (some_bytes p.context)
    ∷ string 4 (content_message p.content)
    ∷ flag 7 p.return_body
    ∷ flag 9 p.if_not_modified
    ∷ flag 10 p.if_none_match
    ∷ flag 11 p.return_head
    ∷ optional 16 (some_type p.key.bucket_type)
    ∷ []))

put_stands : (p : PutAsk) → length (put_body p) < 2 ^ 64 → EncodesPut (put_body p) (put_fields p)
unfolding put_parts put_fields
put_stands p short =
    let parts = put_parts p in
    let each_short = parts_short parts (subst (λ bs. length bs < 2 ^ 64) (put_encoded p) short) in
    record {
      own = stands (put_body p) parts (put_encoded p) (search arith) short;
      content = subst (λ bss. StandForContent bss (fields_in p.content false)) (sym (each_bytes-fields_of 4 parts))
          (content_stands p.content (bytes_field-shorter 4 (content_message p.content) each_short.1.1.1.0));
    }

put_names : (p : PutAsk) → NamesIn 16 (fields_of (put_parts p)) p.key
unfolding put_parts
put_names p = record {
  bucket = last_bytes-fields_of 1 (put_parts p);
  key = last_bytes-fields_of 2 (put_parts p);
  bucket_type = last_bytes-fields_of 16 (put_parts p) ∙ last_or-only (some_type p.key.bucket_type);
}

-- the fields of a put, and of its content
record PutIn (f : PutFields) (p : PutAsk) : Type 0 where
  pub names : NamesIn 16 f.own p.key
  pub context : last_bytes 3 f.own ≡ some_bytes p.context
  pub content : content_of f.content ≡ Some p.content
  pub return_body : flag_of 7 f.own ≡ p.return_body
  pub if_not_modified : flag_of 9 f.own ≡ p.if_not_modified
  pub if_none_match : flag_of 10 f.own ≡ p.if_none_match
  pub return_head : flag_of 11 f.own ≡ p.return_head

put_in : (p : PutAsk) → PutIn (put_fields p) p
unfolding put_parts put_fields
put_in p = record {
  names = put_names p;
  context = last_bytes-fields_of 3 (put_parts p) ∙ last_or-only (some_bytes p.context);
  content = content_back p.content false;
  return_body = flag_of-fields_of 7 (put_parts p) p.return_body refl;
  if_not_modified = flag_of-fields_of 9 (put_parts p) p.if_not_modified refl;
  if_none_match = flag_of-fields_of 10 (put_parts p) p.if_none_match refl;
  return_head = flag_of-fields_of 11 (put_parts p) p.return_head refl;
}

no_put_fault : (f : PutFields) (p : PutAsk) → IsNamed p.key → PutIn f p → put_fault f ≡ None
no_put_fault f p named is =
    let missing : is_none (last_bytes 1 f.own) || is_none (content_of f.content) ≡ false = rw (is.names.bucket, is.content) refl in
    let keyless : is_none (last_bytes 2 f.own) ≡ false = ap is_none is.names.key in
    ap (λ b. if b then Some faults.MissingField
    else first_fault ((has_empty_name 16 f.own, faults.EmptyName) ∷ (is_none (last_bytes 2 f.own), faults.NoKey) ∷ [])) missing
    ∙ ap (λ b. if b then Some faults.EmptyName else first_fault ((is_none (last_bytes 2 f.own), faults.NoKey) ∷ []))
    (none_empty 16 f.own p.key is.names named)
    ∙ ap (λ b. if b then Some faults.NoKey else None) keyless

put_back : (f : PutFields) (p : PutAsk) → PutIn f p → put_of f ≡ p
put_back f p is =
    let content : unwrap_or (content_of f.content) no_content ≡ p.content = ap (λ o. unwrap_or o no_content) is.content in
    rw (named_key-is 16 f.own p.key is.names, bytes_back 3 f.own p.context is.context, content, is.return_body, is.if_not_modified, is.if_none_match, is.return_head)
    refl

put_said : (p : PutAsk) (f : PutFields) → IsNamed p.key → PutIn f p →
    Ok (requests.Put p) ≡ said_by (put_fault f) (requests.Put (put_of f))
put_said p f named is =
    said_ok (put_fault f) (requests.Put p) (requests.Put (put_of f)) (no_put_fault f p named is) (ap requests.Put (sym (put_back f p is)))

pub request_says : (q : Request) → HasNames q → length (request_body q) < 2 ^ 64 → Decodes (request_code q) (request_body q) (Ok q)
unfolding put_fields
request_says requests.Ping named short = inl (refl, refl)
request_says (requests.Get g) named short =
    inr (inl (refl, inl (fields_of (get_parts g), get_stands g short, get_said g (fields_of (get_parts g)) named (get_in g))))
request_says (requests.Put p) named short =
    inr (inr (inl (refl, inl (put_fields p, put_stands p short, put_said p (put_fields p) named (put_in p)))))
request_says (requests.Del d) named short =
    inr (inr (inr (inl (refl, inl (fields_of (del_parts d), del_stands d short, del_said d (fields_of (del_parts d)) named (del_in d))))))

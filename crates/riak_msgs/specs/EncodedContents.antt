-- The encoding of a content stands for its fields, and these are the content: laws that the bytes which are kept of it rest on.
-- No clause names them.
use Rattle.std.proofs.Common.{◌≡◌, ℕ, ◌+◌, ◌^◌, ◌<◌, Bool, false, List, [], ◌∷◌, ◌++◌, length, map, Option, Some, option_and_then, option_map, refl, ap, sym, subst, ◌∙◌, arith, length-append}
use Rattle.std.specs.List.{AllZip}
use Rattle.std.proofs.lemmas.List.{append-nil}
use Rattle.pb_fields.specs.Field.{WireField}
use Rattle.pb_fields.specs.Message.{Encodes}
use Rattle.riak_msgs.specs.Content.{Link, Pair, Content}
use Rattle.pb_fields.specs.Encoding.{bytes_field, optional_field, repeated_field, bool_field}
use Rattle.riak_msgs.specs.ContentEncoding.{link_message, pair_message, content_message}
use Rattle.riak_msgs.specs.Picking.{last_bytes, flag_of}
use Rattle.riak_msgs.specs.Embedded.{all_of, link_of, pair_of, ContentFields, StandForContent, content_of}
use Rattle.pb_fields.proofs.EncodedParts.{Part, string, optional, each, flag, encoded, encoded_behind-is, fields_of, parts_short, stands, bytes_field-shorter}
use Rattle.riak_msgs.specs.EncodedPicks.{each_bytes-fields_of, last_bytes-fields_of, flag_of-fields_of, last_or-only, repeated_field-map}

-- each of the messages in a repeated field stands for what it is
pub each_stands : {A B : Type 0} (R : List ℕ → B → Type 0) (encode : A → List ℕ) (read : A → B) (n : ℕ) →
    ((x : A) → length (encode x) < 2 ^ 64 → R (encode x) (read x)) →
    (xs : List A) → length (repeated_field (λ x. x) n (map encode xs)) < 2 ^ 64 → AllZip R (map encode xs) (map read xs)
each_stands R encode read n one [] short = tt
each_stands R encode read n one (x ∷ xs) short =
    let behind = repeated_field (λ y. y) n (map encode xs) in
    let len : length (bytes_field n (encode x) ++ behind) ≡ length (bytes_field n (encode x)) + length behind =
    length-append (bytes_field n (encode x)) behind in
    (one x (bytes_field-shorter n (encode x) (omega arith)), each_stands R encode read n one xs (omega arith))

-- where each is given back, all are
map-back : {A B : Type 0} (of : B → A) (read : A → B) → ((x : A) → of (read x) ≡ x) → (xs : List A) → map of (map read xs) ≡ xs
map-back of read back [] = refl
map-back of read back (x ∷ xs) = ap (λ y. y ∷ map of (map read xs)) (back x) ∙ ap (λ ys. x ∷ ys) (map-back of read back xs)

pub all_of-back : {A B : Type 0} (of : B → Option A) (read : A → B) → ((x : A) → of (read x) ≡ Some x) → (xs : List A) →
    all_of (map of (map read xs)) ≡ Some xs
all_of-back of read back [] = refl
all_of-back of read back (x ∷ xs) =
    ap (λ o. option_and_then (λ first. option_map (λ rest. first ∷ rest) (all_of (map of (map read xs)))) o) (back x)
    ∙ ap (λ o. option_map (λ rest. x ∷ rest) o) (all_of-back of read back xs)

link_parts : Link → List Part
link_parts l = optional 1 l.bucket ∷ optional 2 l.key ∷ optional 3 l.tag ∷ []

pub link_fields : Link → List WireField
link_fields l = fields_of (link_parts l)

link_stands : (l : Link) → length (link_message l) < 2 ^ 64 → Encodes (link_message l) (link_fields l)
unfolding link_parts link_fields
link_stands l short =
    stands (link_message l) (link_parts l) (encoded_behind-is (optional_field 1 l.bucket) (optional 2 l.key ∷ optional 3 l.tag ∷ []))
    (search arith) short

link_is : (l : Link) (fields : List WireField) → last_bytes 1 fields ≡ l.bucket → last_bytes 2 fields ≡ l.key → last_bytes 3 fields ≡ l.tag → link_of fields ≡ l
link_is l fields bucket key tag = rw (bucket, key, tag) refl

link_back : (l : Link) → link_of (link_fields l) ≡ l
unfolding link_parts link_fields
link_back l =
    link_is l (link_fields l) (last_bytes-fields_of 1 (link_parts l) ∙ last_or-only l.bucket)
    (last_bytes-fields_of 2 (link_parts l) ∙ last_or-only l.key) (last_bytes-fields_of 3 (link_parts l) ∙ last_or-only l.tag)

pair_parts : Pair → List Part
pair_parts p = string 1 p.key ∷ optional 2 p.value ∷ []

pub pair_fields : Pair → List WireField
pair_fields p = fields_of (pair_parts p)

pair_stands : (p : Pair) → length (pair_message p) < 2 ^ 64 → Encodes (pair_message p) (pair_fields p)
unfolding pair_parts pair_fields
pair_stands p short =
    stands (pair_message p) (pair_parts p) (encoded_behind-is (bytes_field 1 p.key) (optional 2 p.value ∷ []))
    (search arith) short

pair_is : (p : Pair) (fields : List WireField) → last_bytes 1 fields ≡ Some p.key → last_bytes 2 fields ≡ p.value → pair_of fields ≡ Some p
pair_is p fields key value = rw (key, value) refl

pair_back : (p : Pair) → pair_of (pair_fields p) ≡ Some p
unfolding pair_parts pair_fields
pair_back p =
    pair_is p (pair_fields p) (last_bytes-fields_of 1 (pair_parts p)) (last_bytes-fields_of 2 (pair_parts p) ∙ last_or-only p.value)

-- a content, and whether it is a tombstone
parts_in : Content → Bool → List Part
parts_in c deleted =
    string 1 c.value
    ∷ optional 2 c.content_type
    ∷ optional 3 c.charset
    ∷ optional 4 c.content_encoding
    ∷ each 6 (map link_message c.links)
    ∷ each 9 (map pair_message c.usermeta)
    ∷ each 10 (map pair_message c.indexes)
    ∷ flag 11 deleted
    ∷ []

pub fields_in : Content → Bool → ContentFields
fields_in c deleted = record {
  own = fields_of (parts_in c deleted);
  links = map link_fields c.links;
  usermeta = map pair_fields c.usermeta;
  indexes = map pair_fields c.indexes;
}

in_parts : (c : Content) (deleted : Bool) → content_message c ++ bool_field 11 deleted ≡ encoded (parts_in c deleted)
unfolding parts_in
in_parts c deleted =
    rw (repeated_field-map link_message 6 c.links, repeated_field-map pair_message 9 c.usermeta, repeated_field-map pair_message 10 c.indexes)
    (encoded_behind-is (bytes_field 1 c.value) (
    optional 2 c.content_type
    ∷ optional 3 c.charset
    ∷ optional 4 c.content_encoding
    ∷ each 6 (map link_message c.links)
    ∷ each 9 (map pair_message c.usermeta)
    ∷ each 10 (map pair_message c.indexes)
    ∷ flag 11 deleted
    ∷ []))

pub flagged_stands : (c : Content) (deleted : Bool) → length (content_message c ++ bool_field 11 deleted) < 2 ^ 64 →
    StandForContent ((content_message c ++ bool_field 11 deleted) ∷ []) (fields_in c deleted)
unfolding parts_in fields_in
flagged_stands c deleted short =
    let bs = content_message c ++ bool_field 11 deleted in
    let parts = parts_in c deleted in
    let each_short = parts_short parts (subst (λ cs. length cs < 2 ^ 64) (in_parts c deleted) short) in
    record {
      parts = fields_of parts ∷ [];
      each = (stands bs parts (in_parts c deleted) (search arith) short, tt);
      own = sym (append-nil (fields_of parts));
      links = subst (λ bss. AllZip Encodes bss (map link_fields c.links)) (sym (each_bytes-fields_of 6 parts ∙ append-nil _))
          (each_stands Encodes link_message link_fields 6 link_stands c.links each_short.1.1.1.1.0);
      usermeta = subst (λ bss. AllZip Encodes bss (map pair_fields c.usermeta)) (sym (each_bytes-fields_of 9 parts ∙ append-nil _))
          (each_stands Encodes pair_message pair_fields 9 pair_stands c.usermeta each_short.1.1.1.1.1.0);
      indexes = subst (λ bss. AllZip Encodes bss (map pair_fields c.indexes)) (sym (each_bytes-fields_of 10 parts ∙ append-nil _))
          (each_stands Encodes pair_message pair_fields 10 pair_stands c.indexes each_short.1.1.1.1.1.1.0);
    }

content_is : (c : Content) (f : ContentFields) → last_bytes 1 f.own ≡ Some c.value → last_bytes 2 f.own ≡ c.content_type →
    last_bytes 3 f.own ≡ c.charset → last_bytes 4 f.own ≡ c.content_encoding → map link_of f.links ≡ c.links →
    all_of (map pair_of f.usermeta) ≡ Some c.usermeta → all_of (map pair_of f.indexes) ≡ Some c.indexes → content_of f ≡ Some c
content_is c f value content_type charset content_encoding links usermeta indexes =
    rw (value, usermeta, indexes, content_type, charset, content_encoding, links) refl

-- a content that is no tombstone
pub content_stands : (c : Content) → length (content_message c) < 2 ^ 64 → StandForContent (content_message c ∷ []) (fields_in c false)
content_stands c short =
    let same : content_message c ++ [] ≡ content_message c = append-nil (content_message c) in
    subst (λ bs. StandForContent (bs ∷ []) (fields_in c false)) same
    (flagged_stands c false (subst (λ bs. length bs < 2 ^ 64) (sym same) short))

pub content_back : (c : Content) (deleted : Bool) → content_of (fields_in c deleted) ≡ Some c
unfolding parts_in fields_in
content_back c deleted =
    let parts = parts_in c deleted in
    content_is c (fields_in c deleted)
    (last_bytes-fields_of 1 parts)
    (last_bytes-fields_of 2 parts ∙ last_or-only c.content_type)
    (last_bytes-fields_of 3 parts ∙ last_or-only c.charset)
    (last_bytes-fields_of 4 parts ∙ last_or-only c.content_encoding)
    (map-back link_of link_fields link_back c.links)
    (all_of-back pair_of pair_fields pair_back c.usermeta)
    (all_of-back pair_of pair_fields pair_back c.indexes)

pub flag_back : (c : Content) (deleted : Bool) → flag_of 11 (fields_in c deleted).own ≡ deleted
unfolding parts_in fields_in
flag_back c deleted = flag_of-fields_of 11 (parts_in c deleted) deleted refl

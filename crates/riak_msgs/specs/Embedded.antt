-- The messages within messages: links and pairs in a content, and the content itself.
use Rattle.std.specs.Prelude.{◌≡◌, ℕ, List, [], ◌∷◌, Option, Some, map, flat_map, option_map, option_and_then}
use Rattle.std.specs.List.{AllZip}
use Rattle.pb_fields.specs.Field.{WireField}
use Rattle.pb_fields.specs.Message.{Encodes}
use Rattle.riak_msgs.specs.Content.{Link, Pair, Content}
use Rattle.riak_msgs.specs.Picking.{each_bytes, last_bytes}

-- all of them, where each is there
abbrev pub all_of : {A : Type 0} → List (Option A) → Option (List A)
all_of [] = Some []
all_of (x ∷ xs) = option_and_then (λ first. option_map (λ rest. first ∷ rest) (all_of xs)) x

-- RpbLink: none of its fields is required
abbrev pub link_of : List WireField → Link
link_of fields = record { bucket = last_bytes 1 fields; key = last_bytes 2 fields; tag = last_bytes 3 fields }

-- RpbPair, where its key is there
abbrev pub pair_of : List WireField → Option Pair
pair_of fields = option_map (λ key. record { key = key; value = last_bytes 2 fields }) (last_bytes 1 fields)

-- the fields of a content, and those of each message in it
pub record ContentFields : Type 0 where
  pub own : List WireField
  pub links : List (List WireField)
  pub usermeta : List (List WireField)
  pub indexes : List (List WireField)

-- byte strings stand together for one content, as its occurrences do: its fields are those of all of them, one after the
-- other, and each message in it stands for its fields
pub record StandForContent (occurrences : List (List ℕ)) (content : ContentFields) : Type 0 where
  pub parts : List (List WireField)
  pub each : AllZip Encodes occurrences parts
  pub own : content.own ≡ flat_map (λ part. part) parts
  pub links : AllZip Encodes (each_bytes 6 content.own) content.links
  pub usermeta : AllZip Encodes (each_bytes 9 content.own) content.usermeta
  pub indexes : AllZip Encodes (each_bytes 10 content.own) content.indexes

-- RpbContent, where its value and the key of each pair are there
abbrev pub content_of : ContentFields → Option Content
content_of c =
    option_and_then (λ value. option_and_then (λ usermeta. option_map (λ indexes. record {
      value = value;
      content_type = last_bytes 2 c.own;
      charset = last_bytes 3 c.own;
      content_encoding = last_bytes 4 c.own;
      links = map link_of c.links;
      usermeta = usermeta;
      indexes = indexes;
    }) (all_of (map pair_of c.indexes))) (all_of (map pair_of c.usermeta))) (last_bytes 1 c.own)

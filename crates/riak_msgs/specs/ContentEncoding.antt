-- The one encoding of a content: fields by rising number, and what is absent is not encoded.
use Rattle.std.specs.Prelude.{ℕ, List, ◌++◌}
use Rattle.pb_fields.specs.Encoding.{bytes_field, optional_field, repeated_field}
use Rattle.riak_msgs.specs.Content.{Link, Pair, Content}

-- RpbLink
abbrev pub link_message : Link → List ℕ
link_message l = optional_field 1 l.bucket ++ optional_field 2 l.key ++ optional_field 3 l.tag

-- RpbPair
abbrev pub pair_message : Pair → List ℕ
pair_message p = bytes_field 1 p.key ++ optional_field 2 p.value

-- RpbContent, without whether it is a tombstone
abbrev pub content_message : Content → List ℕ
content_message c =
    bytes_field 1 c.value
    ++ optional_field 2 c.content_type
    ++ optional_field 3 c.charset
    ++ optional_field 4 c.content_encoding
    ++ repeated_field link_message 6 c.links
    ++ repeated_field pair_message 9 c.usermeta
    ++ repeated_field pair_message 10 c.indexes

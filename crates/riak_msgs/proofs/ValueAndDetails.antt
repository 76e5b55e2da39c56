-- The details behind a content's value.
use Rattle.std.proofs.Common.{◌≡◌, List, ℕ, ◌++◌, ap, ◌∙◌, append_assoc}
use Rattle.pb_fields.specs.Encoding.{bytes_field, optional_field, repeated_field}
use Rattle.riak_msgs.specs.Content.{Content}
use Rattle.riak_msgs.specs.ContentEncoding.{link_message, pair_message, content_message}

-- the fields behind the value
abbrev pub behind_value : Content → List ℕ
behind_value c =
    optional_field 2 c.content_type
    ++ optional_field 3 c.charset
    ++ optional_field 4 c.content_encoding
    ++ repeated_field link_message 6 c.links
    ++ repeated_field pair_message 9 c.usermeta
    ++ repeated_field pair_message 10 c.indexes

-- bytes in front of six others
in_front : (a b c d e f g : List ℕ) → a ++ b ++ c ++ d ++ e ++ f ++ g ≡ a ++ (b ++ c ++ d ++ e ++ f ++ g)
in_front a b c d e f g =
    ap (λ x. x ++ d ++ e ++ f ++ g) (append_assoc a b c)
    ∙ ap (λ x. x ++ e ++ f ++ g) (append_assoc a (b ++ c) d)
    ∙ ap (λ x. x ++ f ++ g) (append_assoc a (b ++ c ++ d) e)
    ∙ ap (λ x. x ++ g) (append_assoc a (b ++ c ++ d ++ e) f)
    ∙ append_assoc a (b ++ c ++ d ++ e ++ f) g

pub content_message-value : (c : Content) → content_message c ≡ bytes_field 1 c.value ++ behind_value c
content_message-value c =
    in_front (bytes_field 1 c.value) (optional_field 2 c.content_type) (optional_field 3 c.charset)
    (optional_field 4 c.content_encoding) (repeated_field link_message 6 c.links)
    (repeated_field pair_message 9 c.usermeta) (repeated_field pair_message 10 c.indexes)

-- The one encoding of messages: fields by rising number, and what is absent is not encoded.
use Rattle.std.specs.Prelude.{ℕ, List, [], ◌∷◌, ◌++◌}
pub use Rattle.pb_fields.specs.Encoding.{bytes_field, bool_field, repeated_field}
unfoldable pub use Rattle.pb_fields.specs.Encoding.{varint_encoding, varint_encoded}
pub use Rattle.riak_msgs.specs.ContentEncoding.{link_message, pair_message, content_message}
use Rattle.riak_msgs.specs.declared.shown.Shown.{Shown}

-- bytes of which none are as absent
abbrev pub context_field : ℕ → List ℕ → List ℕ
context_field number [] = []
context_field number (b ∷ bs) = bytes_field number (b ∷ bs)

-- RpbContent
abbrev pub shown_message : Shown → List ℕ
shown_message s = content_message s.content ++ bool_field 11 s.deleted

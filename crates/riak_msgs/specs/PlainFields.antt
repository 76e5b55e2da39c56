-- Fields of bytes in the form that most clients write: their one encoding, with a key of one byte and a length of one or two.
use Rattle.std.specs.Prelude.{◌≡◌, ℕ, ◌<◌, ◌≤◌, Bool, List, [], Option, IfSome, ◌++◌, length}
use Rattle.pb_fields.specs.Field.{WireField, byte_string}
use Rattle.pb_fields.specs.Encoding.{bytes_field, bool_field, optional_field}
unfoldable use Rattle.pb_fields.specs.Encoding.{varint_encoding}
use Rattle.riak_msgs.specs.Encoding.{context_field}
use Rattle.riak_msgs.specs.Content.{Content}
use Rattle.riak_msgs.specs.ContentEncoding.{content_message}

-- the bytes begin with the shortest form of a length that has one or two bytes, and behind it come these
abbrev pub BeginsWithLen : List ℕ → ℕ → List ℕ → Type 0
BeginsWithLen bs len behind = (bs ≡ varint_encoding len ++ behind) × (len < 16384)

-- a field of bytes
abbrev pub string_at : ℕ → List ℕ → WireField
string_at number content = record { number = number; value = byte_string content }

-- the bytes begin with the one encoding of a field of such bytes, and behind it come these
abbrev pub BeginsPlainly : ℕ → List ℕ → List ℕ → List ℕ → Type 0
BeginsPlainly number bs content behind = (bs ≡ bytes_field number content ++ behind) × (length content < 16384)

-- the bytes begin with the one encoding of bytes of which none are as absent, and behind it come these
abbrev pub BeginsWithContext : ℕ → List ℕ → List ℕ → List ℕ → Type 0
BeginsWithContext number bs context behind = (bs ≡ context_field number context ++ behind) × (length context < 16384)

-- the bytes begin with the one encoding of a bool, of which a false is absent, and behind it come these
abbrev pub BeginsWithFlag : ℕ → List ℕ → Bool → List ℕ → Type 0
BeginsWithFlag number bs flag behind = bs ≡ bool_field number flag ++ behind

-- the bytes begin with such fields of a bucket and a key, neither empty, and behind them come these
pub record BeginsWithNames (bs bucket key behind : List ℕ) : Type 0 where
  pub rest : List ℕ
  pub first : BeginsPlainly 1 bs bucket rest
  pub second : BeginsPlainly 2 rest key behind
  pub some_bucket : 1 ≤ length bucket
  pub some_key : 1 ≤ length key

-- the one encoding of a content
abbrev pub IsContentMessage : List ℕ → Type 0
IsContentMessage bs = (content : Content) × (bs ≡ content_message content)

-- the bytes begin with the plain field of a content, where there is one, and behind it come these
abbrev pub BeginsWithOptional : ℕ → List ℕ → Option (List ℕ) → List ℕ → Type 0
BeginsWithOptional number bs content behind = (bs ≡ optional_field number content ++ behind) × IfSome content (λ c. length c < 16384)

-- the plain fields of a content type, a character set and a content encoding, where they are there, and nothing else
pub record ArePlainDetails (bs : List ℕ) : Type 0 where
  pub content_type : Option (List ℕ)
  pub charset : Option (List ℕ)
  pub content_encoding : Option (List ℕ)
  pub behind_type : List ℕ
  pub behind_charset : List ℕ
  pub first : BeginsWithOptional 2 bs content_type behind_type
  pub second : BeginsWithOptional 3 behind_type charset behind_charset
  pub third : BeginsWithOptional 4 behind_charset content_encoding []

-- a plain field of a value, and such details
pub record IsPlainContent (bs : List ℕ) : Type 0 where
  pub value : List ℕ
  pub details : List ℕ
  pub begins : BeginsPlainly 1 bs value details
  pub are : ArePlainDetails details

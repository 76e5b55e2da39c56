-- The bytes that are kept of a content.
use Rattle.std.proofs.Common.{◌≡◌, ℕ, ◌+◌, ◌-◌, ◌^◌, ◌<◌, List, [], ◌∷◌, ◌++◌, length, take, drop, length-append, Some, ap, sym, subst, ◌∙◌, arith}
use Rattle.std.proofs.lemmas.List.{take_rest}
use Rattle.std.proofs.Math.Seq.{drop-append_seam}
use Rattle.pb_fields.specs.Encoding as fields
use Rattle.pb_fields.specs.Field.{BeginsWithField, WireField}
use Rattle.pb_fields.specs.Encoding.{bytes_field}
use Rattle.pb_fields.proofs.EncodedParts.{bytes_field-shorter, string_at}
use Rattle.pb_fields.proofs.Lists.{encoding_is_read}
use Rattle.pb_fields.proofs.Parts.{field_once, field_some}
use Rattle.riak_msgs.specs.Content.{Content}
use Rattle.riak_msgs.specs.ContentEncoding.{content_message}
use Rattle.riak_msgs.specs.Contents.{bare}
use Rattle.riak_msgs.specs.Picking.{bytes_at}
use Rattle.riak_msgs.specs.ContentOnce.{content_message-once}
use Rattle.riak_msgs.specs.KeptContent.{Keeps, content_kept}
use Rattle.riak_msgs.proofs.ValueAndDetails.{behind_value, content_message-value}

-- bytes keep the content of this encoding
pub kept_as : (bs : List ℕ) (kept : Keeps bs) (c : Content) → bs ≡ content_message c → content_kept bs kept ≡ c
unfolding content_kept
kept_as bs kept c is =
    let P : List ℕ → Type 0 = λ cs. length cs < 2 ^ 64 in
    content_message-once kept.content c (subst P (sym kept.is.0) kept.is.1) (kept.is.0 ∙ is)

-- the same bytes keep the same content
pub kept_same : (bs cs : List ℕ) (kept : Keeps bs) (other : Keeps cs) → bs ≡ cs → content_kept bs kept ≡ content_kept cs other
unfolding content_kept
kept_same bs cs kept other same = kept_as bs kept other.content (same ∙ sym other.is.0)

-- the encoding that is kept
pub kept_encoding : (bs : List ℕ) (kept : Keeps bs) → bs ≡ content_message (content_kept bs kept)
unfolding content_kept
kept_encoding bs kept = sym kept.is.0

pub keeps : (bs : List ℕ) (c : Content) → bs ≡ content_message c → length bs < 2 ^ 64 → Keeps bs
keeps bs c is short = record { content = c; is = (sym is, short) }

-- what lies behind the value's field
pub behind-drop : (c : Content) (encoding : List ℕ) (n : ℕ) → encoding ≡ content_message c → n ≡ 0 + length (bytes_field 1 c.value) →
    take (length encoding - n) (drop n encoding) ≡ behind_value c
behind-drop c encoding n is counted =
    let value = bytes_field 1 c.value in
    let same : n ≡ length value = omega arith in
    take_rest encoding n ∙ ap (λ m. drop m encoding) same ∙ ap (drop (length value)) (is ∙ content_message-value c)
    ∙ drop-append_seam value (behind_value c)

-- the same behind an empty value
pub content_message-bare : (c : Content) (head bs behind : List ℕ) → head ≡ 10 ∷ 0 ∷ [] → behind ≡ behind_value c → bs ≡ head ++ behind →
    bs ≡ content_message (bare c)
unfolding fields.varint_encoding fields.varint_encoded
content_message-bare c head bs behind empty last is =
    is ∙ ap (λ h. h ++ behind) empty ∙ ap (λ b. 10 ∷ 0 ∷ b) last ∙ sym (content_message-value (bare c))

-- the first field is the value
pub value_begins : (c : Content) (encoding : List ℕ) → encoding ≡ content_message c → length encoding < 2 ^ 64 →
    BeginsWithField encoding (string_at 1 c.value) (behind_value c)
value_begins c encoding is short =
    let field = bytes_field 1 c.value in
    let same : encoding ≡ field ++ behind_value c = is ∙ content_message-value c in
    let len : length encoding ≡ length field + length (behind_value c) = ap length same ∙ length-append field (behind_value c) in
    let fits = bytes_field-shorter 1 c.value (omega arith) in
    let P : List ℕ → Type 0 = λ bs. BeginsWithField bs (string_at 1 c.value) (behind_value c) in
    subst P (sym same) (encoding_is_read (string_at 1 c.value) (behind_value c) (record { number = (omega arith, omega arith); value = fits }))

pub value_some : (c : Content) (encoding : List ℕ) → encoding ≡ content_message c → length encoding < 2 ^ 64 → encoding ≡ [] → ⊥
value_some c encoding is short none =
    let P : List ℕ → Type 0 = λ bs. BeginsWithField bs (string_at 1 c.value) (behind_value c) in
    let some = field_some [] (behind_value c) (string_at 1 c.value) (subst P none (value_begins c encoding is short)) in
    omega arith

pub value_first : (c : Content) (encoding behind : List ℕ) (field : WireField) → encoding ≡ content_message c → length encoding < 2 ^ 64 →
    BeginsWithField encoding field behind → bytes_at 1 field ≡ Some c.value
value_first c encoding behind field is short begins =
    ap (bytes_at 1) (field_once encoding behind (behind_value c) field (string_at 1 c.value) begins (value_begins c encoding is short)).0

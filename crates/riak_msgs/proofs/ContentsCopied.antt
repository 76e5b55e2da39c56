-- A walk over the fields of a content that copies the messages in them.
use Rattle.std.proofs.Common.{◌≡◌, ℕ, List, [], ◌∷◌, ◌++◌, refl, sym, subst, append_assoc}
use Rattle.std.specs.Prelude.{filter_map}
use Rattle.std.proofs.lemmas.List.{append-nil}
use Rattle.pb_fields.specs.Field.{WireField}
use Rattle.pb_fields.specs.Message.{Encodes}
use Rattle.riak_msgs.specs.Content.{Link, Pair, Content}
use Rattle.riak_msgs.specs.Embedded.{ContentFields, link_of, pair_of}
use Rattle.riak_msgs.specs.Seen.{Copies, HoldContent, merged, no_fields}
use Rattle.riak_msgs.specs.ContentOnce.{same_content}
use Rattle.riak_msgs.proofs.Contents.{with_parts-no_fields}
use Rattle.riak_msgs.proofs.ContentsWalked.{alone, string_at}

-- nothing behind a content, and one content behind another
pub merged-no_fields : (c : ContentFields) → merged c no_fields ≡ c
merged-no_fields c =
    same_content (merged c no_fields) c (append-nil c.own) (append-nil c.links) (append-nil c.usermeta) (append-nil c.indexes)

pub merged-merged : (c d e : ContentFields) → merged (merged c d) e ≡ merged c (merged d e)
merged-merged c d e = same_content (merged (merged c d) e) (merged c (merged d e))
    (append_assoc c.own d.own e.own) (append_assoc c.links d.links e.links)
    (append_assoc c.usermeta d.usermeta e.usermeta) (append_assoc c.indexes d.indexes e.indexes)

-- a link, and a pair
pub Copies-link : (content : Content) (field : WireField) (bytes : List ℕ) (links : List Link) (fields : List WireField) →
    field ≡ string_at 6 bytes → Encodes bytes fields → links ≡ content.links ++ link_of fields ∷ [] →
    Copies content field (record content { links = links })
Copies-link content field bytes links fields e stands is =
    let f = string_at 6 bytes in
    let P : WireField → Type 0 = λ g. Copies content g (record content { links = links }) in
    subst P (sym e) (
      record (alone f) { links = fields ∷ [] },
      record { own = refl; links = (stands, tt); usermeta = tt; indexes = tt },
      rw (is, append-nil content.usermeta, append-nil content.indexes) refl,
    )

pub Copies-usermeta : (content : Content) (field : WireField) (bytes : List ℕ) (pairs : List Pair) (fields : List WireField) →
    field ≡ string_at 9 bytes → Encodes bytes fields → pairs ≡ content.usermeta ++ filter_map pair_of (fields ∷ []) →
    Copies content field (record content { usermeta = pairs })
Copies-usermeta content field bytes pairs fields e stands is =
    let f = string_at 9 bytes in
    let P : WireField → Type 0 = λ g. Copies content g (record content { usermeta = pairs }) in
    subst P (sym e) (
      record (alone f) { usermeta = fields ∷ [] },
      record { own = refl; links = tt; usermeta = (stands, tt); indexes = tt },
      rw (is, append-nil content.links, append-nil content.indexes) refl,
    )

pub Copies-index : (content : Content) (field : WireField) (bytes : List ℕ) (pairs : List Pair) (fields : List WireField) →
    field ≡ string_at 10 bytes → Encodes bytes fields → pairs ≡ content.indexes ++ filter_map pair_of (fields ∷ []) →
    Copies content field (record content { indexes = pairs })
Copies-index content field bytes pairs fields e stands is =
    let f = string_at 10 bytes in
    let P : WireField → Type 0 = λ g. Copies content g (record content { indexes = pairs }) in
    subst P (sym e) (
      record (alone f) { indexes = fields ∷ [] },
      record { own = refl; links = tt; usermeta = tt; indexes = (stands, tt) },
      rw (is, append-nil content.links, append-nil content.usermeta) refl,
    )

-- a field in which no message is
pub Copies-none : (content : Content) (field : WireField) → HoldContent (field ∷ []) (alone field) → Copies content field content
Copies-none content field holds = (alone field, holds, sym (with_parts-no_fields content))

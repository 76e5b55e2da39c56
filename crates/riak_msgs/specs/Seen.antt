-- What a walk over fields has seen, as it lies in the input.
use Rattle.std.specs.Prelude.{◌≡◌, ◌||◌, ◌++◌, List, [], ◌∷◌, map, filter_map, Bool, false, option_copied, is_none, unwrap_or}
use Rattle.std.specs.List.{AllZip, list_any}
use Rattle.pb_fields.specs.Field.{WireField}
use Rattle.pb_fields.specs.Message.{Encodes}
use Rattle.riak_msgs.specs.Contents.{Content}
use Rattle.riak_msgs.specs.declared.fault.MsgFault.{MsgFault}
use Rattle.riak_msgs.specs.declared.fault.MsgFault.TheVariants.{NoMemory}
use Rattle.riak_msgs.specs.declared.pairs_and_links.PairView.{PairView}
use Rattle.riak_msgs.specs.declared.content_view.ContentView.{ContentView}
use Rattle.riak_msgs.specs.Picking.{each_bytes, last_bytes, flag_of}
use Rattle.riak_msgs.specs.Embedded.{ContentFields, link_of, pair_of}

-- the last of the byte strings of the numbers 1, 2 and 3 was seen
pub record IsPartOf (seen : PairView) (fields : List WireField) : Type 0 where
  pub first : option_copied seen.first ≡ last_bytes 1 fields
  pub second : option_copied seen.second ≡ last_bytes 2 fields
  pub third : option_copied seen.third ≡ last_bytes 3 fields

-- some pair lacks its key
abbrev pub misses_key : List (List WireField) → Bool
misses_key pairs = list_any (λ pair. is_none (pair_of pair)) pairs

-- a content without links and pairs
abbrev pub HasNoParts : ContentFields → Type 0
HasNoParts c = (c.links ≡ []) × (c.usermeta ≡ []) × (c.indexes ≡ [])

-- the last of each scalar was seen, whether some pair lacks its key, and which links and pairs there are
pub record IsSeenOf (seen : ContentView) (c : ContentFields) : Type 0 where
  pub value : option_copied seen.value ≡ last_bytes 1 c.own
  pub content_type : option_copied seen.content_type ≡ last_bytes 2 c.own
  pub charset : option_copied seen.charset ≡ last_bytes 3 c.own
  pub content_encoding : option_copied seen.content_encoding ≡ last_bytes 4 c.own
  pub deleted : seen.deleted ≡ flag_of 11 c.own
  pub misses_key : seen.misses_key ≡ misses_key c.usermeta || misses_key c.indexes
  pub no_links : seen.has_links ≡ false → c.links ≡ []
  pub no_usermeta : seen.has_usermeta ≡ false → c.usermeta ≡ []
  pub no_indexes : seen.has_indexes ≡ false → c.indexes ≡ []

-- the content's fields are these, and each message in them stands for its fields
pub record HoldContent (fields : List WireField) (c : ContentFields) : Type 0 where
  pub own : c.own ≡ fields
  pub links : AllZip Encodes (each_bytes 6 fields) c.links
  pub usermeta : AllZip Encodes (each_bytes 9 fields) c.usermeta
  pub indexes : AllZip Encodes (each_bytes 10 fields) c.indexes

-- before any field
abbrev pub no_fields : ContentFields
no_fields = record { own = []; links = []; usermeta = []; indexes = [] }

-- the fields of one content, and of a later occurrence of it
abbrev pub merged : ContentFields → ContentFields → ContentFields
merged c part = record {
  own = c.own ++ part.own;
  links = c.links ++ part.links;
  usermeta = c.usermeta ++ part.usermeta;
  indexes = c.indexes ++ part.indexes;
}

-- the content of the scalars alone
abbrev pub scalars_of : ContentFields → Content
scalars_of c = record {
  value = unwrap_or (last_bytes 1 c.own) [];
  content_type = last_bytes 2 c.own;
  charset = last_bytes 3 c.own;
  content_encoding = last_bytes 4 c.own;
  links = [];
  usermeta = [];
  indexes = [];
}

-- a content with the links and pairs of these fields behind its own; a pair without its key is left out
abbrev pub with_parts : Content → ContentFields → Content
with_parts content part = record content {
  links = content.links ++ map link_of part.links;
  usermeta = content.usermeta ++ filter_map pair_of part.usermeta;
  indexes = content.indexes ++ filter_map pair_of part.indexes;
}

-- one more field was seen: the messages in it stand for fields, and what was seen of a content is so with them
abbrev pub Sees : ContentView → WireField → ContentView → Type 0
Sees before field after =
    (part : ContentFields)
    × HoldContent (field ∷ []) part
    × ((c : ContentFields) → IsSeenOf before c → IsSeenOf after (merged c part))

-- a message in the field stands for no fields
abbrev pub HoldsNone : WireField → Type 0
HoldsNone field = (part : ContentFields) → HoldContent (field ∷ []) part → ⊥

-- one more field was copied: the messages in it stand for fields, and are put behind the content's
abbrev pub Copies : Content → WireField → Content → Type 0
Copies before field after =
    (part : ContentFields) × HoldContent (field ∷ []) part × (after ≡ with_parts before part)

-- where the messages in the field stand for fields, only memory is refused
abbrev pub RefusesToCopy : WireField → MsgFault → Type 0
RefusesToCopy field fault = (part : ContentFields) → HoldContent (field ∷ []) part → fault ≡ NoMemory

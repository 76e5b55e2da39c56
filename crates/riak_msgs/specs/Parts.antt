-- The links and pairs of a content, each encoded as it is met.
use Rattle.std.specs.Prelude.{◌≡◌, ℕ, List, [], ◌∷◌, ◌++◌, Option, Some, filter_map, option_map}
use Rattle.pb_fields.specs.Field.{WireField}
use Rattle.pb_fields.specs.Encoding.{repeated_field}
use Rattle.riak_msgs.specs.ContentEncoding.{link_message, pair_message}
use Rattle.riak_msgs.specs.Embedded.{ContentFields, link_of, pair_of}
use Rattle.riak_msgs.specs.ContentOnce.{EachStand}
use Rattle.riak_msgs.specs.declared.parts_encoder.PartKind.{PartKind}
use Rattle.riak_msgs.specs.declared.parts_encoder.PartKind.TheVariants as kinds
use Rattle.riak_msgs.specs.declared.parts_encoder.PartsEncoder.{PartsEncoder}

-- the number of its field
abbrev pub part_number : PartKind → ℕ
part_number kinds.Link = 6
part_number kinds.Usermeta = 9
part_number kinds.Index = 10

-- the messages of this kind in a content
abbrev pub parts_in : PartKind → ContentFields → List (List WireField)
parts_in kinds.Link c = c.links
parts_in kinds.Usermeta c = c.usermeta
parts_in kinds.Index c = c.indexes

-- the one encoding of such a message; a pair without its key has none
abbrev pub part_message : PartKind → List WireField → Option (List ℕ)
part_message kinds.Link fields = Some (link_message (link_of fields))
part_message kinds.Usermeta fields = option_map pair_message (pair_of fields)
part_message kinds.Index fields = option_map pair_message (pair_of fields)

-- the fields of such messages, in their order
abbrev pub parts_message : PartKind → List (List WireField) → List ℕ
parts_message kind parts = repeated_field (λ bytes. bytes) (part_number kind) (filter_map (part_message kind) parts)

-- the message of its kind that a field is, if it is one, was appended
abbrev pub Appends : PartsEncoder → WireField → PartsEncoder → Type 0
Appends before field after =
    (after.kind ≡ before.kind)
    × ((parts : List (List WireField)) → EachStand (part_number before.kind) (field ∷ []) parts →
    after.out.items ≡ before.out.items ++ parts_message before.kind parts)

-- The encoding of a content in a reply stands for its fields, and these are the content.
use Rattle.std.proofs.Common.{◌≡◌, ◌^◌, ◌<◌, ◌∷◌, [], length, Some, refl}
use Rattle.riak_msgs.specs.declared.shown.Shown.{Shown}
use Rattle.riak_msgs.specs.Encoding.{shown_message}
use Rattle.riak_msgs.specs.Picking.{flag_of}
use Rattle.riak_msgs.specs.Embedded.{ContentFields, StandForContent, content_of}
use Rattle.riak_msgs.specs.ReadingReplies.{shown_of}
use Rattle.riak_msgs.specs.EncodedContents.{fields_in, flagged_stands, content_back, flag_back}

abbrev pub shown_fields : Shown → ContentFields
shown_fields s = fields_in s.content s.deleted

pub shown_stands : (s : Shown) → length (shown_message s) < 2 ^ 64 → StandForContent (shown_message s ∷ []) (shown_fields s)
shown_stands s short = flagged_stands s.content s.deleted short

shown_is : (s : Shown) (f : ContentFields) → content_of f ≡ Some s.content → flag_of 11 f.own ≡ s.deleted → shown_of f ≡ Some s
shown_is s f content deleted = rw (content, deleted) refl

pub shown_back : (s : Shown) → shown_of (shown_fields s) ≡ Some s
shown_back s = shown_is s (shown_fields s) (content_back s.content s.deleted) (flag_back s.content s.deleted)

-- What a walk over a reply's fields has seen, and what it says of the reply.
use Rattle.std.specs.Prelude.{◌≡◌, ◌||◌, ◌++◌, false, List, [], ◌∷◌, ℕ, Result, Ok, Err, map, option_copied, is_none, is_some, unwrap_or}
use Rattle.std.specs.List.{AllZip}
use Rattle.pb_fields.specs.Field.{WireField}
use Rattle.pb_fields.specs.Message.{Encodes}
use Rattle.riak_msgs.specs.declared.get.GetReply.{GetReply}
use Rattle.riak_msgs.specs.declared.reply.Reply.{Reply}
use Rattle.riak_msgs.specs.declared.reply.Reply.TheVariants as replies
use Rattle.riak_msgs.specs.declared.shown.Shown.{Shown}
use Rattle.riak_msgs.specs.declared.text.Text.TheVariants.{BadMessage}
use Rattle.riak_msgs.specs.declared.fault.MsgFault.{MsgFault}
use Rattle.riak_msgs.specs.declared.fault.MsgFault.TheVariants as faults
use Rattle.riak_msgs.specs.declared.reply_view.ErrorView.{ErrorView}
use Rattle.riak_msgs.specs.declared.reply_view.ReplyView.{ReplyView}
use Rattle.riak_msgs.specs.Picking.{each_bytes, last_bytes, last_varint, flag_of}
use Rattle.riak_msgs.specs.Embedded.{ContentFields, StandForContent, content_of}
use Rattle.riak_msgs.specs.Seen.{scalars_of, with_parts}
use Rattle.riak_msgs.specs.Reading.{DecodesBy, said_by}
use Rattle.riak_msgs.specs.ReadingReplies.{ShownFields, EncodesShown, contents_of, shown_fault, get_reply_of, error_fault, text_in}

-- the last text was seen, and whether a number is there
pub record IsSeenError (seen : ErrorView) (fields : List WireField) : Type 0 where
  pub text : option_copied seen.text ≡ last_bytes 1 fields
  pub has_number : seen.has_number ≡ is_some (last_varint 2 fields)

-- the content of these fields where it is whole
abbrev pub whole_of : ContentFields → Shown
whole_of c = record { content = with_parts (scalars_of c) c; deleted = flag_of 11 c.own }

-- the last context and flag were seen, whether some content isn't whole, and each content was copied where memory was there
pub record IsSeenReply (seen : ReplyView) (reply : ShownFields) : Type 0 where
  pub context : option_copied seen.context ≡ last_bytes 2 reply.own
  pub unchanged : seen.unchanged ≡ flag_of 3 reply.own
  pub misses_field : seen.misses_field ≡ is_none (contents_of reply)
  pub contents : seen.misses_field ≡ false → seen.lacks_memory ≡ false → seen.contents ≡ map whole_of reply.contents

-- these fields are those of the contents that a field of a reply has, of which there is one at most
abbrev pub ContentsIn : WireField → List ContentFields → Type 0
ContentsIn field contents = AllZip (λ content fields. StandForContent (content ∷ []) fields) (each_bytes 1 (field ∷ [])) contents

-- what was seen of a reply whose fields so far are these
abbrev pub HasSeenReply : ReplyView → List WireField → Type 0
HasSeenReply view fields =
    (reply : ShownFields) × (reply.own ≡ fields)
    × AllZip (λ content fields. StandForContent (content ∷ []) fields) (each_bytes 1 fields) reply.contents
    × IsSeenReply view reply

-- before any field
abbrev pub no_reply : ShownFields
no_reply = record { own = []; contents = [] }

-- a content was seen, and copied where memory was there
pub record MergesContent (before : ReplyView) (c : ContentFields) (after : ReplyView) : Type 0 where
  pub context : after.context ≡ before.context
  pub unchanged : after.unchanged ≡ before.unchanged
  pub misses_field : after.misses_field ≡ before.misses_field || is_none (content_of c)
  pub memory : after.misses_field ≡ false → after.lacks_memory ≡ false → before.lacks_memory ≡ false
  pub contents : after.misses_field ≡ false → after.lacks_memory ≡ false → after.contents ≡ before.contents ++ whole_of c ∷ []

-- the field is a content, and stands for none
abbrev pub RefusesContent : WireField → Type 0
RefusesContent field = (contents : List ContentFields) → ContentsIn field contents → ⊥

-- what the body of an error says
abbrev pub DecodesError : List ℕ → Result Reply MsgFault → Type 0
DecodesError body said =
    DecodesBy (Encodes body) (λ fields. said_by (error_fault fields) (replies.Error (unwrap_or (text_in fields) BadMessage))) said

-- what the body of a get's reply says; that of a put's says no more
abbrev pub DecodesShown : List ℕ → Result GetReply MsgFault → Type 0
DecodesShown body said = DecodesBy (EncodesShown body) (λ reply. said_by (shown_fault reply) (get_reply_of reply)) said

-- what was read is what the body says, and memory is refused only where it says a reply
abbrev pub ReadsShown : List ℕ → Result GetReply MsgFault → Type 0
ReadsShown body (Ok reply) = DecodesShown body (Ok reply)
ReadsShown body (Err faults.UnknownCode) = ⊥
ReadsShown body (Err faults.BadMessage) = DecodesShown body (Err faults.BadMessage)
ReadsShown body (Err faults.MissingField) = DecodesShown body (Err faults.MissingField)
ReadsShown body (Err faults.EmptyName) = ⊥
ReadsShown body (Err faults.NoKey) = ⊥
ReadsShown body (Err faults.NoMemory) = (reply : GetReply) × DecodesShown body (Ok reply)

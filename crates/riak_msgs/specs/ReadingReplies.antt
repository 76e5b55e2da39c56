-- What a reply says to a client: a function of its fields, or why it is none.
use Rattle.std.specs.Prelude.{◌≡◌, ◌⊎◌, ℕ, ◌||◌, ◌&&◌, List, [], ◌∷◌, map, find, Option, is_none, is_some, unwrap_or, option_map, option_and_then, Result, Ok, Err}
use Rattle.std.specs.List.{AllZip}
use Rattle.std.specs.Str.{bytes_eq}
use Rattle.pb_fields.specs.Field.{WireField}
use Rattle.pb_fields.specs.Message.{Encodes}
use Rattle.riak_msgs.specs.declared.text.Text.{Text}
use Rattle.riak_msgs.specs.declared.text.Text.TheVariants.{UnknownCode, BadMessage, MissingField, EmptyName, NoKey, NoMemory, MatchFound, Modified, NotFound, BadContext, TooManySiblings, ClockFull, EpochsUsedUp, CounterUsedUp, Moved, HistoryFull, BadFrame, FrameTooLarge}
use Rattle.riak_msgs.specs.declared.get.GetReply.{GetReply}
use Rattle.riak_msgs.specs.declared.put.PutReply.{PutReply}
use Rattle.riak_msgs.specs.declared.shown.Shown.{Shown}
use Rattle.riak_msgs.specs.declared.reply.Reply.{Reply}
use Rattle.riak_msgs.specs.declared.reply.Reply.TheVariants as replies
use Rattle.riak_msgs.specs.declared.fault.MsgFault.{MsgFault}
use Rattle.riak_msgs.specs.declared.fault.MsgFault.TheVariants as faults
use Rattle.riak_msgs.specs.Text.{text_bytes}
use Rattle.riak_msgs.specs.Picking.{each_bytes, last_bytes, last_varint, flag_of}
use Rattle.riak_msgs.specs.Embedded.{ContentFields, StandForContent, all_of, content_of}
use Rattle.riak_msgs.specs.Reading.{first_fault, said_by, DecodesBy}

abbrev pub all_texts : List Text
all_texts = UnknownCode ∷ BadMessage ∷ MissingField ∷ EmptyName ∷ NoKey ∷ NoMemory ∷ MatchFound ∷ Modified ∷ NotFound ∷ BadContext
    ∷ TooManySiblings ∷ ClockFull ∷ EpochsUsedUp ∷ CounterUsedUp ∷ Moved ∷ HistoryFull ∷ BadFrame ∷ FrameTooLarge ∷ []

-- the error that has this text
abbrev pub text_named : List ℕ → Option Text
text_named bytes = find (λ text. bytes_eq (text_bytes text) bytes) all_texts

-- the text of an error reply, where it is one of this node's
abbrev pub text_in : List WireField → Option Text
text_in fields = option_and_then text_named (last_bytes 1 fields)

-- RpbErrorResp: another node's text is no message here; text and number are required, and the number isn't looked at
abbrev pub error_fault : List WireField → Option MsgFault
error_fault fields = first_fault (
    (is_some (last_bytes 1 fields) && is_none (text_in fields), faults.BadMessage)
    ∷ (is_none (last_bytes 1 fields) || is_none (last_varint 2 fields), faults.MissingField)
    ∷ [])

-- the fields of a reply, and those of each content in it
pub record ShownFields : Type 0 where
  pub own : List WireField
  pub contents : List ContentFields

-- the bytes stand for the reply's fields, and each of its contents for its own
pub record EncodesShown (bs : List ℕ) (reply : ShownFields) : Type 0 where
  pub own : Encodes bs reply.own
  pub contents : AllZip (λ content fields. StandForContent (content ∷ []) fields) (each_bytes 1 reply.own) reply.contents

-- a content, and whether it is a tombstone
abbrev pub shown_of : ContentFields → Option Shown
shown_of c = option_map (λ content. record { content = content; deleted = flag_of 11 c.own }) (content_of c)

-- the contents that are shown, where each is whole
abbrev pub contents_of : ShownFields → Option (List Shown)
contents_of reply = all_of (map shown_of reply.contents)

abbrev pub shown_fault : ShownFields → Option MsgFault
shown_fault reply = first_fault ((is_none (contents_of reply), faults.MissingField) ∷ [])

-- RpbGetResp
abbrev pub get_reply_of : ShownFields → GetReply
get_reply_of reply = record {
  contents = unwrap_or (contents_of reply) [];
  context = unwrap_or (last_bytes 2 reply.own) [];
  unchanged = flag_of 3 reply.own;
}

-- RpbPutResp
abbrev pub put_reply_of : ShownFields → PutReply
put_reply_of reply = record { contents = unwrap_or (contents_of reply) []; context = unwrap_or (last_bytes 2 reply.own) [] }

-- a code of a reply: of an error, or to a ping, a get, a put or a delete
abbrev pub IsReplyCode : ℕ → Type 0
IsReplyCode code = (code ≡ 0) ⊎ ((code ≡ 2) ⊎ ((code ≡ 10) ⊎ ((code ≡ 12) ⊎ (code ≡ 14))))

-- what a reply says; the body of a reply to a ping or a delete isn't looked at
abbrev pub DecodesReply : ℕ → List ℕ → Result Reply MsgFault → Type 0
DecodesReply code body said =
    ((code ≡ 0) × DecodesBy (Encodes body) (λ fields. said_by (error_fault fields) (replies.Error (unwrap_or (text_in fields) BadMessage))) said)
    ⊎ (((code ≡ 2) × (said ≡ Ok replies.Ping))
    ⊎ (((code ≡ 10) × DecodesBy (EncodesShown body) (λ reply. said_by (shown_fault reply) (replies.Get (get_reply_of reply))) said)
    ⊎ (((code ≡ 12) × DecodesBy (EncodesShown body) (λ reply. said_by (shown_fault reply) (replies.Put (put_reply_of reply))) said)
    ⊎ (((code ≡ 14) × (said ≡ Ok replies.Del))
    ⊎ (¬ (IsReplyCode code) × (said ≡ Err faults.UnknownCode))))))

-- what was read is what the reply says, and memory is refused only where it says one
abbrev pub ReadsReply : ℕ → List ℕ → Result Reply MsgFault → Type 0
ReadsReply code body (Ok reply) = DecodesReply code body (Ok reply)
ReadsReply code body (Err faults.UnknownCode) = DecodesReply code body (Err faults.UnknownCode)
ReadsReply code body (Err faults.BadMessage) = DecodesReply code body (Err faults.BadMessage)
ReadsReply code body (Err faults.MissingField) = DecodesReply code body (Err faults.MissingField)
ReadsReply code body (Err faults.EmptyName) = DecodesReply code body (Err faults.EmptyName)
ReadsReply code body (Err faults.NoKey) = DecodesReply code body (Err faults.NoKey)
ReadsReply code body (Err faults.NoMemory) = (reply : Reply) × DecodesReply code body (Ok reply)

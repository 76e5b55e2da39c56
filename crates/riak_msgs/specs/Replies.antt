-- The one encoding of a reply.
use Rattle.std.specs.Prelude.{ℕ, List, [], ◌++◌}
use Rattle.riak_msgs.specs.declared.text.Text.{Text}
use Rattle.riak_msgs.specs.declared.get.GetReply.{GetReply}
use Rattle.riak_msgs.specs.declared.put.PutReply.{PutReply}
use Rattle.riak_msgs.specs.declared.reply.Reply.{Reply}
use Rattle.riak_msgs.specs.declared.reply.Reply.TheVariants as replies
use Rattle.riak_msgs.specs.Text.{text_bytes}
use Rattle.pb_fields.specs.Encoding.{bytes_field, varint_field, bool_field, repeated_field}
use Rattle.riak_msgs.specs.Encoding.{context_field, shown_message}

-- RpbErrorResp: the text, and the one number that errors have here
abbrev pub error_body : Text → List ℕ
error_body text = bytes_field 1 (text_bytes text) ++ varint_field 2 1

-- RpbGetResp
abbrev pub get_reply_body : GetReply → List ℕ
get_reply_body r =
    repeated_field shown_message 1 r.contents ++ context_field 2 r.context ++ bool_field 3 r.unchanged

-- RpbPutResp
abbrev pub put_reply_body : PutReply → List ℕ
put_reply_body r = repeated_field shown_message 1 r.contents ++ context_field 2 r.context

-- the message code of a reply
abbrev pub reply_code : Reply → ℕ
reply_code (replies.Error text) = 0
reply_code replies.Ping = 2
reply_code (replies.Get r) = 10
reply_code (replies.Put r) = 12
reply_code replies.Del = 14

-- The one body of a reply: fields by rising number, repeated ones in their order, each varint in its shortest form. What is absent isn't
-- written, and neither is a false.
abbrev pub reply_body : Reply → List ℕ
reply_body (replies.Error text) = error_body text
reply_body replies.Ping = []
reply_body (replies.Get r) = get_reply_body r
reply_body (replies.Put r) = put_reply_body r
reply_body replies.Del = []

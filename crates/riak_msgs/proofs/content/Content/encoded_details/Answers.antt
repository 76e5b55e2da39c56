use Rattle.std.proofs.Common.{◌≡◌, ◌+◌, length, ap, sym, refl, ◌∙◌}
use Rattle.pb_fields.specs.Encoding.{bytes_field}
use Rattle.riak_msgs.proofs.KeptContents.{behind-drop, content_message-bare}
use Rattle.riak_msgs.proofs.content.Content.encoded_details.Goals as goal

pub returns : goal.returns
returns c =
    let content = c.args.self.now in
    let counted : c.encode_bytes.new.self.len ≡ 0 + length (bytes_field 1 content.value) =
    c.in_ok-encode_bytes.ensures ∙ ap (λ value. 0 + length (bytes_field 1 value)) c.value.ensures in
    sym (content_message-bare content _ _ _ refl (behind-drop content _ _ c.encoding-encoding.ensures.encoding counted) refl)

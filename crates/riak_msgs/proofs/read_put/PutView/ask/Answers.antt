use Rattle.std.proofs.Common.{◌≡◌, [], refl, ap, sym, ◌∙◌}
use Rattle.std.specs.Prelude.{unwrap_or}
use Rattle.riak_msgs.specs.Contents.{no_content}
use Rattle.riak_msgs.specs.Embedded.{content_of}
use Rattle.riak_msgs.specs.Reading.{bytes_or_none, named_key}
use Rattle.riak_msgs.proofs.Requests.{unwrap_or-copied}
use Rattle.riak_msgs.proofs.RequestsCopied.{content_of-put}
use Rattle.riak_msgs.proofs.read_put.PutView.ask.Goals as goal

pub returns-clause-ok : goal.returns-clause-ok
returns-clause-ok c = λ put is stands none.
    let key : c.in_ok-key.field-0 ≡ named_key 16 put.own = c.in_ok-key.ensures 16 put.own is.names in
    let context : c.in_ok-from_slice.field-0 ≡ bytes_or_none 3 put.own =
    c.in_ok-from_slice.ensures ∙ ap (λ b. b.now) c.unwrap_or.ensures ∙ unwrap_or-copied c.args.self.now.context _
    ∙ ap (λ o. unwrap_or o []) is.context in
    let content : c.in_ok-content.field-0 ≡ unwrap_or (content_of put.content) no_content =
    c.in_ok-content.ensures.ok put is stands ∙ sym (content_of-put put none) in
    rw (key, context, content, is.flags.return_body, is.flags.return_head, is.flags.if_not_modified, is.flags.if_none_match) refl

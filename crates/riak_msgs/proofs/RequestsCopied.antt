-- The content of a put without fault.
use Rattle.std.proofs.Common.{◌≡◌, Option, Some, None, unwrap_or, Bool, true, false, ◌||◌, is_some, is_none, if◌then◌else◌, refl, ap, sym}
use Rattle.riak_msgs.specs.declared.fault.MsgFault.{MsgFault}
use Rattle.riak_msgs.specs.declared.fault.MsgFault.TheVariants.{MissingField}
use Rattle.riak_msgs.specs.Contents.{no_content}
use Rattle.riak_msgs.specs.Contents.{Content}
use Rattle.riak_msgs.specs.Picking.{last_bytes}
use Rattle.riak_msgs.specs.Embedded.{content_of}
use Rattle.riak_msgs.specs.Reading.{PutFields, put_fault}
use Rattle.riak_msgs.specs.Seen.{scalars_of, with_parts}
use Rattle.riak_msgs.proofs.Contents.{content_of-whole}

-- a put without fault has a content
whole_content : (is_missing : Bool) (content : Option Content) (fault : MsgFault) (other : Option MsgFault) →
    None ≡ (if is_missing || is_none content then Some fault else other) → is_some content ≡ true
whole_content is_missing (Some content) fault other none = refl
whole_content true None fault other none = sym (ap is_none none)
whole_content false None fault other none = sym (ap is_none none)

-- the content of a put without fault
pub content_of-put : (put : PutFields) → None ≡ put_fault put →
    unwrap_or (content_of put.content) no_content ≡ with_parts (scalars_of put.content) put.content
content_of-put put none =
    ap (λ content. unwrap_or content no_content)
    (content_of-whole put.content (whole_content (is_none (last_bytes 1 put.own)) (content_of put.content) MissingField _ none))

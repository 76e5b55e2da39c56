use Rattle.std.proofs.Common.{ap, ◌∙◌}
use Rattle.riak_msgs.specs.ContentEncoding.{content_message}
use Rattle.riak_msgs.proofs.KeptContents.{kept_encoding}
use Rattle.riak_msgs.proofs.content.Content.encoding.Goals as goal

pub returns-clause-encoding : goal.returns-clause-encoding
returns-clause-encoding c =
    c.as_slice.ensures.value ∙ kept_encoding _ c.self.inside.kept ∙ ap content_message c.self.view_is

use Rattle.std.proofs.Common.{◌∙◌}
use Rattle.riak_msgs.proofs.KeptContents.{kept_same}
use Rattle.riak_msgs.proofs.content.Content.clone.Goals as goal

pub returns : goal.returns
returns c = kept_same _ _ _ c.self.inside.kept c.in_ok-clone.ensures.cases ∙ c.self.view_is

use Rattle.std.proofs.Common.{◌∙◌}
use Rattle.riak_msgs.proofs.KeptContents.{kept_as}
use Rattle.riak_msgs.proofs.content.Content.of_encoding.Goals as goal

pub returns : goal.returns
returns c = λ content is. kept_as _ _ content (c.in_ok-from_vec.ensures ∙ is)

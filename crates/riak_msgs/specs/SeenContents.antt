-- The content of a view to which links and pairs are added.
use Rattle.riak_msgs.specs.Content.{Content}
use Rattle.riak_msgs.specs.Details.{content_with}
use Rattle.riak_msgs.specs.declared.content_view.PartsView.{PartsView}

abbrev pub content_in : PartsView → Content
content_in parts = content_with parts.value.now parts.details

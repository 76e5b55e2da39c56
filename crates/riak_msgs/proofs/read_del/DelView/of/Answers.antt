use Rattle.pb_fields.proofs.Merging.{MergesAll-tracks}
use Rattle.riak_msgs.specs.SeenRequests.{IsSeenDelOf}
use Rattle.riak_msgs.proofs.read_del.DelView.of.Goals as goal

pub returns-clause-ok : goal.returns-clause-ok
returns-clause-ok c =
    let (fields, stands, all) = c.in_ok-scan.ensures.ok in
    (fields, stands, MergesAll-tracks IsSeenDelOf c.new-view.result c.scan.new.into fields c.new-view.ensures all)

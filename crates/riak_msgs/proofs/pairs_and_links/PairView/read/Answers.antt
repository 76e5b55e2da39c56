use Rattle.std.proofs.Common.{refl}
use Rattle.pb_fields.proofs.Merging.{MergesAll-tracks}
use Rattle.riak_msgs.specs.Seen.{IsPartOf}
use Rattle.riak_msgs.proofs.pairs_and_links.PairView.read.Goals as goal

pub returns-clause-ok : goal.returns-clause-ok
returns-clause-ok c =
    let (fields, stands, all) = c.in_ok-scan.ensures.ok in
    (fields, stands, MergesAll-tracks IsPartOf _ c.scan.new.into fields (record { first = refl; second = refl; third = refl }) all)

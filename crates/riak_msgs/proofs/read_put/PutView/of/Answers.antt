use Rattle.std.proofs.Common.{List, refl, sym, subst}
use Rattle.pb_fields.specs.Field.{WireField}
use Rattle.pb_fields.specs.Message.{Encodes}
use Rattle.pb_fields.proofs.Merging.{MergesAll-tracks}
use Rattle.riak_msgs.specs.Picking.{each_bytes}
use Rattle.riak_msgs.specs.Embedded.{StandForContent}
use Rattle.riak_msgs.specs.SeenRequests.{HasSeenPut, no_put}
use Rattle.riak_msgs.proofs.Contents.{StandForContent-nil}
use Rattle.riak_msgs.proofs.Walks.{OnErr-always}
use Rattle.riak_msgs.proofs.Scans.{put_not_seen}
use Rattle.riak_msgs.proofs.read_put.PutView.of.Goals as goal

pub returns-in_err-scan-clause-err : goal.returns-in_err-scan-clause-err
returns-in_err-scan-clause-err c =
    OnErr-always c.from_residual.result (λ put there.
    put_not_seen put.own c.in_err-scan.field-0.0 put.content (c.in_err-scan.ensures.err put.own there.own) there.content)

pub returns-clause-ok : goal.returns-clause-ok
returns-clause-ok c =
    let (fields, stands, all) = c.in_ok-scan.ensures.ok in
    let (put, own, content, is) = MergesAll-tracks HasSeenPut c.new-view.result c.scan.new.into fields (no_put, refl, StandForContent-nil, c.new-view.ensures) all in
    let P : List WireField → Type 0 = Encodes c.args.body.now in
    let Q : List WireField → Type 0 = λ fs. StandForContent (each_bytes 4 fs) put.content in
    (put, record { own = subst P (sym own) stands; content = subst Q (sym own) content }, is)

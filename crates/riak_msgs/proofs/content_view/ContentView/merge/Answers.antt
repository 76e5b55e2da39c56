use Rattle.std.proofs.lemmas.Result.{on_ok_weaker}
use Rattle.riak_msgs.proofs.ContentsWalked.{HoldContent-one, StandForContent-one}
use Rattle.riak_msgs.proofs.Walks.{OnErr-from_IfErr}
use Rattle.riak_msgs.proofs.Scans.{content_seen, content_not_seen}
use Rattle.riak_msgs.proofs.content_view.ContentView.merge.Goals as goal

pub returns-clause-ok : goal.returns-clause-ok
returns-clause-ok c = λ d is.
    on_ok_weaker c.scan.result (λ all.
    let seen = content_seen c.args.self.now c.scan.new.into all.0 all.2 in
    (seen.0, StandForContent-one c.args.bytes.now all.0 seen.0 all.1 seen.1, seen.2 d is)) c.scan.ensures.ok

pub returns-clause-err : goal.returns-clause-err
returns-clause-err c =
    OnErr-from_IfErr c.scan.result _ _ (λ fault refused part all.
    let one = HoldContent-one c.args.bytes.now part all in
    content_not_seen part.own fault part (refused part.own one.0) one.1) c.scan.ensures.err

use Rattle.std.proofs.lemmas.Result.{on_ok_weaker}
use Rattle.riak_msgs.specs.SeenContents.{content_in}
use Rattle.std.proofs.lemmas.Result.{IfErr-weaker}
use Rattle.riak_msgs.proofs.ContentsWalked.{HoldContent-one, StandForContent-one}
use Rattle.riak_msgs.proofs.Scans.{parts_copied, parts_not_copied}
use Rattle.riak_msgs.proofs.content_view.merge_parts.Goals as goal

pub returns-clause-ok : goal.returns-clause-ok
returns-clause-ok c =
    on_ok_weaker c.scan.result (λ all.
    let copied = parts_copied content_in c.args.parts.now c.scan.new.into all.0 all.2 in
    (copied.0, StandForContent-one c.args.bytes.now all.0 copied.0 all.1 copied.1, copied.2)) c.scan.ensures.ok

pub returns-clause-err : goal.returns-clause-err
returns-clause-err c = λ part all.
    let one = HoldContent-one c.args.bytes.now part all in
    IfErr-weaker c.scan.result _ _ (λ fault refused. parts_not_copied part.own fault part (refused part.own one.0) one.1) c.scan.ensures.err

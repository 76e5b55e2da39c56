use Rattle.std.proofs.lemmas.Result.{on_ok_weaker, IfErr-weaker}
use Rattle.riak_msgs.proofs.ContentsWalked.{HoldContent-one}
use Rattle.riak_msgs.proofs.PartsAppended.{occurrence_appended, parts_appended}
use Rattle.riak_msgs.proofs.Scans.{parts_not_copied}
use Rattle.riak_msgs.proofs.parts_encoder.PartsEncoder.append_occurrence.Goals as goal

pub returns-clause-kind : goal.returns-clause-kind
returns-clause-kind c =
    on_ok_weaker c.scan.result (λ all. (parts_appended c.args.self.now c.scan.new.into all.0 all.2).0) c.scan.ensures.ok

pub returns-clause-ok : goal.returns-clause-ok
returns-clause-ok c = λ part whole.
    on_ok_weaker c.scan.result (λ all.
    occurrence_appended c.args.self.now c.scan.new.into c.args.bytes.now all.0 part all.1 all.2 whole) c.scan.ensures.ok

pub returns-clause-err : goal.returns-clause-err
returns-clause-err c = λ part whole.
    let one = HoldContent-one c.args.bytes.now part whole in
    IfErr-weaker c.scan.result _ _ (λ fault refused. parts_not_copied part.own fault part (refused part.own one.0) one.1) c.scan.ensures.err

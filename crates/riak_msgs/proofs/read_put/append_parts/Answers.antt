use Rattle.std.proofs.Common.{◌≡◌, List, subst}
use Rattle.std.proofs.lemmas.Result.{err_from_is_err_and}
use Rattle.pb_fields.specs.Field.{WireField}
use Rattle.pb_fields.proofs.Lists.{fields_once}
use Rattle.riak_msgs.specs.Embedded.{StandForContent}
use Rattle.riak_msgs.specs.Picking.{each_bytes}
use Rattle.riak_msgs.proofs.PartsAppended.{occurrences_appended}
use Rattle.riak_msgs.proofs.Scans.{occurrences_not_copied}
use Rattle.riak_msgs.proofs.read_put.append_parts.Goals as goal

pub returns-in_err-scan-clause-err : goal.returns-in_err-scan-clause-err
returns-in_err-scan-clause-err c = λ put stands.
    let p = err_from_is_err_and c.from_residual.result c.from_residual.ensures.1 in
    rw (p.1, p.2)
    (occurrences_not_copied put.own c.in_err-scan.field-0.0 put.content (c.in_err-scan.ensures.err put.own stands.own) stands.content)

pub returns-clause-ok : goal.returns-clause-ok
returns-clause-ok c = λ put seen stands.
    let (fields, same, all) = c.in_ok-scan.ensures.ok in
    let P : List WireField → Type 0 = λ fs. StandForContent (each_bytes 4 fs) put.content in
    let own : put.own ≡ fields = fields_once c.args.body.now put.own fields stands.own same in
    (occurrences_appended _ c.scan.new.into fields all).1 put.content (subst P own stands.content)

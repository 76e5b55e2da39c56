use Rattle.std.proofs.Common.{[], ◌∙◌, ap, inr, refl, sym}
use Rattle.std.specs.Prelude.{unwrap_or}
use Rattle.std.proofs.lemmas.Result.{err_from_is_err_and}
use Rattle.riak_msgs.specs.ReadingReplies.{get_reply_of}
use Rattle.riak_msgs.proofs.RepliesSaid.{DecodesShown-whole, DecodesShown-missing, DecodesShown-copied, now-unwrap_or}
use Rattle.riak_msgs.proofs.Scans.{reply_seen, reply_not_seen}
use Rattle.riak_msgs.proofs.reply_view.read_shown.Goals as goal

pub returns-in_err-scan : goal.returns-in_err-scan
returns-in_err-scan c =
    let p = err_from_is_err_and c.from_residual.result c.from_residual.ensures.1 in
    rw (p.1, p.2)
    (inr (λ reply stands. reply_not_seen reply.own c.in_err-scan.field-0.0 reply.contents (c.in_err-scan.ensures.err reply.own stands.own) stands.contents, refl))

pub returns-then-view : goal.returns-then-view
returns-then-view c =
    let (fields, stands, all) = c.in_ok-scan.ensures.ok in
    let (reply, shown, is) = reply_seen c.args.body.now _ c.scan.new.into fields (record { context = refl; unchanged = refl; misses_field = refl; contents = λ _ _. c.new.ensures }) stands all in
    DecodesShown-missing c.args.body.now reply shown (sym is.misses_field ∙ c.if-view.true)

pub returns-then-view-2 : goal.returns-then-view-2
returns-then-view-2 c =
    let (fields, stands, all) = c.in_ok-scan.ensures.ok in
    let (reply, shown, is) = reply_seen c.args.body.now _ c.scan.new.into fields (record { context = refl; unchanged = refl; misses_field = refl; contents = λ _ _. c.new.ensures }) stands all in
    (get_reply_of reply, DecodesShown-whole c.args.body.now reply shown (sym is.misses_field ∙ c.if-view.false))

pub returns-in_err-context : goal.returns-in_err-context
returns-in_err-context c =
    let p = err_from_is_err_and c.from_residual-in_err-context.result c.from_residual-in_err-context.ensures.1 in
    let (fields, stands, all) = c.in_ok-scan.ensures.ok in
    let (reply, shown, is) = reply_seen c.args.body.now _ c.scan.new.into fields (record { context = refl; unchanged = refl; misses_field = refl; contents = λ _ _. c.new.ensures }) stands all in
    rw (p.1, p.2) (get_reply_of reply, DecodesShown-whole c.args.body.now reply shown (sym is.misses_field ∙ c.if-view.false))

pub returns : goal.returns
returns c =
    let (fields, stands, all) = c.in_ok-scan.ensures.ok in
    let (reply, shown, is) = reply_seen c.args.body.now _ c.scan.new.into fields (record { context = refl; unchanged = refl; misses_field = refl; contents = λ _ _. c.new.ensures }) stands all in
    DecodesShown-copied c.args.body.now reply reply c.scan.new.into.contents c.in_ok-context.context c.scan.new.into.unchanged
    shown shown (sym is.misses_field ∙ c.if-view.false) (is.contents c.if-view.false c.if-view-2.false)
    (c.in_ok-context.ensures ∙ now-unwrap_or c.scan.new.into.context _ c.unwrap_or.result c.unwrap_or.ensures refl ∙ ap (λ o. unwrap_or o []) is.context)
    is.unchanged

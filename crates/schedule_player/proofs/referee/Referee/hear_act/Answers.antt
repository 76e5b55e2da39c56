use Rattle.std.proofs.Common.{OnOk, map, option_copied, ◌≡◌, ◌∙◌, ap, sym, subst}
use Rattle.node_steps.specs.declared.outcome.Outcome.{Outcome as Returned}
use Rattle.schedule_player.specs.Calls.{call_in}
use Rattle.schedule_player.specs.Heard.{Heard, after_act, last_call}
use Rattle.schedule_player.proofs.Hearing.{heard_reply}
use Rattle.schedule_player.proofs.referee.Referee.hear_act.Goals as goal

pub returns-in-Reply : goal.returns-in-Reply
returns-in-Reply c =
    let line = c.args.line in
    let worker = c.args.worker in
    let calls = map call_in c.self.inside.calls.items in
    let known = c.self.inside.comparison in
    let new : Heard = record { calls = calls; compared = c.compare.new.comparison } in
    let old : Heard = record { calls = calls; compared = known } in
    let last = c.last_call-last.ensures ∙ ap (λ xs. last_call (map call_in xs) worker) c.as_slice.ensures.value in
    subst (λ (h : Heard). OnOk c.compare.result (new ≡ after_act line worker (call_in c.args.call) c.args.outcome.now h)) c.self.view_is
    (subst (λ (o : Returned). OnOk c.compare.result (new ≡ after_act line worker (call_in c.args.call) o old)) (sym c.in-Reply.is)
    (heard_reply calls known line worker (call_in c.args.call) (option_copied c.last_call-last.result) c.compare.result c.in-Reply.reply c.compare.new.comparison last c.compare.ensures))

use Rattle.std.proofs.Common.{refl, subst}
use Rattle.std.specs.Prelude.{MatchBool}
use mathlib.Core.List.{IsPrefix}
use Rattle.handoff.proofs.Stopping.{begins-same}
use Rattle.handoff.proofs.returning.begins.Goals as goal

pub returns-then-is_behind : goal.returns-then-is_behind
returns-then-is_behind c =
    let first = c.args.first.now.prefix in
    let last = c.args.last.now.prefix in
    (λ e. subst (λ b. MatchBool b (IsPrefix first last) (IsPrefix last first)) c.if-is_behind.true c.is_behind.ensures, λ begins. refl)

pub returns : goal.returns
returns c =
    let first = c.args.first.now.prefix in
    let last = c.args.last.now.prefix in
    begins-same first last (subst (λ b. MatchBool b (IsPrefix first last) (IsPrefix last first)) c.if-is_behind.false c.is_behind.ensures)
    c.seen.result c.seen-2.result c.seen.ensures.length c.seen-2.ensures.length
